-- With a day for activities, else without.
use Rattle.octets.proofs.Tests.{flag-nt, flag-nf}
use Rattle.requests.proofs.SentLaws.{result-data, out-data, request-day, request-only}
use Rattle.std.proofs.Common.{rules}
use Rattle.requests.proofs.sent.write_transfer_request.Goals as goal

ruleset all = (rules, flag-nt, flag-nf, result-data, out-data, request-day, request-only)

pub returns-then-not-is_activities-clause-value : goal.returns-then-not-is_activities-clause-value
returns-then-not-is_activities-clause-value c = search all

pub returns-then-not-is_activities-clause-out_after : goal.returns-then-not-is_activities-clause-out_after
returns-then-not-is_activities-clause-out_after c = search all

pub returns-clause-value : goal.returns-clause-value
returns-clause-value c = search all

pub returns-clause-out_after : goal.returns-clause-out_after
returns-clause-out_after c = search all

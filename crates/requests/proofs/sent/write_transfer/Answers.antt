-- The request, or the acknowledgement.
use Rattle.requests.proofs.SentLaws.{result-data, out-data, transfer-first, transfer-next}
use Rattle.std.proofs.Common.{rules}
use Rattle.requests.proofs.sent.write_transfer.Goals as goal

ruleset all = (rules, result-data, out-data, transfer-first, transfer-next)

pub returns-then-expected-eq1-clause-value : goal.returns-then-expected-eq1-clause-value
returns-then-expected-eq1-clause-value c = search all

pub returns-then-expected-eq1-clause-out_after : goal.returns-then-expected-eq1-clause-out_after
returns-then-expected-eq1-clause-out_after c = search all

pub returns-clause-value : goal.returns-clause-value
returns-clause-value c = search all

pub returns-clause-out_after : goal.returns-clause-out_after
returns-clause-out_after c = search all

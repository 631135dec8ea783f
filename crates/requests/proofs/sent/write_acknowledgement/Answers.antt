-- The code in two bytes.
use Rattle.requests.proofs.SentLaws.{result-data, out-data, code-bytes}
use Rattle.std.proofs.Common.{rules}
use Rattle.requests.proofs.sent.write_acknowledgement.Goals as goal

ruleset all = (rules, result-data, out-data, code-bytes)

pub returns-clause-value : goal.returns-clause-value
returns-clause-value c = search all

pub returns-clause-out_after : goal.returns-clause-out_after
returns-clause-out_after c = search all

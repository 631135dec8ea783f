-- A frame of its data.
use Rattle.frame.proofs.WriteLaws.{written-sends, written-sent}
use Rattle.std.proofs.Common.{rules}
use Rattle.requests.proofs.sent.write_data.Goals as goal

ruleset all = (rules, written-sends, written-sent)

pub returns-clause-value : goal.returns-clause-value
returns-clause-value c = search all

pub returns-clause-out_after : goal.returns-clause-out_after
returns-clause-out_after c = search all

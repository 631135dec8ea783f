-- The form decides which count is right.
use Rattle.frame.proofs.CheckLaws.{count-without, count-zero, count-by-len}
use Rattle.std.proofs.Common.{rules}
use Rattle.frame.proofs.check.Fields.count_right.Goals as goal

ruleset all = (rules, count-without, count-zero, count-by-len)

pub returns-then-frame : goal.returns-then-frame
returns-then-frame c = search all

pub returns-then-len-eq0 : goal.returns-then-len-eq0
returns-then-len-eq0 c = search all

pub returns : goal.returns
returns c = search all

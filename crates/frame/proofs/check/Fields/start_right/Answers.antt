-- One return for each end.
use Rattle.frame.proofs.CheckLaws.{start-at-unit, start-at-tool}
use Rattle.std.proofs.Common.{rules}
use Rattle.frame.proofs.check.Fields.start_right.Goals as goal

ruleset all = (rules, start-at-unit, start-at-tool)

pub returns-in-Unit : goal.returns-in-Unit
returns-in-Unit c = search all

pub returns-in-Tool : goal.returns-in-Tool
returns-in-Tool c = search all

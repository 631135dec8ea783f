-- Activities, or zero.
use Rattle.catalog.proofs.DayLaws.{named-is}
use Rattle.std.proofs.Common.{rules}
use Rattle.catalog.proofs.day_named.Goals as goal

ruleset all = (rules, named-is)

pub returns : goal.returns
returns c = search all

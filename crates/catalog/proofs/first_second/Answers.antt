-- The remainder is taken off.
use Rattle.catalog.proofs.DayLaws.{remainder-off}
use Rattle.std.proofs.Common.{rules}
use Rattle.catalog.proofs.first_second.Goals as goal

pub returns : goal.returns
returns c = search (rules, remainder-off)

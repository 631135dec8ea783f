-- Activities under the first second of the day, all else as it is.
use Rattle.catalog.proofs.DayLaws.{activities-kept, other-kept}
use Rattle.std.proofs.Common.{rules}
use Rattle.catalog.proofs.rounded.Goals as goal

ruleset all = (rules, activities-kept, other-kept)

pub returns-then-is_activities : goal.returns-then-is_activities
returns-then-is_activities c = search all

pub returns : goal.returns
returns c = search all

-- A multiple of 86,400 for activities, else zero.
use Rattle.octets.proofs.Tests.{cond-t, cond-f, flag-t, flag-f}
use Rattle.catalog.specs.Name.{day_stored}
use Rattle.catalog.proofs.DayLaws.{multiple-is}
use Rattle.std.proofs.Common.{rules}
use Rattle.catalog.proofs.day_stored.Goals as goal

ruleset all = (rules, cond-t, cond-f, flag-t, flag-f, multiple-is)

pub returns-then-is_activities : goal.returns-then-is_activities
unfolding day_stored
returns-then-is_activities c = search all

pub returns-else-is_activities : goal.returns-else-is_activities
unfolding day_stored
returns-else-is_activities c = search all

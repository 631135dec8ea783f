-- Each return is the first check that fails.
use Rattle.octets.proofs.Tests.{early}
use Rattle.catalog.specs.Name.{name_number}
use Rattle.std.proofs.Common.{rules}
use Rattle.catalog.proofs.check_name.Goals as goal

ruleset all = (rules, early)

pub returns-then-not-is_listed : goal.returns-then-not-is_listed
unfolding name_number
returns-then-not-is_listed c = search all

pub returns-then-not-day_named : goal.returns-then-not-day_named
unfolding name_number
returns-then-not-day_named c = search all

pub returns : goal.returns
unfolding name_number
returns c = search all

-- Each return is the first test that decides.
use Rattle.states.proofs.UnitLaws.{unit-length, unit-sending, unit-phase, unit-trep, unit-day, unit-last}
use Rattle.std.proofs.Common.{rules}
use Rattle.states.proofs.pack_unit.is_state.Goals as goal

ruleset all = (rules, unit-length, unit-sending, unit-phase, unit-trep, unit-day, unit-last)

pub returns-then-bytes-ne-SIZE : goal.returns-then-bytes-ne-SIZE
returns-then-bytes-ne-SIZE c = search all

pub returns-then-bytes-eq4 : goal.returns-then-bytes-eq4
returns-then-bytes-eq4 c = search all

pub returns-then-bytes-gt3 : goal.returns-then-bytes-gt3
returns-then-bytes-gt3 c = search all

pub returns-then-bytes-ne0 : goal.returns-then-bytes-ne0
returns-then-bytes-ne0 c = search all

pub returns-then-number_at-ne0 : goal.returns-then-number_at-ne0
returns-then-number_at-ne0 c = search all

pub returns : goal.returns
returns c = search all

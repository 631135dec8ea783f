-- The bytes of the state.
use Rattle.states.proofs.UnitLaws.{unit-packed}
use Rattle.std.proofs.Common.{rules}
use Rattle.states.proofs.pack_unit.pack.Goals as goal

ruleset all = (rules, unit-packed)

pub returns : goal.returns
returns c = search all

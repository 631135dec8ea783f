-- Each field as it stands.
use Rattle.states.proofs.UnitLaws.{unit-some}
use Rattle.std.proofs.Common.{rules}
use Rattle.states.proofs.pack_unit.state_in.Goals as goal

ruleset all = (rules, unit-some)

pub returns : goal.returns
returns c = search all

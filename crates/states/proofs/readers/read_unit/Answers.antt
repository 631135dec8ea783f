-- The number of the state, or that of none.
use Rattle.states.specs.Readers.{unit_value, unit_read}
use Rattle.states.proofs.ReaderLaws.{read-some, read-none}
use Rattle.states.proofs.readers.read_unit.Goals as goal

pub returns-in-Some : goal.returns-in-Some
unfolding unit_read
returns-in-Some c = read-some _ c.in-Some.unit _ (unit_value c.args.what) _ _ c.in-Some.ensures c.unit_value.ensures

pub returns-in-None : goal.returns-in-None
unfolding unit_read
returns-in-None c = read-none _ _ (unit_value c.args.what) _ c.in-None.ensures

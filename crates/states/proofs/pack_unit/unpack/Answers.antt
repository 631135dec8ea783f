-- The state in the bytes, or the impossible one.
use Rattle.states.specs.Packed.{unpacked_unit}
use Rattle.states.proofs.ReaderLaws.{unpacked-or}
use Rattle.states.proofs.pack_unit.unpack.Goals as goal

pub returns : goal.returns
unfolding unpacked_unit
returns c = unpacked-or _ _ _ _ _ _ c.state_in.ensures c.no_unit.ensures c.unwrap_or.ensures

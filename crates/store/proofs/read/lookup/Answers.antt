-- The part at the place that `locate` gives.
use Rattle.store.specs.Read.{lookup_part}
use Rattle.octets.proofs.CallLaws.{part_of}
use Rattle.store.proofs.read.lookup.Goals as goal

pub returns : goal.returns
unfolding lookup_part
returns c = search part_of

-- The part at the place that `locate_stream` gives.
use Rattle.store.specs.Read.{stream_part}
use Rattle.octets.proofs.CallLaws.{part_of}
use Rattle.store.proofs.read.stream.Goals as goal

pub returns : goal.returns
unfolding stream_part
returns c = search part_of

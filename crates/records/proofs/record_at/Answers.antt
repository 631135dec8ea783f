-- The part at the place that `record_place` gives.
use Rattle.records.specs.Arrays.{record_of}
use Rattle.octets.proofs.CallLaws.{part_of}
use Rattle.records.proofs.record_at.Goals as goal

pub returns : goal.returns
unfolding record_of
returns c = search part_of

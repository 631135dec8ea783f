-- The part at the place that `locate` gives.
use Rattle.frame.specs.Given.{data_given}
use Rattle.octets.proofs.CallLaws.{part_of}
use Rattle.frame.proofs.call.data_of.Goals as goal

pub returns : goal.returns
unfolding data_given
returns c = search part_of

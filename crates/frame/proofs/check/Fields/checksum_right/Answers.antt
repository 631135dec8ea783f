-- The checksum of all bytes but the last is compared with the last.
use Rattle.frame.specs.Frame.{checksum_right}
use Rattle.frame.proofs.check.Fields.checksum_right.Goals as goal

pub returns : goal.returns
unfolding checksum_right
returns c = cc

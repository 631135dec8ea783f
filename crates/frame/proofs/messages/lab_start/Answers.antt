-- The fixed string is the start frame at the lab's addresses.
use mathlib.Core.Path.{refl}
use Rattle.frame.specs.Frame.{closed}
use Rattle.frame.proofs.messages.lab_start.Goals as goal

pub returns : goal.returns
unfolding closed
returns c = refl

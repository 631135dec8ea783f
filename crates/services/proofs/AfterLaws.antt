-- The state behind a reaction, from the tests of the code.
use Prim.Native.Nat.{ℕ}
use mathlib.Core.Bool.{Bool, true, false}
use mathlib.Core.Path.{◌≡◌}
use Rattle.octets.specs.declared.Part.{Part}
use Rattle.catalog.specs.declared.AnswerName.{AnswerName}
use Rattle.split.specs.Split.{is_split}
use Rattle.split.specs.declared.SubMessage.{SubMessage}
use Rattle.services.specs.declared.Phase.{Phase}
use Rattle.services.specs.declared.Phase.TheVariants.{Granted, Sending}
use Rattle.services.specs.declared.UnitState.{UnitState}
use Rattle.services.specs.declared.Reaction.{Reaction}
use Rattle.services.specs.declared.Reaction.TheVariants.{AnswerSent}
use Rattle.services.specs.State.{data_length}
use Rattle.services.specs.After.{with_phase, phase_after, state_after}
use Rattle.services.proofs.StateLaws.{split-is}

-- the phase behind an answer; n is the length of its data, t whether it is split
module _ (name : AnswerName) (k : SubMessage) (part : Part) (n : ℕ) (t : Bool) where
  pub after-split : n ≡ data_length part → t ≡ is_split n → t ≡ true → Sending name k ≡ phase_after name k part
  after-split measured asked h = rw (split-is part n t measured asked, h)

  pub after-whole : n ≡ data_length part → t ≡ is_split n → t ≡ false → Granted ≡ phase_after name k part
  after-whole measured asked h = rw (split-is part n t measured asked, h)

-- the state behind a reaction x, which is y
pub state-is : (u v : UnitState) (x y : Reaction) → x ≡ y → v ≡ state_after u y → v ≡ state_after u x
state-is u v x y e q = rw e q

pub state-sent : (u v : UnitState) (x : Reaction) (name : AnswerName) (k : SubMessage) (part : Part) (p : Phase)
    → x ≡ AnswerSent name k part → p ≡ phase_after name k part → v ≡ with_phase u p → v ≡ state_after u x
unfolding state_after
state-sent u v x name k part p e f q = rw (e, ← f) q

-- What is known where the bytes of a string that arrives are taken.
use Prim.Native.Nat.{ℕ}
use mathlib.Core.Bool.{Bool, true, false, cond}
use mathlib.Core.List.{List}
use mathlib.Core.Path.{◌≡◌, refl}
use lib.Dec.{eqb}
use lib.ListN.{length, get_or}
use Rattle.octets.specs.Buffer.{same_bytes}
use Rattle.octets.proofs.Tests.{never}
use Rattle.frame.specs.declared.Addresses.{Addresses}
use Rattle.frame.specs.declared.End.TheVariants as ends
use Rattle.frame.specs.Frame.{judged, data_of}
use Rattle.split.specs.declared.Received.{Received}
use Rattle.split.specs.declared.Received.TheVariants.{Whole, Full, Last, Above, Other}
use Rattle.progress.specs.declared.ToolState.{ToolState}
use Rattle.arrival.specs.declared.Meaning.{Meaning}
use Rattle.arrival.specs.declared.Meaning.TheVariants.{Ignored, FailedWait, Confirmed, RefusedBy}
use Rattle.progress.specs.State.{is_transfer}
use Rattle.arrival.specs.Replies.{reply_wanted}
use Rattle.arrival.specs.Meaning.{new_bytes, fits, meaning_of, received_by, transfer_meaning, is_refusal, refusal_meaning, data_meaning, arrival_meaning, arrival_bytes}
use Rattle.arrival.specs.Meaning.{takes}

-- Where bytes are taken: a transfer, and they fit

taken-fit : (x : Received) (f : Bool) → takes (meaning_of x f) ≡ true → f ≡ true
unfolding takes meaning_of
taken-fit Whole true e = refl
taken-fit Full true e = refl
taken-fit Last true e = refl
taken-fit Whole false e = never (cc)
taken-fit Full false e = never (cc)
taken-fit Last false e = never (cc)
taken-fit Above f e = never (cc)
taken-fit Other f e = never (cc)

taken-tests : (g r f s w : Bool) (code : ℕ) (m : Meaning)
    → takes (cond g (cond r (cond w Ignored (RefusedBy code)) (cond f m (cond s Confirmed Ignored))) FailedWait) ≡ true → (f ≡ true) × (takes m ≡ true)
unfolding takes
taken-tests true false true s w code m e = (refl, e)
taken-tests true true f s true code m e = never (cc)
taken-tests true true f s false code m e = never (cc)
taken-tests true false false true w code m e = never (cc)
taken-tests true false false false w code m e = never (cc)
taken-tests false r f s w code m e = never (cc)

-- n is the length of the new bytes
pub record Taken (room_len : ℕ) (t : ToolState) (n : ℕ) : Type 0 where
  pub transfer : is_transfer t.request ≡ true
  pub fit : fits room_len t n ≡ true

pub taken : (a : Addresses) (room_len : ℕ) (t : ToolState) (b : List ℕ) → takes (arrival_meaning a room_len t b) ≡ true
    → Taken room_len t (length (arrival_bytes a t b))
unfolding arrival_meaning data_meaning refusal_meaning transfer_meaning arrival_bytes
taken a room_len t b e =
    let d : List ℕ = data_of a ends.Tool b in
    let x : Received = received_by t d in
    let n : ℕ = length (new_bytes t x d) in
    let q =
    taken-tests (eqb (judged a ends.Tool b) 0) (is_refusal t d) (is_transfer t.request) (same_bytes d (reply_wanted t.request))
    (eqb (get_or d 2 0) 0x78) (get_or d 2 0) (meaning_of x (fits room_len t n)) e in
    record { transfer = q.0; fit = taken-fit x (fits room_len t n) q.1 }

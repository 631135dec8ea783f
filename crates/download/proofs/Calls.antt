-- From a call's promise to the line: the bytes that a host finds at the front of a call's output are the string that the end puts out, and a refused begin
-- changes nothing.
use Prim.Native.Nat.{ℕ}
use mathlib.Core.Bool.{Bool, true, false}
use mathlib.Core.List.{List, []}
use mathlib.Core.Path.{◌≡◌, refl}
use lib.Dec.{eqb}
use lib.ListN.{length, take}
use borrow.Author.Tests.{ne_eqb}
use Rattle.octets.specs.Order.{unless}
use Rattle.octets.specs.Buffer.{front}
use Rattle.octets.proofs.BufferLaws.{take-front}
use Rattle.frame.specs.declared.Addresses.{Addresses}
use Rattle.frame.specs.Given.{different}
use Rattle.catalog.specs.declared.AnswerName.{AnswerName}
use Rattle.services.specs.declared.UnitState.{UnitState}
use Rattle.unit.specs.Call.{UnitReply}
use Rattle.unit.specs.Call.{unit_reply, unit_result, unit_out, unit_result_given, unit_out_given}
use Rattle.progress.specs.declared.Request.{Request}
use Rattle.progress.specs.declared.ToolState.{ToolState}
use Rattle.arrival.specs.declared.Meaning.TheVariants.{FailedWait}
use Rattle.arrival.specs.Meaning.{arrival_meaning}
use Rattle.tool.specs.Call.{ToolStep}
use Rattle.tool.specs.Call.{begin_number, begin_state, begin_sent, begin_result, begin_out, event_sent, event_result, event_out}
use Rattle.tool.specs.Call.{begin_result_given, begin_out_given, arrival_result_given, arrival_out_given, wait_result_given, wait_out_given}
use Rattle.tool.specs.Call.{event_result_given, event_out_given}

-- two equal addresses put nothing out
module _ {R : Type 0} (len : R → ℕ) (a : Addresses) (out : List ℕ) where
  given-string : (refusal result : R) (o sent : List ℕ) → len refusal ≡ 0 → take (len result) o ≡ sent
      → take (len (unless (different a) refusal result)) (unless (different a) out o) ≡ unless (different a) [] sent
  given-string refusal result o sent z e = go (different a)
    where
      go : (d : Bool) → take (len (unless d refusal result)) (unless d out o) ≡ unless d [] sent
      go true = e
      go false = rw z

module _ (a : Addresses) (out : List ℕ) where
  pub unit-string : (store : List ℕ) (u : UnitState) (b : List ℕ)
      → take (unit_result_given a store (length out) u b).len (unit_out_given a store u b out) ≡ unless (different a) [] (unit_reply a store (length out) u b)
  unfolding unit_result_given unit_out_given unit_result unit_out
  unit-string store u b =
      given-string (λ (r : UnitReply). r.len) a out _ _ _ _ refl (take-front _ (unit_reply a store (length out) u b) out refl)

  module _ (t : ToolState) (room : ℕ) where
    pub arrival-string : (b : List ℕ)
        → take (arrival_result_given a t b room (length out)).len (arrival_out_given a t b room out)
        ≡ unless (different a) [] (event_sent a t (arrival_meaning a room t b) room (length out))
    unfolding event_result_given event_out_given event_result event_out
    arrival-string b =
        given-string (λ (r : ToolStep). r.len) a out _ _ _ _ refl (take-front _ (event_sent a t (arrival_meaning a room t b) room (length out)) out refl)

    pub wait-string : take (wait_result_given a t room (length out)).len (wait_out_given a t room out)
        ≡ unless (different a) [] (event_sent a t FailedWait room (length out))
    unfolding event_result_given event_out_given event_result event_out
    wait-string = given-string (λ (r : ToolStep). r.len) a out _ _ _ _ refl (take-front _ (event_sent a t FailedWait room (length out)) out refl)

  module _ (t : ToolState) (request : Request) (name : AnswerName) where
    -- at two different addresses
    pub begin-string-at : take (begin_result a t request name (length out)).len (begin_out a t request name out) ≡ begin_sent a t request name (length out)
    unfolding begin_result begin_out
    begin-string-at = take-front _ (begin_sent a t request name (length out)) out refl

    pub begin-string : take (begin_result_given a t request name (length out)).len (begin_out_given a t request name out)
        ≡ unless (different a) [] (begin_sent a t request name (length out))
    unfolding begin_result_given begin_out_given
    begin-string = given-string (λ (r : ToolStep). r.len) a out _ _ _ _ refl begin-string-at

    -- "Each returns its number with the state as handed in, and writes nothing"
    pub begin-refused : ((begin_result_given a t request name (length out)).number ≡ 0 → ⊥)
        → ((begin_result_given a t request name (length out)).state ≡ t) × (begin_out_given a t request name out ≡ out)
    unfolding begin_result_given begin_out_given begin_result begin_state begin_out begin_sent front
    begin-refused h = go (different a) refl h
      where
        go : (d : Bool) → different a ≡ d → ((begin_result_given a t request name (length out)).number ≡ 0 → ⊥)
            → ((begin_result_given a t request name (length out)).state ≡ t) × (begin_out_given a t request name out ≡ out)
        go true e h =
            let z : eqb (begin_number t request name (length out)) 0 ≡ false = ne_eqb _ 0 (λ q. h (rw e q)) in
            (rw (e, z), rw (e, z))
        go false e h = (rw e, rw e)

-- The tool's state fits its fields: every call keeps the day below 2^32, the number expected below 65,536 and the bytes held below 2^32, as packing
-- needs.
use Prim.Native.Nat.{ℕ, ◌+◌, ◌<◌, ◌≤◌}
use mathlib.Core.Bool.{Bool, true, false, cond}
use mathlib.Core.List.{List}
use mathlib.Core.Path.{◌≡◌, refl}
use native.Mathlib.Omega.{arith}
use lib.Dec.{eqb, leb}
use lib.ListN.{length}
use borrow.Author.Tests.{eqb-true}
use Rattle.octets.proofs.Tests.{never}
use Rattle.frame.specs.declared.Addresses.{Addresses}
use Rattle.catalog.specs.declared.AnswerName.{AnswerName}
use Rattle.progress.specs.declared.Request.{Request}
use Rattle.progress.specs.declared.Outcome.TheVariants.{NoAnswer}
use Rattle.progress.specs.declared.ToolState.{ToolState}
use Rattle.arrival.specs.declared.Meaning.{Meaning}
use Rattle.arrival.specs.declared.Meaning.TheVariants.{Ignored, FailedWait, Confirmed, WholeAnswer, SubMessageTaken, LastTaken, NoRoomForAnswer}
use Rattle.arrival.specs.declared.Meaning.TheVariants.{NoRoomForSubMessage, RefusedBy}
use Rattle.progress.specs.State.{held_most}
use Rattle.arrival.specs.Meaning.{arrival_meaning, arrival_bytes}
use Rattle.arrival.specs.Meaning.{takes}
use Rattle.progress.specs.Next.{ended, waits, after_failed_wait}
use Rattle.tool.specs.After.{state_after}
use Rattle.tool.specs.Call.{begun, begin_number, begin_state, event_number, event_state}
use Rattle.arrival.proofs.RoomLaws.{fits-in-most}
use Rattle.tool.proofs.TakenLaws.{taken}
use Rattle.tool.proofs.CallLaws.{step-next}

pub record Fits (t : ToolState) : Type 0 where
  pub day : t.name.day < 4294967296
  pub expected : t.expected.0 < 65536
  pub held : t.held < 4294967296

module _ (t : ToolState) (fits : Fits t) where
  failed-fits : Fits (after_failed_wait t)
  unfolding after_failed_wait
  failed-fits = go (leb 3 t.sendings)
    where
      go : (b : Bool) → Fits (cond b (ended t NoAnswer t.held) (waits t (t.sendings + 1) t.expected.0 t.held))
      go true = record { day = fits.day; expected = fits.expected; held = fits.held }
      go false = record { day = fits.day; expected = fits.expected; held = fits.held }

  -- where bytes are taken, their sum with those held and the next number fit
  after-fits : (m : Meaning) (n : ℕ) → (takes m ≡ true → t.held + n ≤ held_most) → (takes m ≡ true → t.expected.0 < 65535) → Fits (state_after t m n)
  unfolding takes state_after
  after-fits Ignored n most next = fits
  after-fits FailedWait n most next = failed-fits
  after-fits Confirmed n most next = record { day = fits.day; expected = fits.expected; held = fits.held }
  after-fits WholeAnswer n most next = record { day = fits.day; expected = fits.expected; held = omega (arith, most refl) }
  after-fits SubMessageTaken n most next = record { day = fits.day; expected = omega (arith, next refl); held = omega (arith, most refl) }
  after-fits LastTaken n most next = record { day = fits.day; expected = fits.expected; held = omega (arith, most refl) }
  after-fits NoRoomForAnswer n most next = record { day = fits.day; expected = fits.expected; held = fits.held }
  after-fits NoRoomForSubMessage n most next = record { day = fits.day; expected = fits.expected; held = fits.held }
  after-fits (RefusedBy code) n most next = record { day = fits.day; expected = fits.expected; held = fits.held }

  pub begin-fits : (request : Request) (name : AnswerName) (out : ℕ) → name.day < 4294967296 → Fits (begin_state t request name out)
  unfolding begin_state
  begin-fits request name out d = go (eqb (begin_number t request name out) 0)
    where
      go : (b : Bool) → Fits (cond b (begun request name) t)
      go true = record { day = d; expected = omega arith; held = omega arith }
      go false = fits

  event-fits : (m : Meaning) (n room_len out_len : ℕ) → (event_number t room_len out_len ≡ 0 → Fits (state_after t m n)) → Fits (event_state t m n room_len out_len)
  unfolding event_state
  event-fits m n room_len out_len f = go (eqb (event_number t room_len out_len) 0) refl
    where
      go : (b : Bool) → eqb (event_number t room_len out_len) 0 ≡ b → Fits (cond b (state_after t m n) t)
      go true e = f (eqb-true _ _ e)
      go false e = fits

  pub wait-fits : (room_len out_len : ℕ) → Fits (event_state t FailedWait 0 room_len out_len)
  unfolding takes
  wait-fits room_len out_len = event-fits FailedWait 0 room_len out_len (λ z. after-fits FailedWait 0 (λ e. never (cc)) (λ e. never (cc)))

  pub arrival-fits : (a : Addresses) (b : List ℕ) (room_len out_len : ℕ)
      → Fits (event_state t (arrival_meaning a room_len t b) (length (arrival_bytes a t b)) room_len out_len)
  arrival-fits a b room_len out_len =
      event-fits (arrival_meaning a room_len t b) (length (arrival_bytes a t b)) room_len out_len (λ z.
      after-fits (arrival_meaning a room_len t b) (length (arrival_bytes a t b))
      (λ k. fits-in-most room_len t _ (taken a room_len t b k).fit)
      (λ k. step-next t (arrival_meaning a room_len t b) room_len out_len (event_number t room_len out_len) (λ l. (taken a room_len t b l).transfer) refl z k))

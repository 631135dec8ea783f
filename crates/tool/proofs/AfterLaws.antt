-- The next state and the frame that goes out, for each meaning.
use Prim.Native.Nat.{ℕ, ◌+◌, ◌<◌, ◌≤◌}
use mathlib.Core.Bool.{true}
use mathlib.Core.List.{List, []}
use mathlib.Core.Path.{◌≡◌, refl}
use native.Mathlib.Omega.{arith}
use lib.ListN.{length}
use mir.Syntax.{w16}
use mir.Val.{Fits}
use borrow.Author.Tests.{le-leb, lt-leb}
use Rattle.octets.proofs.Tests.{never}
use Rattle.octets.specs.Buffer.{front}
use Rattle.frame.specs.declared.Addresses.{Addresses}
use Rattle.frame.specs.declared.End.TheVariants as ends
use Rattle.frame.specs.Frame.{frame_of}
use Rattle.split.specs.Codes.{stop_code}
use Rattle.split.specs.declared.AckCode.{AckCode}
use Rattle.progress.specs.declared.Outcome.TheVariants.{Done}
use Rattle.progress.specs.declared.ToolState.{ToolState}
use Rattle.arrival.specs.declared.Meaning.{Meaning}
use Rattle.arrival.specs.declared.Meaning.TheVariants.{FailedWait, WholeAnswer, SubMessageTaken, LastTaken, NoRoomForSubMessage}
use Rattle.progress.specs.State.{held_most}
use Rattle.requests.specs.Sent.{acknowledgement, frame_sent}
use Rattle.progress.specs.Next.{ended, waits}
use Rattle.arrival.specs.Meaning.{takes}
use Rattle.tool.specs.After.{state_after, sent_after}

-- by the meaning that the code matched
module _ (m m' : Meaning) (same : m ≡ m') where
  pub state-at : (t r : ToolState) (n : ℕ) → r ≡ state_after t m' n → r ≡ state_after t m n
  state-at t r n e = rw same e

  pub sent-at-length : (a : Addresses) (t : ToolState) (n : ℕ) → n ≡ length (sent_after a t m') → n ≡ length (sent_after a t m)
  sent-at-length a t n e = rw same e

  pub sent-at-front : (a : Addresses) (t : ToolState) (o o' : List ℕ) → o' ≡ front (sent_after a t m') o → o' ≡ front (sent_after a t m) o
  sent-at-front a t o o' e = rw same e

-- where bytes are taken; g are held with the new ones
module _ (m : Meaning) (t r : ToolState) (n g : ℕ) (e : g ≡ t.held + n) where
  pub state-whole : m ≡ WholeAnswer → r ≡ ended t Done g → r ≡ state_after t m n
  unfolding state_after
  state-whole h q = rw (h, ← e) q

  pub state-taken : m ≡ SubMessageTaken → r ≡ waits t 1 (t.expected.0 + 1) g → r ≡ state_after t m n
  unfolding state_after
  state-taken h q = rw (h, ← e) q

  pub state-last : m ≡ LastTaken → r ≡ ended t Done g → r ≡ state_after t m n
  unfolding state_after
  state-last h q = rw (h, ← e) q

-- nothing sent leaves the buffer as it was
pub front-none : (o : List ℕ) → o ≡ front [] o
unfolding front
front-none o = refl

-- after a failed wait the same frame again, or nothing after the third sending
module _ (a : Addresses) (t : ToolState) (m : Meaning) (same : m ≡ FailedWait) where
  pub third-length : 3 ≤ t.sendings → 0 ≡ length (sent_after a t m)
  unfolding sent_after
  third-length h = rw (same, le-leb 3 t.sendings h)

  pub third-front : (o : List ℕ) → 3 ≤ t.sendings → o ≡ front (sent_after a t m) o
  unfolding sent_after
  third-front o h = rw (same, le-leb 3 t.sendings h) (front-none o)

  pub again-length : (n : ℕ) → t.sendings < 3 → n ≡ length (frame_sent a t.request t.name t.expected.0) → n ≡ length (sent_after a t m)
  unfolding sent_after
  again-length n h e = rw (same, lt-leb 3 t.sendings h) e

  pub again-front : (o o' : List ℕ) → t.sendings < 3 → o' ≡ front (frame_sent a t.request t.name t.expected.0) o → o' ≡ front (sent_after a t m) o
  unfolding sent_after
  again-front o o' h e = rw (same, lt-leb 3 t.sendings h) e

-- for a sub message without room, the stop code
module _ (a : Addresses) (t : ToolState) (m : Meaning) (same : m ≡ NoRoomForSubMessage) (code : AckCode) (stop : code ≡ stop_code) where
  pub stop-length : (n : ℕ) → n ≡ length (frame_of a ends.Unit (acknowledgement code)) → n ≡ length (sent_after a t m)
  unfolding sent_after
  stop-length n e = rw (same, ← stop) e

  pub stop-front : (o o' : List ℕ) → o' ≡ front (frame_of a ends.Unit (acknowledgement code)) o → o' ≡ front (sent_after a t m) o
  unfolding sent_after
  stop-front o o' e = rw (same, ← stop) e

-- where bytes are taken, the sums fit
module _ (m m' : Meaning) where
  pub taken-sum : (sum : ℕ) → (takes m ≡ true → sum ≤ held_most) → m ≡ m' → takes m' ≡ true → sum ≤ held_most
  taken-sum sum f same k = f (rw same k)

  pub taken_next : (e : ℕ) → (takes m ≡ true → e < 65535) → m ≡ m' → takes m' ≡ true → Fits w16 (e + 1)
  taken_next e f same k = record { fits = omega (arith, f (rw same k)) }

-- a failed wait takes nothing
pub failed-takes : {A : Type 0} → takes FailedWait ≡ true → A
unfolding takes
failed-takes h = never (cc)

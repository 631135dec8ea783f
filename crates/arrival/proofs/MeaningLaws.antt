-- What a string that arrives means, from the tests of the code.
use Prim.Native.Nat.{ℕ}
use mathlib.Core.Bool.{Bool, true, false}
use mathlib.Core.List.{List}
use mathlib.Core.Path.{◌≡◌, sym}
use lib.Dec.{eqb}
use lib.ListN.{length, get_or}
use borrow.Author.Tests.{eq-eqb, ne_eqb}
use Rattle.octets.specs.Buffer.{same_bytes}
use Rattle.frame.specs.declared.Addresses.{Addresses}
use Rattle.frame.specs.declared.End.TheVariants as ends
use Rattle.frame.specs.Frame.{judged, data_place, data_of}
use Rattle.frame.proofs.CheckLaws.{place-number}
use Rattle.split.specs.Join.{received_as}
use Rattle.split.specs.declared.Received.{Received}
use Rattle.progress.specs.declared.Request.{Request}
use Rattle.progress.specs.declared.ToolState.{ToolState}
use Rattle.std.specs.Prelude.{Result, Ok, Err}
use Rattle.octets.specs.Numbers.{number, placed}
use Rattle.octets.specs.declared.Part.{Part}
use Rattle.octets.specs.declared.refusal.Refusal.{Refusal}
use Rattle.octets.proofs.CallLaws.{refused-number}
use Rattle.arrival.specs.Meaning.{Incoming}
use Rattle.arrival.specs.declared.Meaning.{Meaning}
use Rattle.arrival.specs.declared.Meaning.TheVariants.{Ignored, FailedWait, Confirmed}
use Rattle.progress.specs.State.{is_transfer}
use Rattle.arrival.specs.Replies.{sid_sent, reply_wanted}
use Rattle.arrival.specs.Meaning.{new_bytes, fits, meaning_of, received_by, transfer_meaning, is_refusal, refusal_meaning, data_meaning, arrival_meaning}
use Rattle.arrival.specs.Meaning.{arrival_bytes, arrival_of}

-- "the SID last sent", and the reply, for each request

pub sid-at : (q q' : Request) (e r : ℕ) → q ≡ q' → r ≡ sid_sent q' e → r ≡ sid_sent q e
sid-at q q' e r h p = rw h p

pub reply-at : (q q' : Request) (d : List ℕ) (r : Bool) → q ≡ q' → r ≡ same_bytes d (reply_wanted q') → r ≡ same_bytes d (reply_wanted q)
reply-at q q' d r h p = rw h p

-- Refusals

module _ (t : ToolState) (d : List ℕ) where
  pub refusal-long : (length d ≡ 3 → ⊥) → false ≡ is_refusal t d
  unfolding is_refusal
  refusal-long h = rw (ne_eqb (length d) 3 h)

  pub refusal-other : length d ≡ 3 → (get_or d 0 0 ≡ 0x7F → ⊥) → false ≡ is_refusal t d
  unfolding is_refusal
  refusal-other l h = rw (eq-eqb (length d) 3 l, ne_eqb (get_or d 0 0) 0x7F h)

  pub refusal-named : (s : ℕ) → length d ≡ 3 → get_or d 0 0 ≡ 0x7F → s ≡ sid_sent t.request t.expected.0 → eqb (get_or d 1 0) s ≡ is_refusal t d
  unfolding is_refusal
  refusal-named s l h e = rw (eq-eqb (length d) 3 l, eq-eqb (get_or d 0 0) 0x7F h, e)

-- What the data is of the answer, and whether it fits

module _ (x x' : Received) (same : x ≡ x') (r : Meaning) where
  pub meaning-any : (b : Bool) → r ≡ meaning_of x' b → r ≡ meaning_of x b
  meaning-any b e = rw same e

-- The data d of a good frame, which is x of the answer and adds n bytes

module _ (room_len : ℕ) (t : ToolState) (d : List ℕ) where
  pub data-refusal : (r : Meaning) (code : ℕ) → is_refusal t d ≡ true → code ≡ get_or d 2 0 → r ≡ refusal_meaning code → r ≡ data_meaning room_len t d
  unfolding data_meaning
  data-refusal r code h c e = rw (h, ← c) e

  module _ (h : is_refusal t d ≡ false) where
    pub data-transfer : (x : Received) (n : ℕ) (f : Bool) (r : Meaning) → is_transfer t.request ≡ true → x ≡ received_by t d → n ≡ length (new_bytes t x d)
        → f ≡ fits room_len t n → r ≡ meaning_of x f
        → r ≡ data_meaning room_len t d
    unfolding data_meaning transfer_meaning
    data-transfer x n f r q e p k m = rw (h, q, ← e, ← p, ← k) m

    pub data-reply : is_transfer t.request ≡ false → same_bytes d (reply_wanted t.request) ≡ true → Confirmed ≡ data_meaning room_len t d
    unfolding data_meaning
    data-reply f s = rw (h, f, s)

    pub data-other : is_transfer t.request ≡ false → same_bytes d (reply_wanted t.request) ≡ false → Ignored ≡ data_meaning room_len t d
    unfolding data_meaning
    data-other f s = rw (h, f, s)

-- A string b that arrives: l says where its data d lies, which is x of the answer and adds n bytes

module _ (a : Addresses) (room_len : ℕ) (t : ToolState) (b d : List ℕ) (l : Result Part Refusal) (x : Received) (n : ℕ)
    (located : placed l ≡ data_place a ends.Tool b)
    (data_is : d ≡ data_of a ends.Tool b)
    (received : x ≡ received_as t.name.trep t.expected.0 d) (adds : n ≡ length (new_bytes t x d)) where
  arrives : (m : Meaning) → m ≡ arrival_meaning a room_len t b
      → ◌≡◌ {A = Incoming} (record { place = placed l; received = x; new = n; meaning = m }) (arrival_of a room_len t b)
  unfolding arrival_of arrival_bytes
  arrives m e = rw (← located, ← data_is, ← received, ← adds, ← e)

  number-is : judged a ends.Tool b ≡ (placed l).number
  number-is = sym (place-number a ends.Tool b (placed l) located)

  pub arrival-refused : (refusal : Refusal) → l ≡ Err refusal
      → ◌≡◌ {A = Incoming} (record { place = placed l; received = x; new = n; meaning = FailedWait }) (arrival_of a room_len t b)
  unfolding arrival_meaning
  arrival-refused refusal h = arrives FailedWait (rw (number-is, h, ne_eqb (number refusal) 0 (refused-number refusal)))

  pub arrival-good : (m : Meaning) (part : Part) → l ≡ Ok part → m ≡ data_meaning room_len t d
      → ◌≡◌ {A = Incoming} (record { place = placed l; received = x; new = n; meaning = m }) (arrival_of a room_len t b)
  unfolding arrival_meaning
  arrival-good m part h e = arrives m (rw (number-is, h, ← data_is) e)

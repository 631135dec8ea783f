-- What is claimed of the bench store (document 01, Bench store; House numbers): that it is a list, and that each number
-- is "Given exactly when" its rule says. For every form whose bounds fit its fields; proofs/Claims.antt proves it.
use Rattle.std.specs.Prelude.{ℕ, ◌<◌, ◌≤◌, true, false, List, [], ◌∷◌, ◌++◌, ◌↔◌, ◌⊎◌, ◌≢◌, ◌≡◌, length, get_or, take}
use Rattle.octets.specs.Order.{unless}
use Rattle.octets.specs.Numbers.{done, not_held, not_in_table}
use Rattle.octets.specs.Buffer.{part_at}
use Rattle.catalog.specs.Table.{listed}
use Rattle.catalog.specs.Name.{day_named, rounded}
use Rattle.catalog.specs.declared.AnswerName.{AnswerName}
use Rattle.store.specs.Layout.{Form, Sized, narrow, answers, store_length, name_at}
use Rattle.store.specs.Check.{header_fits, counts_fit, places_right, answers_right, names_differ, store_number}
use Rattle.store.specs.Days.{DayClaims}
use Rattle.store.specs.Faults.{IsFault, FaultClaims, FaultExamples}
use Rattle.store.specs.Read.{lookup_number, lookup_part, stream_place, stream_part, count_held, held_answer}
use Rattle.store.specs.Answer.{name_of, answer_number}
use Rattle.store.specs.Contents.{Stored, name_for, nothing, back_to_back, store_of, contents}
use Rattle.store.specs.Contents.{is_among, answer_named, start_of, Holdable, OfForm}

-- Numbers

module _ (f : Form) where
  -- "5: store breaks its rules" (document 01): one of the five checks of Check.antt fails
  pub data Broken (s : List ℕ) : Type 0 where
    header : header_fits f s ≡ false → Broken s
    counts : counts_fit f s ≡ false → Broken s
    places : places_right f s ≡ false → Broken s
    begins : answers_right f s ≡ false → Broken s
    names : names_differ f s ≡ false → Broken s

-- "12: answer .. not in the table below, .. or a day other than zero outside activities, or an answer to append that
-- does not begin 76 and a listed TREP"
pub data Unlisted (answer : List ℕ) (day : ℕ) : Type 0 where
  short : length answer < 2 → Unlisted answer day
  first : get_or answer 0 0 ≢ 0x76 → Unlisted answer day
  trep : listed (get_or answer 1 0) ≡ false → Unlisted answer day
  named : day_named (name_of answer day) ≡ false → Unlisted answer day

module _ (f : Form) where
  -- some held answer has that name
  pub record HeldAs (name : AnswerName) (s : List ℕ) : Type 0 where
    pub at : ℕ
    pub below : at < answers f s
    pub named : name_at f at s ≡ name

  -- none has
  abbrev pub Missing : AnswerName → List ℕ → Type 0
  Missing name s = (i : ℕ) → i < answers f s → name_at f i s ≡ name → ⊥

module _ (f : Form) where
  pub record NumberClaims : Type 0 where
    -- "Wherever 5 was given, exactly one of these is given now" (document 02, Req 06): the check
    pub broken : (s : List ℕ) → IsFault (store_number f s) ↔ Broken f s
    -- a lookup, the stream, the count and the i-th answer
    pub lookup_fault : (name : AnswerName) (s : List ℕ) (k : ℕ) → IsFault k
        → (lookup_number f name s ≡ k) ↔ (store_number f s ≡ k)
    pub stream_fault : (s : List ℕ) → (stream_place f s).number ≡ store_number f s
    pub count_fault : (s : List ℕ) → (count_held f s).number ≡ store_number f s
    pub held_fault : (i : ℕ) (s : List ℕ) (k : ℕ) → IsFault k
        → ((held_answer f i s).number ≡ k) ↔ (store_number f s ≡ k)
    -- 5 itself by none; the stream and the count give the check's number, which is none but 0 and these
    pub lookup_not_five : (name : AnswerName) (s : List ℕ) → lookup_number f name s ≢ 5
    pub held_not_five : (i : ℕ) (s : List ℕ) → (held_answer f i s).number ≢ 5
    -- "6: answer not held"
    pub six : (name : AnswerName) (s : List ℕ)
        → (lookup_number f name s ≡ not_held) ↔ ((store_number f s ≡ done) × Missing f (rounded name) s)

-- The store as a list

module _ (f : Form) where
  pub record ListClaims : Type 0 where
    -- every unbroken store is, in its own bytes, the store of its contents, and these are a list that it may hold
    pub own : (s : List ℕ) → OfForm f s → store_number f s ≡ done
        → take (store_length f s) s ≡ store_of f (contents f s)
    pub holdable : (s : List ℕ) → OfForm f s → store_number f s ≡ done → Holdable f (contents f s)
    -- the store of a list that it may hold is unbroken, whatever stands behind it, and has that list as its contents
    pub unbroken : (gs : List Stored) (rest : List ℕ) → Holdable f gs → store_number f (store_of f gs ++ rest) ≡ done
    pub back : (gs : List Stored) (rest : List ℕ) → Holdable f gs → contents f (store_of f gs ++ rest) ≡ gs
    -- in such a list each name is that of one answer, and is found as that answer
    pub named : (gs : List Stored) (i : ℕ) → Holdable f gs → i < length gs
        → is_among (name_for (get_or gs i nothing)) gs ≡ true
    pub named_bytes : (gs : List Stored) (i : ℕ) → Holdable f gs → i < length gs
        → answer_named (name_for (get_or gs i nothing)) gs ≡ (get_or gs i nothing).answer
    -- a lookup of an unbroken store is one of the list
    pub lookup : (name : AnswerName) (s : List ℕ) → store_number f s ≡ done
        → lookup_number f name s ≡ unless (is_among (rounded name) (contents f s)) not_held done
    pub lookup_bytes : (name : AnswerName) (s : List ℕ) → store_number f s ≡ done
        → lookup_part f name s ≡ answer_named (rounded name) (contents f s)
    -- so are the stream, "the answers back to back", and the k-th answer
    pub stream : (s : List ℕ) → store_number f s ≡ done → stream_part f s ≡ back_to_back (contents f s)
    pub kth : (k : ℕ) (s : List ℕ) → store_number f s ≡ done → k < length (contents f s)
        → held_answer f k s
        ≡ record {
          number = done;
          name = name_for (get_or (contents f s) k nothing);
          start = start_of f k (contents f s);
          len = length (get_or (contents f s) k nothing).answer;
        }
    pub kth_bytes : (k : ℕ) (s : List ℕ) → store_number f s ≡ done → k < length (contents f s)
        → part_at (held_answer f k s).start (held_answer f k s).len s ≡ (get_or (contents f s) k nothing).answer
    pub none_left : (k : ℕ) (s : List ℕ) → store_number f s ≡ done → length (contents f s) ≤ k
        → (held_answer f k s).number ≡ not_held

-- Document 01's own numbers

-- W12's store: header, one entry, its answer
abbrev pub store12 : List ℕ
store12 =
    0x00 ∷ 0x01 ∷ 0x00 ∷ 0x04
    ∷ 0x00 ∷ 0x00 ∷ 0x00 ∷ 0x00 ∷ 0x00 ∷ 0x00 ∷ 0x00 ∷ 0x04
    ∷ 0x76 ∷ 0x00 ∷ 0x02 ∷ 0x02 ∷ []

pub record NarrowClaims : Type 0 where
  -- the store of no answers is four zero bytes: with any bytes behind them they are unbroken and hold nothing
  pub empty : store_of narrow [] ≡ 0 ∷ 0 ∷ 0 ∷ 0 ∷ []
  pub empty_unbroken : (rest : List ℕ) → store_number narrow (0 ∷ 0 ∷ 0 ∷ 0 ∷ rest) ≡ done
  pub empty_contents : (rest : List ℕ) → contents narrow (0 ∷ 0 ∷ 0 ∷ 0 ∷ rest) ≡ []
  -- "store with 02 02 under TREP 00" (W12)
  pub w12 : store_of narrow (record { answer = 0x76 ∷ 0x00 ∷ 0x02 ∷ 0x02 ∷ []; day = 0 } ∷ []) ≡ store12

pub record StoreClaims : Type 0 where
  pub numbers : (f : Form) → NumberClaims f
  pub faults : (f : Form) → FaultClaims f
  pub fault_examples : FaultExamples
  -- 12 for an answer on its own
  pub twelve : (answer : List ℕ) (day : ℕ) → (answer_number answer day ≡ not_in_table) ↔ Unlisted answer day
  pub twelve_only : (answer : List ℕ) (day : ℕ)
      → (answer_number answer day ≡ done) ⊎ (answer_number answer day ≡ not_in_table)
  pub list : (f : Form) → Sized f → ListClaims f
  pub days : (f : Form) → DayClaims f
  pub narrow_form : NarrowClaims

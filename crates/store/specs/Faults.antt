-- What is claimed of the fault of a store (document 02, Req 06): each number and position exactly where its rule says,
-- and the bounds of positions. For every form; proofs/Faults.antt proves it.
use Rattle.std.specs.Prelude.{ℕ, ◌+◌, ◌<◌, ◌≤◌, true, false}
use Rattle.std.specs.Prelude.{List, [], ◌∷◌, ◌++◌, ◌↔◌, ◌⊎◌, ◌≢◌, ◌≡◌, length, get_or, replicate}
use Rattle.octets.specs.Numbers.{store_short, store_bounds, store_entry, store_answer, store_twice}
use Rattle.catalog.specs.Table.{listed}
use Rattle.catalog.specs.Name.{day_stored}
use Rattle.store.specs.Layout.{Form, narrow, header_size, answers, stream_length, store_length, entry_offset}
use Rattle.store.specs.Layout.{entry_length, answer_start, name_at}
use Rattle.store.specs.Check.{filled_to, fault_at, no_fault, store_fault, store_number}

-- one of the five numbers
abbrev pub IsFault : ℕ → Type 0
IsFault k = (store_short ≤ k) × (k ≤ store_twice)

-- What the checks ask, in their order

module _ (f : Form) where
  -- the buffer holds its header, and what that says
  pub record Whole (s : List ℕ) : Type 0 where
    pub header : header_size f ≤ length s
    pub store : store_length f s ≤ length s

  -- "n (0 to 64)", "t (0 to 60,000)": the form's bounds
  pub record WithinBounds (s : List ℕ) : Type 0 where
    pub whole : Whole s
    pub count : answers f s ≤ f.answers_most
    pub stream : stream_length f s ≤ f.stream_most

  -- entry i: its offset is the sum of the lengths before it, its length is at least 2, it ends within the stream
  pub record Placed (i : ℕ) (s : List ℕ) : Type 0 where
    pub offset : entry_offset f i s ≡ filled_to f i s
    pub long : 2 ≤ entry_length f i s
    pub inside : filled_to f i s + entry_length f i s ≤ stream_length f s

  pub data Misplaced (i : ℕ) (s : List ℕ) : Type 0 where
    gap : entry_offset f i s ≢ filled_to f i s → Misplaced i s
    short : entry_length f i s < 2 → Misplaced i s
    past : stream_length f s < filled_to f i s + entry_length f i s → Misplaced i s

  -- every entry, and "They fill exactly t bytes"
  pub record Filled (s : List ℕ) : Type 0 where
    pub bounded : WithinBounds s
    pub placed : (i : ℕ) → i < answers f s → Placed i s
    pub full : filled_to f (answers f s) s ≡ stream_length f s

  -- answer i: "each 76, listed TREP, data", "day (4, a multiple of 86,400, zero unless activities)"
  pub record Begun (i : ℕ) (s : List ℕ) : Type 0 where
    pub first : get_or s (answer_start f i s) 0 ≡ 0x76
    pub trep : listed (name_at f i s).trep ≡ true
    pub day : day_stored (name_at f i s) ≡ true

  pub data Misbegun (i : ℕ) (s : List ℕ) : Type 0 where
    not_first : get_or s (answer_start f i s) 0 ≢ 0x76 → Misbegun i s
    not_trep : listed (name_at f i s).trep ≡ false → Misbegun i s
    not_day : day_stored (name_at f i s) ≡ false → Misbegun i s

  pub record AllBegun (s : List ℕ) : Type 0 where
    pub filled : Filled s
    pub begun : (i : ℕ) → i < answers f s → Begun i s

  -- answer i has TREP and day of no earlier answer
  abbrev pub New : ℕ → List ℕ → Type 0
  New i s = (j : ℕ) → j < i → name_at f j s ≢ name_at f i s

  pub record Repeated (i : ℕ) (s : List ℕ) : Type 0 where
    pub earlier : ℕ
    pub below : earlier < i
    pub same : name_at f earlier s ≡ name_at f i s

-- The faults, each at its position p, with all that the checks before it ask

module _ (f : Form) where
  -- "13 buffer shorter than the header says"
  pub data Short (p : ℕ) (s : List ℕ) : Type 0 where
    no_header : length s < header_size f → p ≡ 0 → Short p s
    no_store : header_size f ≤ length s → length s < store_length f s → p ≡ answers f s → Short p s

  -- "14 too many answers or stream over its bound"
  pub record OverBounds (p : ℕ) (s : List ℕ) : Type 0 where
    pub whole : Whole f s
    pub over : (f.answers_most < answers f s) ⊎ (f.stream_most < stream_length f s)
    pub position : p ≡ answers f s

  -- "15 an entry's offset or length"; "answers that end short of it are 15 with the answer count as position"
  pub record EntryWrong (p : ℕ) (s : List ℕ) : Type 0 where
    pub bounded : WithinBounds f s
    pub before : (i : ℕ) → i < p → Placed f i s
    pub here : ((p < answers f s) × Misplaced f p s) ⊎ ((p ≡ answers f s) × (filled_to f p s < stream_length f s))

  -- "16 an answer's first two bytes or its day"
  pub record AnswerWrong (p : ℕ) (s : List ℕ) : Type 0 where
    pub filled : Filled f s
    pub below : p < answers f s
    pub before : (i : ℕ) → i < p → Begun f i s
    pub here : Misbegun f p s

  -- "17 the same TREP and day twice", "the first that repeats an earlier one"
  pub record NameTwice (p : ℕ) (s : List ℕ) : Type 0 where
    pub begun : AllBegun f s
    pub below : p < answers f s
    pub before : (i : ℕ) → i < p → New f i s
    pub here : Repeated f p s

  -- none of them
  pub record Sound (s : List ℕ) : Type 0 where
    pub begun : AllBegun f s
    pub new : (i : ℕ) → i < answers f s → New f i s

module _ (f : Form) where
  pub record FaultClaims : Type 0 where
    pub thirteen : (p : ℕ) (s : List ℕ) → (store_fault f s ≡ fault_at store_short p) ↔ Short f p s
    pub fourteen : (p : ℕ) (s : List ℕ) → (store_fault f s ≡ fault_at store_bounds p) ↔ OverBounds f p s
    pub fifteen : (p : ℕ) (s : List ℕ) → (store_fault f s ≡ fault_at store_entry p) ↔ EntryWrong f p s
    pub sixteen : (p : ℕ) (s : List ℕ) → (store_fault f s ≡ fault_at store_answer p) ↔ AnswerWrong f p s
    pub seventeen : (p : ℕ) (s : List ℕ) → (store_fault f s ≡ fault_at store_twice p) ↔ NameTwice f p s
    pub none : (s : List ℕ) → (store_fault f s ≡ no_fault) ↔ Sound f s
    -- no other
    pub only : (s : List ℕ) → (store_fault f s ≡ no_fault) ⊎ IsFault (store_number f s)
    -- where the positions lie
    pub position13 : (s : List ℕ) → store_number f s ≡ store_short
        → ((store_fault f s).position ≡ 0) ⊎ ((store_fault f s).position ≡ answers f s)
    pub position14 : (s : List ℕ) → store_number f s ≡ store_bounds → (store_fault f s).position ≡ answers f s
    pub position15 : (s : List ℕ) → store_number f s ≡ store_entry → (store_fault f s).position ≤ answers f s
    pub position16 : (s : List ℕ) → store_number f s ≡ store_answer → (store_fault f s).position < answers f s
    pub position17 : (s : List ℕ) → store_number f s ≡ store_twice
        → (1 ≤ (store_fault f s).position) × ((store_fault f s).position < answers f s)

-- Stores in bytes, of document 01's form

-- an entry with these low bytes of its day, offset and length
abbrev pub entry_of : ℕ → ℕ → ℕ → List ℕ
entry_of day offset len = 0x00 ∷ 0x00 ∷ 0x00 ∷ day ∷ 0x00 ∷ offset ∷ 0x00 ∷ len ∷ []

pub record FaultExamples : Type 0 where
  -- three bytes, though they seem to count an answer
  pub no_header : store_fault narrow (0x00 ∷ 0x01 ∷ 0x00 ∷ []) ≡ fault_at store_short 0
  -- W12's store without its last byte
  pub cut : store_fault narrow (0x00 ∷ 0x01 ∷ 0x00 ∷ 0x04 ∷ entry_of 0 0 4 ++ (0x76 ∷ 0x00 ∷ 0x02 ∷ []))
      ≡ fault_at store_short 1
  -- 13 comes before 14: the header alone, and with all that it speaks of
  pub all_bits : store_fault narrow (0xFF ∷ 0xFF ∷ 0xFF ∷ 0xFF ∷ []) ≡ fault_at store_short 65535
  pub all_bits_whole : (rest : List ℕ) → length rest ≡ 589815
      → store_fault narrow (0xFF ∷ 0xFF ∷ 0xFF ∷ 0xFF ∷ rest) ≡ fault_at store_bounds 65535
  pub too_many : store_fault narrow (0x00 ∷ 0x41 ∷ 0x00 ∷ 0x00 ∷ replicate 520 0x00) ≡ fault_at store_bounds 65
  -- no answers and a byte of stream; W12's with a byte of stream more
  pub stream_alone : store_fault narrow (0x00 ∷ 0x00 ∷ 0x00 ∷ 0x01 ∷ 0x76 ∷ []) ≡ fault_at store_entry 0
  pub ends_short :
      store_fault narrow (0x00 ∷ 0x01 ∷ 0x00 ∷ 0x05 ∷ entry_of 0 0 4 ++ (0x76 ∷ 0x00 ∷ 0x02 ∷ 0x02 ∷ 0x00 ∷ []))
      ≡ fault_at store_entry 1
  -- the wrong first byte of answer 0 comes after all offsets
  pub offsets_first :
      store_fault narrow
      (0x00 ∷ 0x02 ∷ 0x00 ∷ 0x04 ∷ entry_of 0 0 2 ++ (entry_of 0 1 2 ++ (0x75 ∷ 0x00 ∷ 0x76 ∷ 0x01 ∷ [])))
      ≡ fault_at store_entry 1
  -- activities under the second 1
  pub day_wrong :
      store_fault narrow
      (0x00 ∷ 0x02 ∷ 0x00 ∷ 0x04 ∷ entry_of 0 0 2 ++ (entry_of 1 2 2 ++ (0x76 ∷ 0x01 ∷ 0x76 ∷ 0x02 ∷ [])))
      ≡ fault_at store_answer 1
  -- activities under the second 86,401 (document 02, Req 03)
  pub second_in_entry :
      store_fault narrow
      (0x00 ∷ 0x01 ∷ 0x00 ∷ 0x03
      ∷ 0x00 ∷ 0x01 ∷ 0x51 ∷ 0x81 ∷ 0x00 ∷ 0x00 ∷ 0x00 ∷ 0x03
      ∷ 0x76 ∷ 0x02 ∷ 0xAA ∷ [])
      ≡ fault_at store_answer 0
  -- answer 2 repeats answer 1, before answer 3 repeats answer 0
  pub first_repeat :
      store_fault narrow
      (0x00 ∷ 0x04 ∷ 0x00 ∷ 0x08 ∷ entry_of 0 0 2 ++ (entry_of 0 2 2 ++ (entry_of 0 4 2 ++ (entry_of 0 6 2
      ++ (0x76 ∷ 0x01 ∷ 0x76 ∷ 0x03 ∷ 0x76 ∷ 0x03 ∷ 0x76 ∷ 0x01 ∷ [])))))
      ≡ fault_at store_twice 2

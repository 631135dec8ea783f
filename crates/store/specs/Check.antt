-- The rules of a store, and its fault (document 02, Req 06): "Checks run in that order, each over all entries from the
-- first before the next check, and give the entry's position from zero".
use Rattle.std.specs.Prelude.{ℕ, zero, suc, ◌+◌, Bool, cond, not, ◌&&◌, List, length, get_or, eqb, leb}
use Rattle.octets.specs.Order.{unless}
use Rattle.octets.specs.Search.{first_of, any_of, none_of}
use Rattle.octets.specs.Numbers.{done, store_short, store_bounds, store_entry, store_answer, store_twice}
use Rattle.catalog.specs.Table.{listed}
use Rattle.catalog.specs.Name.{day_stored, same_answer}
use Rattle.octets.specs.Numbers.{number}
use Rattle.std.specs.Prelude.{Result, Ok, Err, ⊤}
use Rattle.store.specs.declared.Fault.{Fault}
use Rattle.store.specs.declared.Broken.{Broken}
use Rattle.store.specs.Layout.{Form, header_size, answers, stream_length, entry_offset, entry_length}
use Rattle.store.specs.Layout.{store_length, answer_start, name_at}

module _ (f : Form) where
  -- the buffer holds its header, and what that says
  unfoldable pub header_fits : List ℕ → Bool
  header_fits s = leb (header_size f) (length s) && leb (store_length f s) (length s)

  -- "n (0 to 64)", "t (0 to 60,000)"
  unfoldable pub counts_fit : List ℕ → Bool
  counts_fit s = leb (answers f s) f.answers_most && leb (stream_length f s) f.stream_most

  -- the bytes of the stream before the i-th answer: the lengths before it, added up
  unfoldable pub filled_to : ℕ → List ℕ → ℕ
  filled_to zero s = 0
  filled_to (suc i) s = filled_to i s + entry_length f i s

  -- "offsets without gap", "length (.. at least 2)"; "A length under 2 or an end past the stream length is 15"
  unfoldable pub place_right : ℕ → List ℕ → Bool
  place_right i s =
      eqb (entry_offset f i s) (filled_to i s)
      && (leb 2 (entry_length f i s) && leb (filled_to i s + entry_length f i s) (stream_length f s))

  -- "They fill exactly t bytes"
  unfoldable pub places_right : List ℕ → Bool
  places_right s =
      none_of (λ i. not (place_right i s)) (answers f s) && eqb (filled_to (answers f s) s) (stream_length f s)

  -- "each 76, listed TREP, data", "day (4, a multiple of 86,400, zero unless activities)"
  unfoldable pub answer_right : ℕ → List ℕ → Bool
  answer_right i s =
      eqb (get_or s (answer_start f i s) 0) 0x76
      && (listed (name_at f i s).trep && day_stored (name_at f i s))

  unfoldable pub answers_right : List ℕ → Bool
  answers_right s = none_of (λ i. not (answer_right i s)) (answers f s)

  -- the i-th answer has the name of an earlier one
  unfoldable pub repeats : ℕ → List ℕ → Bool
  repeats i s = any_of (λ j. same_answer (name_at f j s) (name_at f i s)) i

  -- "No two share TREP and day"
  unfoldable pub names_differ : List ℕ → Bool
  names_differ s = none_of (λ i. repeats i s) (answers f s)

-- a number of the five and where; "number 0: position 0"
abbrev pub fault_at : ℕ → ℕ → Fault
fault_at number position = record { number = number; position = position }

abbrev pub no_fault : Fault
no_fault = fault_at done 0

-- what the code's check hands back
abbrev pub broken_at : Broken → Fault
broken_at broken = fault_at (number broken.refusal) broken.position

abbrev pub fault_of : Result ⊤ Broken → Fault
fault_of (Ok x) = no_fault
fault_of (Err broken) = broken_at broken

module _ (f : Form) where
  -- "13 and 14 the header's answer count"; "A buffer too short for its header is 13 with position 0"
  unfoldable pub count_read : List ℕ → ℕ
  count_read s = cond (leb (header_size f) (length s)) (answers f s) 0

  -- the first entry whose offset or length is wrong; "answers that end short of it .. the answer count as position"
  abbrev pub misplaced_at : List ℕ → ℕ
  misplaced_at s = first_of (λ i. not (place_right f i s)) (answers f s)

  -- the first answer whose first two bytes or day are wrong
  abbrev pub wrong_at : List ℕ → ℕ
  wrong_at s = first_of (λ i. not (answer_right f i s)) (answers f s)

  -- "17 the first that repeats an earlier one"
  abbrev pub repeat_at : List ℕ → ℕ
  repeat_at s = first_of (λ i. repeats f i s) (answers f s)

  unfoldable pub store_fault : List ℕ → Fault
  store_fault s =
      unless (header_fits f s) (fault_at store_short (count_read s))
      (unless (counts_fit f s) (fault_at store_bounds (answers f s))
      (unless (places_right f s) (fault_at store_entry (misplaced_at s))
      (unless (answers_right f s) (fault_at store_answer (wrong_at s))
      (unless (names_differ f s) (fault_at store_twice (repeat_at s))
      no_fault))))

  -- "Wherever 5 was given, exactly one of these is given now"
  unfoldable pub store_number : List ℕ → ℕ
  store_number s = (store_fault s).number

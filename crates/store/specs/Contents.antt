-- The store as a list: the answers that it holds, each with its day, in their order. The store of a list is header,
-- entries and stream; the contents of a store are the list read from it. Check.antt and Read.antt speak of the
-- bytes; Claims.antt says what they are of the list.
use Rattle.std.specs.Prelude.{ℕ, ◌+◌, ◌<◌, ◌≤◌, Bool, true, List, [], ◌∷◌, ◌++◌, ◌≡◌, length, get_or, take}
use Rattle.octets.specs.Numbers.{done}
use Rattle.fields.specs.BigEndian.{bytes_of}
use Rattle.octets.specs.Buffer.{Bytes}
use Rattle.octets.specs.Search.{first_of, any_of}
use Rattle.octets.specs.Values.{up_to}
use Rattle.catalog.specs.Name.{day_stored, rounded, same_answer}
use Rattle.catalog.specs.declared.AnswerName.{AnswerName}
use Rattle.store.specs.Layout.{Form, answers, entry_start, entry_day, answer_at}
use Rattle.store.specs.Answer.{name_of, answer_number}

-- an answer, 76 and TREP first, and the day of its entry
pub record Stored : Type 0 where
  pub answer : List ℕ
  pub day : ℕ

-- its name: the TREP stands second in the answer
abbrev pub name_for : Stored → AnswerName
name_for g = name_of g.answer g.day

-- as a store keeps it: "Store entries keep the first second of the day" (document 02, Req 03)
abbrev pub kept : Stored → Stored
kept g = record { answer = g.answer; day = (rounded (name_for g)).day }

-- what stands where a list has no i-th one
abbrev pub nothing : Stored
nothing = record { answer = []; day = 0 }

-- "the answers back to back"
unfoldable pub back_to_back : List Stored → List ℕ
back_to_back [] = []
back_to_back (g ∷ gs) = g.answer ++ back_to_back gs

-- the bytes of the stream before the i-th answer
abbrev pub offset_of : ℕ → List Stored → ℕ
offset_of i gs = length (back_to_back (take i gs))

-- The store of a list, and the contents of a store

module _ (f : Form) where
  -- "entries of eight bytes: day (4 ..), offset (2), length (2 ..)"
  unfoldable pub entry_bytes : ℕ → Stored → List ℕ
  entry_bytes offset g =
      bytes_of 4 g.day ++ (bytes_of f.width offset ++ bytes_of f.width (length g.answer))

  -- "offsets without gap": the entries of answers whose first lies at this offset
  unfoldable pub entries_from : ℕ → List Stored → List ℕ
  entries_from offset [] = []
  entries_from offset (g ∷ gs) = entry_bytes offset g ++ entries_from (offset + length g.answer) gs

  -- "count of answers n .., stream length t .., n entries .. Then the stream"
  unfoldable pub store_of : List Stored → List ℕ
  store_of gs =
      f.mark
      ++ (bytes_of f.width (length gs)
      ++ (bytes_of f.width (length (back_to_back gs))
      ++ (entries_from 0 gs ++ back_to_back gs)))

  -- the i-th answer of a store, and all of them
  abbrev pub stored_at : ℕ → List ℕ → Stored
  stored_at i s = record { answer = answer_at f i s; day = entry_day f i s }

  unfoldable pub contents : List ℕ → List Stored
  contents s = up_to (answers f s) (λ i. stored_at i s)

-- What the calls are of a list

-- the place of a name, the list's length where none has it; whether one has it
abbrev pub place_of : AnswerName → List Stored → ℕ
place_of name gs = first_of (λ i. same_answer (name_for (get_or gs i nothing)) name) (length gs)

abbrev pub is_among : AnswerName → List Stored → Bool
is_among name gs = any_of (λ i. same_answer (name_for (get_or gs i nothing)) name) (length gs)

-- the answer with that name, no bytes where there is none
abbrev pub answer_named : AnswerName → List Stored → List ℕ
answer_named name gs = (get_or gs (place_of name gs) nothing).answer

-- where the k-th answer begins in the store
abbrev pub start_of : Form → ℕ → List Stored → ℕ
start_of f k gs = entry_start f (length gs) + offset_of k gs

-- Which lists and buffers

-- what a call can be handed: bytes, and a day of four bytes
pub record InBytes (g : Stored) : Type 0 where
  pub bytes : Bytes g.answer
  pub day : g.day < 0x100000000

-- an answer that a store may hold: "each 76, listed TREP, data", and a day that its entry may have
pub record Listed (g : Stored) : Type 0 where
  pub in_bytes : InBytes g
  pub number : answer_number g.answer g.day ≡ done
  pub day : day_stored (name_for g) ≡ true

-- a list that a store of this form may hold
pub record Holdable (f : Form) (gs : List Stored) : Type 0 where
  pub listed : (i : ℕ) → i < length gs → Listed (get_or gs i nothing)
  -- "No two share TREP and day"
  pub different : (i j : ℕ) → i < j → j < length gs
      → name_for (get_or gs i nothing) ≡ name_for (get_or gs j nothing) → ⊥
  -- "n (0 to 64)", "t (0 to 60,000)"
  pub count : length gs ≤ f.answers_most
  pub stream : length (back_to_back gs) ≤ f.stream_most

-- a buffer of this form: bytes, with the form's mark in front
pub record OfForm (f : Form) (s : List ℕ) : Type 0 where
  pub bytes : Bytes s
  pub marked : take (length f.mark) s ≡ f.mark

-- Lookup, the stream, and the answers one by one.
use Rattle.std.specs.Prelude.{ℕ, Bool, List, ltb}
use Rattle.octets.specs.Order.{unless, or_else}
use Rattle.octets.specs.Search.{first_of, any_of}
use Rattle.octets.specs.Numbers.{done, not_held, changed_by, place_by, counted_by}
use Rattle.octets.specs.Buffer.{part_at}
use Rattle.octets.specs.declared.Place.{Place}
use Rattle.octets.specs.declared.Counted.{Counted}
use Rattle.catalog.specs.Name.{zero_name, rounded, same_answer}
use Rattle.catalog.specs.declared.AnswerName.{AnswerName}
use Rattle.octets.specs.Numbers.{number, refused_place, looked_up}
use Rattle.octets.specs.declared.refusal.Refusal.{Refusal}
use Rattle.std.specs.Prelude.{Result, Ok, Err}
use Rattle.store.specs.declared.HeldAnswer.{HeldAnswer}
use Rattle.store.specs.declared.TwoParts.{TwoParts}
use Rattle.store.specs.Layout.{Form, answers, stream_start, stream_length, entry_length, answer_start, name_at}
use Rattle.store.specs.Check.{store_number}

-- where two answers lie, beside the number of the store
pub record TwoPlaces : Type 0 where
  pub number : ℕ
  pub first : Place
  pub second : Place

-- an answer that is held, or a refusal and zeros
pub record Held : Type 0 where
  pub number : ℕ
  pub name : AnswerName
  pub start : ℕ
  pub len : ℕ

-- what the code's calls hand back

abbrev pub two_places : Result TwoParts Refusal → TwoPlaces
two_places (Ok parts) = record { number = done; first = looked_up parts.first; second = looked_up parts.second }
two_places (Err refusal) =
    record { number = number refusal; first = refused_place (number refusal); second = refused_place (number refusal) }

abbrev pub held_given : Result HeldAnswer Refusal → Held
held_given (Ok held) = record { number = done; name = held.name; start = held.part.start; len = held.part.len }
held_given (Err refusal) = record { number = number refusal; name = zero_name; start = 0; len = 0 }

module _ (f : Form) where
  -- the answer with that name, from 0; the count of answers where none has it
  abbrev pub position : AnswerName → List ℕ → ℕ
  position name s = first_of (λ i. same_answer (name_at f i s) name) (answers f s)

  -- one has it
  abbrev pub is_held : AnswerName → List ℕ → Bool
  is_held name s = any_of (λ i. same_answer (name_at f i s) name) (answers f s)

  -- "Lookup: 5, 6 (unlisted names too)", with the number of the fault for 5; "lookup .. compare whole days for
  -- activities" (document 02, Req 03): by the name under which a store keeps the answer
  unfoldable pub lookup_number : AnswerName → List ℕ → ℕ
  lookup_number name s = or_else (store_number f s) (unless (is_held (rounded name) s) not_held done)

  -- "A lookup hands back the answer as part of the buffer, or 6"
  unfoldable pub lookup_place : AnswerName → List ℕ → Place
  lookup_place name s =
      place_by (lookup_number name s)
      (answer_start f (position (rounded name) s) s)
      (entry_length f (position (rounded name) s) s)

  -- two lookups for one check, with the number of the store beside them
  abbrev pub lookup_both : AnswerName → AnswerName → List ℕ → TwoPlaces
  lookup_both first second s =
      record { number = store_number f s; first = lookup_place first s; second = lookup_place second s }

  unfoldable pub lookup_part : AnswerName → List ℕ → List ℕ
  lookup_part name s = part_at (lookup_place name s).start (lookup_place name s).len s

  -- the stream (DDP_034), unless the store is broken
  unfoldable pub stream_place : List ℕ → Place
  stream_place s = place_by (store_number f s) (stream_start f s) (stream_length f s)

  unfoldable pub stream_part : List ℕ → List ℕ
  stream_part s = part_at (stream_place s).start (stream_place s).len s

  -- how many answers it holds
  unfoldable pub count_held : List ℕ → Counted
  count_held s = counted_by (store_number f s) (answers f s)

  -- the i-th answer: the store's number, then 6 where it has no more answers
  unfoldable pub held_number : ℕ → List ℕ → ℕ
  held_number i s = or_else (store_number f s) (unless (ltb i (answers f s)) not_held done)

  unfoldable pub held_answer : ℕ → List ℕ → Held
  held_answer i s =
      record {
        number = held_number i s;
        name = changed_by (held_number i s) (name_at f i s) zero_name;
        start = changed_by (held_number i s) (answer_start f i s) 0;
        len = changed_by (held_number i s) (entry_length f i s) 0;
      }

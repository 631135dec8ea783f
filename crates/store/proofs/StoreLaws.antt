-- What a caller learns from an unbroken store and from a lookup.
use Prim.Native.Nat.{ℕ, ◌+◌, ◌<◌, ◌≤◌}
use mathlib.Core.Bool.{Bool, true, false, not}
use mathlib.Core.List.{List, [], ◌∷◌}
use mathlib.Core.Logic.{◌⊎◌, inl, inr, ⊎_elim}
use mathlib.Core.Path.{◌≡◌, refl, sym, ap, ◌∙◌}
use native.Mathlib.Omega.{arith}
use native.Mathlib.Nat.{add-zero}
use lib.ListN.{length, get_or, drop}
use lib.Seq.{drop-cons}
use borrow.Author.Tests.{lt-ltb, le-ltb, ne_eqb, ltb-true, ltb-false, eqb-true, not-false}
use Rattle.octets.specs.Search.{first_of, none_of}
use Rattle.octets.proofs.Tests.{and_left, and_right, never}
use Rattle.octets.proofs.BufferLaws.{length_part}
use Rattle.octets.proofs.OrderLaws.{Both, unless-is, unless-fails, or-zero, or_is}
use Rattle.octets.proofs.PartLaws.{byte-in}
use Rattle.octets.proofs.SearchLaws.{none-at, first-before, first_found}
use Rattle.catalog.specs.Table.{listed}
use Rattle.catalog.specs.Name.{day_stored, rounded}
use Rattle.catalog.proofs.NameLaws.{same_self}
use Rattle.catalog.proofs.DayLaws.{rounded-trep}
use Rattle.catalog.specs.declared.AnswerName.{AnswerName}
use Rattle.store.specs.Layout.{Form, header_size, answers, stream_length, store_length, entry_offset, entry_length, answer_start, stream_of, answer_at, name_at}
use Rattle.store.specs.Check.{header_fits, counts_fit, filled_to, place_right, places_right, answer_right, answers_right, repeats, names_differ, store_number}
use Rattle.store.specs.Faults.{IsFault, WithinBounds}
use Rattle.store.specs.Claims.{Missing}
use Rattle.store.specs.Read.{position, is_held, lookup_number, lookup_place, lookup_part, stream_place, stream_part}
use Rattle.store.proofs.NumberLaws.{number_by, number-in-order, past-13, past-14, past-15, past-16, past-17}
use Rattle.store.proofs.FactLaws.{whole-passes, bounded-is, bounded-passes, placed-is, begun-is}
use Rattle.store.proofs.PositionLaws.{has_name, position-named, not-held}

module _ (f : Form) where
  -- The five checks that number 0 stands for
  pub record Unbroken (s : List ℕ) : Type 0 where
    pub header : header_size f ≤ length s
    pub within : store_length f s ≤ length s
    pub count : answers f s ≤ f.answers_most
    pub stream : stream_length f s ≤ f.stream_most
    pub places : places_right f s ≡ true
    pub right : answers_right f s ≡ true
    pub differ : names_differ f s ≡ true

  -- a store with number 0 passes them
  pub unbroken : (s : List ℕ) → store_number f s ≡ 0 → Unbroken s
  unbroken s e =
      let b = bounded-is f s (past-13 f s 0 e refl).first (past-14 f s 0 e refl refl).first in
      record {
        header = b.whole.header;
        within = b.whole.store;
        count = b.count;
        stream = b.stream;
        places = (past-15 f s 0 e refl refl refl).first;
        right = (past-16 f s 0 e refl refl refl refl).first;
        differ = (past-17 f s 0 e refl refl refl refl refl).first;
      }

  -- and one that passes them has number 0
  pub unbroken-zero : (s : List ℕ) → Unbroken s → store_number f s ≡ 0
  unbroken-zero s u =
      let b : WithinBounds f s =
      record { whole = record { header = u.header; store = u.within }; count = u.count; stream = u.stream } in
      number-in-order f s ∙ rw (whole-passes f s b.whole, bounded-passes f s b, u.places, u.right, u.differ)

  -- the number is 0 or that of a fault
  pub store-either : (s : List ℕ) → (store_number f s ≡ 0) ⊎ IsFault (store_number f s)
  store-either s = rw (number-in-order f s) (go (header_fits f s) (counts_fit f s) (places_right f s) (answers_right f s) (names_differ f s))
    where
      go : (h c p r d : Bool) → (number_by h c p r d ≡ 0) ⊎ IsFault (number_by h c p r d)
      go false c p r d = inr (omega arith, omega arith)
      go true false p r d = inr (omega arith, omega arith)
      go true true false r d = inr (omega arith, omega arith)
      go true true true false d = inr (omega arith, omega arith)
      go true true true true false = inr (omega arith, omega arith)
      go true true true true true = inl refl

  -- so it is no other
  pub store-not : (s : List ℕ) (k : ℕ) → (k ≡ 0 → ⊥) → (IsFault k → ⊥) → store_number f s ≡ k → ⊥
  store-not s k z n e = ⊎_elim (λ q. z (sym e ∙ q)) (λ q. n (rw e at q)) (store-either s)

  -- Each answer of an unbroken store

  pub record Held (i : ℕ) (s : List ℕ) : Type 0 where
    pub placed : entry_offset f i s ≡ filled_to f i s
    pub long : 2 ≤ entry_length f i s
    pub inside : entry_offset f i s + entry_length f i s ≤ stream_length f s
    pub begins : get_or s (answer_start f i s) 0 ≡ 0x76
    pub listed : listed (name_at f i s).trep ≡ true
    pub day : day_stored (name_at f i s) ≡ true
    pub new : repeats f i s ≡ false

  -- the places of all, and that they fill the stream
  module _ (s : List ℕ) (h : places_right f s ≡ true) where
    pub places-at : (i : ℕ) → i < answers f s → place_right f i s ≡ true
    unfolding places_right
    places-at i l =
        not-false _ (none-at (λ j. not (place_right f j s)) (answers f s) (and_left (none_of (λ j. not (place_right f j s)) (answers f s)) _ h) i l)

    pub places-fill : filled_to f (answers f s) s ≡ stream_length f s
    unfolding places_right
    places-fill = eqb-true _ _ (and_right (none_of (λ j. not (place_right f j s)) (answers f s)) _ h)

  -- answer i lies in the stream, has at least two bytes, begins 76 and a listed TREP, has a day that an entry may have, and no earlier one has its name
  pub held : (s : List ℕ) → store_number f s ≡ 0 → (i : ℕ) → i < answers f s → Held i s
  unfolding answers_right names_differ
  held s e i h =
      let u = unbroken s e in
      let p = placed-is f s i (places-at s u.places i h) in
      let a = begun-is f s i (not-false _ (none-at (λ j. not (answer_right f j s)) (answers f s) u.right i h)) in
      record {
        placed = p.offset;
        long = p.long;
        inside = omega (arith, p.offset, p.inside);
        begins = a.first;
        listed = a.trep;
        day = a.day;
        new = none-at (λ j. repeats f j s) (answers f s) u.differ i h;
      }

  -- no answer of an unbroken store has a name that the table does not list
  pub unlisted-missing : (name : AnswerName) (s : List ℕ) → store_number f s ≡ 0 → listed name.trep ≡ false → Missing f name s
  unlisted-missing name s z u i l e =
      let t : listed name.trep ≡ true = rw e at (held s z i l).listed in
      never (cc)

  module _ (s : List ℕ) (zero : store_number f s ≡ 0) (i : ℕ) (below : i < answers f s) where
    -- it lies within the buffer
    pub answer-within : answer_start f i s + entry_length f i s ≤ length s
    answer-within = omega (arith, (held s zero i below).inside, (unbroken s zero).within)

    -- its length is the one that its entry names
    pub answer-length : length (answer_at f i s) ≡ entry_length f i s
    unfolding answer_at
    answer-length = length_part s (answer_start f i s) (entry_length f i s) answer-within

    -- from 2 bytes to the bound
    pub answer-least : 2 ≤ length (answer_at f i s)
    answer-least = rw answer-length (held s zero i below).long

    pub answer-most : length (answer_at f i s) ≤ f.stream_most
    answer-most = rw answer-length (omega (arith, (held s zero i below).inside, (unbroken s zero).stream))

    -- 76 and the TREP of its name, then its data
    pub answer-begins : answer_at f i s ≡ 0x76 ∷ (name_at f i s).trep ∷ drop 2 (answer_at f i s)
    unfolding answer_at name_at
    answer-begins =
        let x : List ℕ = answer_at f i s in
        let l : 2 ≤ length x = answer-least in
        let b = answer_start f i s in
        let h = held s zero i below in
        let first : get_or x 0 0 ≡ 0x76 =
        sym (byte-in b (entry_length f i s) 0 s (omega (arith, h.long))) ∙ ap (λ (k : ℕ). get_or s k 0) (add-zero b) ∙ h.begins in
        let second : get_or x 1 0 ≡ get_or s (b + 1) 0 = sym (byte-in b (entry_length f i s) 1 s (omega (arith, h.long))) in
        drop-cons x 0 0 (omega arith) ∙ ap (λ (r : List ℕ). get_or x 0 0 ∷ r) (drop-cons x 1 0 (omega arith)) ∙ rw (first, second)

    -- no two answers have one name, so a search finds each of them
    pub position-of : position f (name_at f i s) s ≡ i
    unfolding repeats
    position-of =
        let name : AnswerName = name_at f i s in
        let none : i ≤ first_of (has_name f name s) i = ltb-false (first_of (has_name f name s) i) i (held s zero i below).new in
        first_found (has_name f name s) (answers f s) i below (same_self name) (λ j h. first-before (has_name f name s) i j (omega arith))

  -- Lookups, by the name under which a store keeps the answer

  module _ (name : AnswerName) (s : List ℕ) where
    -- a lookup is not refused exactly where the store is unbroken and the search ends at an answer
    pub lookup-zero : store_number f s ≡ 0 → position f (rounded name) s < answers f s → lookup_number f name s ≡ 0
    unfolding lookup_number
    lookup-zero z h = rw (z, lt-ltb (position f (rounded name) s) (answers f s) h)

    pub lookup-missing : store_number f s ≡ 0 → answers f s ≤ position f (rounded name) s → lookup_number f name s ≡ 6
    unfolding lookup_number
    lookup-missing z h = rw (z, le-ltb (position f (rounded name) s) (answers f s) h)

    -- 6 says that the store is unbroken and no held answer has that name
    pub lookup-missing-only : lookup_number f name s ≡ 6 → Both (store_number f s ≡ 0) (Missing f (rounded name) s)
    unfolding lookup_number
    lookup-missing-only e =
        let o = or_is (store_number f s) _ 6 (store-not s 6 (λ z. omega arith) (λ q. omega (arith, q.0))) e in
        let n = unless-fails (is_held f (rounded name) s) 6 0 (λ z. omega arith) o.rest in
        record { first = o.first; rest = not-held f (rounded name) s n }

    -- refused, the part is empty
    pub lookup-empty : (lookup_number f name s ≡ 0 → ⊥) → lookup_part f name s ≡ []
    unfolding lookup_part lookup_place
    lookup-empty h = rw (ne_eqb (lookup_number f name s) 0 h)

  pub record Found (name : AnswerName) (s : List ℕ) : Type 0 where
    pub whole : store_number f s ≡ 0
    pub below : position f (rounded name) s < answers f s
    pub named : name_at f (position f (rounded name) s) s ≡ rounded name
    pub place : lookup_place f name s
        ≡ record { number = 0; start = answer_start f (position f (rounded name) s) s; len = entry_length f (position f (rounded name) s) s }
    pub part : lookup_part f name s ≡ answer_at f (position f (rounded name) s) s
    pub least : 2 ≤ length (lookup_part f name s)
    pub most : length (lookup_part f name s) ≤ f.stream_most
    pub begins : lookup_part f name s ≡ 0x76 ∷ name.trep ∷ drop 2 (lookup_part f name s)

  -- what a lookup that is not refused gives: an answer below the count, kept under that name, within the bounds, 76 and the TREP first
  pub found : (name : AnswerName) (s : List ℕ) → lookup_number f name s ≡ 0 → Found name s
  unfolding lookup_number lookup_place lookup_part answer_at
  found name s e =
      let o = or-zero (store_number f s) _ e in
      let z = o.first in
      let p : ℕ = position f (rounded name) s in
      let h : p < answers f s = ltb-true _ _ (unless-is (is_held f (rounded name) s) 6 _ 0 refl o.rest).first in
      let n : name_at f p s ≡ rounded name = position-named f (rounded name) s h in
      let t : (name_at f p s).trep ≡ name.trep = ap (λ (x : AnswerName). x.trep) n ∙ rounded-trep name in
      let q : lookup_part f name s ≡ answer_at f p s = rw e in
      record {
        whole = z;
        below = h;
        named = n;
        place = rw e;
        part = q;
        least = rw q (answer-least s z p h);
        most = rw q (answer-most s z p h);
        begins = rw q (rw t at (answer-begins s z p h));
      }

  -- the stream of an unbroken store
  pub stream-part : (s : List ℕ) → store_number f s ≡ 0 → stream_part f s ≡ stream_of f s
  unfolding stream_part stream_place
  stream-part s z = rw z

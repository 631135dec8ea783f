-- Lookup, stream and answers, from the tests of the code.
use Prim.Native.Nat.{ℕ, ◌<◌, ◌≤◌}
use mathlib.Core.Bool.{true, false}
use mathlib.Core.List.{List}
use mathlib.Core.Path.{◌≡◌, sym, ap, ◌∙◌}
use lib.Dec.{ltb}
use borrow.Author.Tests.{lt-ltb, le-ltb, ne_eqb}
use Rattle.octets.specs.Search.{first_of}
use Rattle.octets.specs.declared.Place.{Place}
use Rattle.octets.specs.Numbers.{refused_place}
use Rattle.catalog.specs.Table.{listed}
use Rattle.catalog.specs.Name.{rounded, same_answer}
use Rattle.catalog.specs.declared.AnswerName.{AnswerName}
use Rattle.catalog.proofs.TableLaws.{absent-unlisted}
use Rattle.catalog.proofs.DayLaws.{rounded-trep}
use Rattle.store.specs.Read.{Held}
use Rattle.store.specs.Read.{TwoPlaces}
use Rattle.store.specs.Layout.{Form, answers, stream_length, stream_start, entry_length, answer_start, name_at}
use Rattle.store.specs.Check.{store_number}
use Rattle.store.specs.Read.{position, lookup_number, lookup_place, lookup_both, stream_place, held_number, held_answer}
use Rattle.store.proofs.PositionLaws.{missing-not}
use Rattle.store.proofs.StoreLaws.{unlisted-missing}

-- A search in a checked store; i is the position, n the count, kept the name under which the answer is kept

module _ (f : Form) (s : List ℕ) (name : AnswerName) (z : store_number f s ≡ 0) where
  -- a held answer has a listed TREP, and FF is none
  pub find_none : (place : Place) → name.trep ≡ 0xFF → place ≡ refused_place 6 → place ≡ lookup_place f name s
  unfolding lookup_place lookup_number
  find_none place e q =
      let u : listed (rounded name).trep ≡ false = ap listed (rounded-trep name) ∙ sym (absent-unlisted name.trep e) in
      rw q (rw (z, missing-not f (rounded name) s (unlisted-missing f (rounded name) s z u)))

  module _ (i n : ℕ) (q : n ≡ answers f s) (kept : AnswerName) (r : kept ≡ rounded name) (found : i ≡ first_of (λ j. same_answer (name_at f j s) kept) n) where
    p : i ≡ position f (rounded name) s
    p = rw (← q, ← r) found

    pub find-missing : (place : Place) → n ≤ i → place ≡ refused_place 6 → place ≡ lookup_place f name s
    unfolding lookup_place lookup_number
    find-missing place h e = rw e (rw (z, ← p, ← q, le-ltb i n h))

    pub find-found : (b l : ℕ) → i < n → b ≡ answer_start f i s → l ≡ entry_length f i s
        → ◌≡◌ {A = Place} (record { number = 0; start = b; len = l }) (lookup_place f name s)
    unfolding lookup_place lookup_number
    find-found b l h bs ls =
        let t : ltb (position f (rounded name) s) (answers f s) ≡ true = rw (← p, ← q) (lt-ltb i n h) in
        rw (z, t, ← p, bs, ls)

-- A lookup; r is the number of the check

module _ (f : Form) (s : List ℕ) (name : AnswerName) (r : ℕ) (e : r ≡ store_number f s) where
  pub place-broken : (place : Place) → (r ≡ 0 → ⊥) → place ≡ refused_place r → place ≡ lookup_place f name s
  unfolding lookup_place lookup_number
  place-broken place z q = rw q (rw (← e, ne_eqb r 0 z, ne_eqb r 0 z))

-- Two of them
module _ (f : Form) (s : List ℕ) (first second : AnswerName) (r : ℕ) (e : r ≡ store_number f s) where
  pub both-broken : (p : Place) → (r ≡ 0 → ⊥) → p ≡ record { number = r; start = 0; len = 0 }
      → ◌≡◌ {A = TwoPlaces} (record { number = r; first = p; second = p }) (lookup_both f first second s)
  both-broken p z q = rw (← e, ← place-broken f s first r e p z q, ← place-broken f s second r e p z q)

  pub both_found : (p q : Place) → r ≡ 0 → p ≡ lookup_place f first s → q ≡ lookup_place f second s
      → ◌≡◌ {A = TwoPlaces} (record { number = 0; first = p; second = q }) (lookup_both f first second s)
  both_found p q z a b = rw (← e, z, a, b)

pub number-of-place : (f : Form) (s : List ℕ) (name : AnswerName) (place : Place) → place ≡ lookup_place f name s → place.number ≡ lookup_number f name s
unfolding lookup_place
number-of-place f s name place e = ap (λ (p : Place). p.number) e

-- The stream

module _ (f : Form) (s : List ℕ) (r : ℕ) (e : r ≡ store_number f s) where
  pub stream-broken : (place : Place) → (r ≡ 0 → ⊥) → place ≡ refused_place r → place ≡ stream_place f s
  unfolding stream_place
  stream-broken place z q = rw q (rw (← e, ne_eqb r 0 z))

  pub stream-found : (b t : ℕ) → r ≡ 0 → b ≡ stream_start f s → t ≡ stream_length f s
      → ◌≡◌ {A = Place} (record { number = 0; start = b; len = t }) (stream_place f s)
  unfolding stream_place
  stream-found b t z bs ts = rw (← e, z, bs, ts)

  -- One answer after the other

  module _ (k : ℕ) where
    pub held-broken : (r ≡ 0 → ⊥) → ◌≡◌ {A = Held} (record { number = r; name = record { trep = 0; day = 0 }; start = 0; len = 0 }) (held_answer f k s)
    unfolding held_answer held_number
    held-broken z = rw (← e, ne_eqb r 0 z, ne_eqb r 0 z)

    module _ (z : r ≡ 0) (n : ℕ) (q : n ≡ answers f s) where
      pub held-missing : n ≤ k → ◌≡◌ {A = Held} (record { number = 6; name = record { trep = 0; day = 0 }; start = 0; len = 0 }) (held_answer f k s)
      unfolding held_answer held_number
      held-missing h = rw (← e, z, ← q, le-ltb k n h)

      pub held_found : (name : AnswerName) (b l : ℕ) → k < n → name ≡ name_at f k s → b ≡ answer_start f k s → l ≡ entry_length f k s
          → ◌≡◌ {A = Held} (record { number = 0; name = name; start = b; len = l }) (held_answer f k s)
      unfolding held_answer held_number
      held_found name b l h ns bs ls =
          let t : ltb k (answers f s) ≡ true = rw (← q) (lt-ltb k n h) in
          rw (← e, z, t, ns, bs, ls)

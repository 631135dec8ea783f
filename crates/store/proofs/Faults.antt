-- The claims of specs/Faults.antt: from the fault to what is broken, and back.
use Prim.Native.Nat.{ℕ, zero, suc, ◌<◌, ◌≤◌}
use mathlib.Core.Bool.{Bool, true, false, cond, not, ◌&&◌}
use mathlib.Core.List.{List}
use mathlib.Core.Logic.{◌⊎◌, inl, inr, ⊎_elim}
use mathlib.Core.Path.{◌≡◌, refl, sym, ap, ◌∙◌}
use native.Mathlib.Omega.{arith}
use native.Mathlib.Decide.{dec_lt}
use lib.Dec.{eqb, leb}
use lib.ListN.{length}
use borrow.Author.Tests.{lt-ltb, le-ltb, le-leb, lt-leb, eq-eqb, ne_eqb, leb-true, leb-false, eqb-false, not-true, not-false}
use Rattle.octets.specs.Search.{none_of}
use Rattle.octets.proofs.Tests.{and_both, and-false}
use Rattle.octets.proofs.SearchLaws.{first-most, first_holds, first-before, first_found, first-none, first-facts, none-at, none-built}
use Rattle.store.specs.declared.Fault.{Fault}
use Rattle.store.specs.Layout.{Form, header_size, answers, stream_length, store_length}
use Rattle.store.specs.Check.{header_fits, filled_to, place_right, places_right, answer_right, answers_right, repeats, names_differ}
use Rattle.store.specs.Check.{fault_at, no_fault, count_read, misplaced_at, wrong_at, repeat_at, store_fault, store_number}
use Rattle.store.specs.Faults.{IsFault, WithinBounds, Placed, Misplaced, Filled, AllBegun, Short, no_header, no_store, OverBounds, EntryWrong}
use Rattle.store.specs.Faults.{AnswerWrong, NameTwice, Sound, FaultClaims}
use Rattle.store.proofs.CheckLaws.{number-of-fault}
use Rattle.store.proofs.NumberLaws.{first-13, first-14, first-15, first-16, first-17, first-0, past-13, past-14, past-15, past-16}
use Rattle.store.proofs.NumberLaws.{past-17, fails-13, fails-14, fails-15, fails-16, fails-17, at-13, at-14, at-15, at-16, at-17}
use Rattle.store.proofs.FactLaws.{whole_is, whole-passes, bounded-is, bounded-passes, over-is, over-fails, placed-is, placed-passes}
use Rattle.store.proofs.FactLaws.{misplaced-is, misplaced-fails, begun-is, begun-passes, misbegun-is, misbegun-fails, new_is, new-passes}
use Rattle.store.proofs.FactLaws.{repeated-is, repeated-fails}
use Rattle.store.proofs.StoreLaws.{store-either, places-at, places-fill}

module _ (f : Form) (s : List ℕ) where
  abbrev n : ℕ
  n = answers f s

  -- a fault has one number and one position
  number_is : (k p : ℕ) → store_fault f s ≡ fault_at k p → store_number f s ≡ k
  number_is k p e = sym (number-of-fault f s (fault_at k p) (sym e))

  position-is : (k p q : ℕ) → store_fault f s ≡ fault_at k q → store_fault f s ≡ fault_at k p → q ≡ p
  position-is k p q a e = ap (λ (x : Fault). x.position) (sym a ∙ e)

  -- 13

  short-is : (p : ℕ) → store_fault f s ≡ fault_at 13 p → Short f p s
  unfolding header_fits count_read
  short-is p e =
      let k = number_is 13 p e in
      go (leb (header_size f) (length s)) refl (fails-13 f s k) (position-is 13 p _ (at-13 f s k) e)
    where
      go : (b : Bool) → leb (header_size f) (length s) ≡ b → (b && leb (store_length f s) (length s)) ≡ false → cond b n 0 ≡ p → Short f p s
      go true e h q = no_store (leb-true _ _ e) (leb-false _ _ h) (sym q)
      go false e h q = no_header (leb-false _ _ e) (sym q)

  short-fault : (p : ℕ) → Short f p s → store_fault f s ≡ fault_at 13 p
  unfolding header_fits count_read
  short-fault p (no_header l e) =
      let b = lt-leb (header_size f) (length s) l in
      first-13 f s (rw b) ∙ rw (b, e)
  short-fault p (no_store h l e) =
      let b = le-leb (header_size f) (length s) h in
      first-13 f s (rw (b, lt-leb (store_length f s) (length s) l)) ∙ rw (b, e)

  -- 14

  bounds-is : (p : ℕ) → store_fault f s ≡ fault_at 14 p → OverBounds f p s
  bounds-is p e =
      let k = number_is 14 p e in
      record {
        whole = whole_is f s (past-13 f s 14 k refl).first;
        over = over-is f s (fails-14 f s k);
        position = sym (position-is 14 p _ (at-14 f s k) e);
      }

  bounds-fault : (p : ℕ) → OverBounds f p s → store_fault f s ≡ fault_at 14 p
  bounds-fault p o = first-14 f s (whole-passes f s o.whole) (over-fails f s o.over) ∙ rw o.position

  -- 15

  -- the entries in front of the first that is misplaced
  placed-before : (i : ℕ) → i < misplaced_at f s → Placed f i s
  placed-before i l = placed-is f s i (not-false _ (first-before (λ j. not (place_right f j s)) n i l))

  -- entries in their places end within the stream
  filled_within : (i : ℕ) → ((j : ℕ) → j < i → Placed f j s) → filled_to f i s ≤ stream_length f s
  unfolding filled_to
  filled_within zero placed = omega arith
  filled_within (suc i) placed = (placed i (omega arith)).inside

  -- where it stops: at a misplaced entry, or behind them all with stream left
  stops : (p : ℕ) → misplaced_at f s ≡ p → places_right f s ≡ false
      → ((p < n) × Misplaced f p s) ⊎ ((p ≡ n) × (filled_to f p s < stream_length f s))
  unfolding places_right
  stops p at w =
      elim (dec_lt p n) as (λ _. ((p < n) × Misplaced f p s) ⊎ ((p ≡ n) × (filled_to f p s < stream_length f s))) [
        | yes l ↦ inl (l, misplaced-is f s p (not-true _ (rw at at (first_holds (λ j. not (place_right f j s)) n (omega arith)))))
        | no l ↦
            let q : p ≡ n = omega (arith, first-most (λ j. not (place_right f j s)) n) in
            let none : none_of (λ j. not (place_right f j s)) n ≡ true = rw (at, q, le-ltb n n (omega arith)) in
            let left : eqb (filled_to f n s) (stream_length f s) ≡ false = rw none at w in
            let short = eqb-false (filled_to f n s) (stream_length f s) left in
            inr (q, rw q (omega (arith, filled_within n (λ j b. placed-before j (omega arith)))))
      ]

  bounded_at : (k : ℕ) → store_number f s ≡ k → eqb 13 k ≡ false → eqb 14 k ≡ false → WithinBounds f s
  bounded_at k e n13 n14 = bounded-is f s (past-13 f s k e n13).first (past-14 f s k e n13 n14).first

  entry-is : (p : ℕ) → store_fault f s ≡ fault_at 15 p → EntryWrong f p s
  entry-is p e =
      let k = number_is 15 p e in
      let at : misplaced_at f s ≡ p = position-is 15 p _ (at-15 f s k) e in
      record { bounded = bounded_at 15 k refl refl; before = λ i l. placed-before i (omega arith); here = stops p at (fails-15 f s k) }

  entry-fault : (p : ℕ) → EntryWrong f p s → store_fault f s ≡ fault_at 15 p
  unfolding places_right
  entry-fault p b =
      let found = ⊎_elim wrong short b.here in
      first-15 f s (whole-passes f s b.bounded.whole) (bounded-passes f s b.bounded) found.0 ∙ rw found.1
    where
      right : (j : ℕ) → j < p → not (place_right f j s) ≡ false
      right j l = rw (placed-passes f s j (b.before j l))

      wrong : (p < n) × Misplaced f p s → (places_right f s ≡ false) × (misplaced_at f s ≡ p)
      wrong h =
          let at : misplaced_at f s ≡ p = first_found (λ j. not (place_right f j s)) n p h.0 (rw (misplaced-fails f s p h.1)) right in
          (rw (at, lt-ltb p n h.0), at)

      short : (p ≡ n) × (filled_to f p s < stream_length f s) → (places_right f s ≡ false) × (misplaced_at f s ≡ p)
      short h =
          let all : misplaced_at f s ≡ n = first-none (λ j. not (place_right f j s)) n (λ j l. right j (omega (arith, h.0))) in
          let left : eqb (filled_to f n s) (stream_length f s) ≡ false =
          ne_eqb (filled_to f n s) (stream_length f s) (λ e. omega (arith, rw h.0 at h.1)) in
          (and-false (none_of (λ j. not (place_right f j s)) n) _ left, all ∙ sym h.0)

  -- 16

  filled_at : (k : ℕ) → store_number f s ≡ k → eqb 13 k ≡ false → eqb 14 k ≡ false → eqb 15 k ≡ false → Filled f s
  filled_at k e n13 n14 n15 =
      let p = (past-15 f s k e n13 n14 n15).first in
      record { bounded = bounded_at k e n13 n14; placed = λ i l. placed-is f s i (places-at f s p i l); full = places-fill f s p }

  filled-passes : Filled f s → places_right f s ≡ true
  unfolding places_right
  filled-passes w =
      and_both (none_of (λ j. not (place_right f j s)) n) _
      (none-built (λ j. not (place_right f j s)) n (λ j l. rw (placed-passes f s j (w.placed j l))))
      (eq-eqb (filled_to f n s) (stream_length f s) w.full)

  answer-is : (p : ℕ) → store_fault f s ≡ fault_at 16 p → AnswerWrong f p s
  unfolding answers_right
  answer-is p e =
      let k = number_is 16 p e in
      let w = first-facts (λ j. not (answer_right f j s)) n p (position-is 16 p _ (at-16 f s k) e) (fails-16 f s k) in
      record {
        filled = filled_at 16 k refl refl refl;
        below = w.0;
        before = λ i l. begun-is f s i (not-false _ (w.1 i l));
        here = misbegun-is f s p (not-true _ w.2);
      }

  answer-fault : (p : ℕ) → AnswerWrong f p s → store_fault f s ≡ fault_at 16 p
  unfolding answers_right
  answer-fault p b =
      let w = b.filled in
      let at : wrong_at f s ≡ p =
      first_found (λ j. not (answer_right f j s)) n p b.below (rw (misbegun-fails f s p b.here)) (λ j l. rw (begun-passes f s j (b.before j l))) in
      first-16 f s (whole-passes f s w.bounded.whole) (bounded-passes f s w.bounded) (filled-passes w) (rw (at, lt-ltb p n b.below)) ∙ rw at

  -- 17

  begun-at : (k : ℕ) → store_number f s ≡ k → eqb 13 k ≡ false → eqb 14 k ≡ false → eqb 15 k ≡ false → eqb 16 k ≡ false → AllBegun f s
  unfolding answers_right
  begun-at k e n13 n14 n15 n16 =
      let r = (past-16 f s k e n13 n14 n15 n16).first in
      record {
        filled = filled_at k e n13 n14 n15;
        begun = λ i l. begun-is f s i (not-false _ (none-at (λ j. not (answer_right f j s)) n r i l));
      }

  begun-pass : AllBegun f s → answers_right f s ≡ true
  unfolding answers_right
  begun-pass a = none-built (λ j. not (answer_right f j s)) n (λ j l. rw (begun-passes f s j (a.begun j l)))

  twice-is : (p : ℕ) → store_fault f s ≡ fault_at 17 p → NameTwice f p s
  unfolding names_differ
  twice-is p e =
      let k = number_is 17 p e in
      let w = first-facts (λ j. repeats f j s) n p (position-is 17 p _ (at-17 f s k) e) (fails-17 f s k) in
      record {
        begun = begun-at 17 k refl refl refl refl;
        below = w.0;
        before = λ i l. new_is f s i (w.1 i l);
        here = repeated-is f s p w.2;
      }

  twice-fault : (p : ℕ) → NameTwice f p s → store_fault f s ≡ fault_at 17 p
  unfolding names_differ
  twice-fault p b =
      let a = b.begun in
      let w = a.filled in
      let at : repeat_at f s ≡ p =
      first_found (λ j. repeats f j s) n p b.below (repeated-fails f s p b.here) (λ j l. new-passes f s j (b.before j l)) in
      first-17 f s (whole-passes f s w.bounded.whole) (bounded-passes f s w.bounded) (filled-passes w) (begun-pass a) (rw (at, lt-ltb p n b.below))
      ∙ rw at

  -- None

  sound-is : store_number f s ≡ 0 → Sound f s
  unfolding names_differ
  sound-is k =
      let d = (past-17 f s 0 k refl refl refl refl refl).first in
      record { begun = begun-at 0 k refl refl refl refl; new = λ i l. new_is f s i (none-at (λ j. repeats f j s) n d i l) }

  sound-fault : Sound f s → store_fault f s ≡ no_fault
  unfolding names_differ
  sound-fault b =
      let w = b.begun.filled in
      first-0 f s (whole-passes f s w.bounded.whole) (bounded-passes f s w.bounded) (filled-passes w) (begun-pass b.begun)
      (none-built (λ j. repeats f j s) n (λ j l. new-passes f s j (b.new j l)))

  fault-only : (store_fault f s ≡ no_fault) ⊎ IsFault (store_number f s)
  fault-only = ⊎_elim (λ z. inl (sound-fault (sound-is z))) inr (store-either f s)

  -- a fault with this number, at its position
  of_number : (k : ℕ) → store_number f s ≡ k → store_fault f s ≡ fault_at k (store_fault f s).position
  unfolding store_number
  of_number k e = rw (← e)

  -- Where the positions lie

  short-position : store_number f s ≡ 13 → ((store_fault f s).position ≡ 0) ⊎ ((store_fault f s).position ≡ n)
  short-position e = go (short-is _ (of_number 13 e))
    where
      go : {p : ℕ} → Short f p s → (p ≡ 0) ⊎ (p ≡ n)
      go (no_header l q) = inl q
      go (no_store h l q) = inr q

  entry-position : store_number f s ≡ 15 → (store_fault f s).position ≤ n
  entry-position e = ⊎_elim (λ h. omega (arith, h.0)) (λ h. omega (arith, h.0)) (entry-is _ (of_number 15 e)).here

  twice-position : store_number f s ≡ 17 → (1 ≤ (store_fault f s).position) × ((store_fault f s).position < n)
  twice-position e = let b = twice-is _ (of_number 17 e) in (omega (arith, b.here.below), b.below)

pub fault-claims : (f : Form) → FaultClaims f
fault-claims f =
    record {
      thirteen = λ p s. (short-is f s p, short-fault f s p);
      fourteen = λ p s. (bounds-is f s p, bounds-fault f s p);
      fifteen = λ p s. (entry-is f s p, entry-fault f s p);
      sixteen = λ p s. (answer-is f s p, answer-fault f s p);
      seventeen = λ p s. (twice-is f s p, twice-fault f s p);
      none = λ s. ((λ e. sound-is f s (number_is f s 0 0 e)), sound-fault f s);
      only = fault-only f;
      position13 = short-position f;
      position14 = λ s e. (bounds-is f s _ (of_number f s 14 e)).position;
      position15 = entry-position f;
      position16 = λ s e. (answer-is f s _ (of_number f s 16 e)).below;
      position17 = twice-position f;
    }

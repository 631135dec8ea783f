-- Names in a list of answers: each is found at its own place, and one answer more at the end changes nothing for the other names.
use Prim.Native.Nat.{ℕ, ◌+◌, ◌<◌, ◌≤◌}
use mathlib.Core.Bool.{Bool, true, false}
use mathlib.Core.List.{List, [], ◌∷◌, ◌++◌, append-nil}
use mathlib.Core.Path.{◌≡◌, sym, ap, ◌∙◌}
use native.Mathlib.Omega.{arith}
use native.Mathlib.Decide.{dec_lt}
use lib.ListN.{length, get_or, length-append, get_or-append, get_or-eq_default}
use lib.Seq.{get_or-append_seam}
use borrow.Author.Tests.{lt-ltb, le-ltb}
use Rattle.octets.proofs.SearchLaws.{first_holds, first-before, first_found, first-none}
use Rattle.catalog.specs.Name.{same_answer}
use Rattle.catalog.specs.declared.AnswerName.{AnswerName}
use Rattle.catalog.proofs.NameLaws.{same_self, same_not}
use Rattle.store.specs.Layout.{Form}
use Rattle.store.specs.Contents.{Stored, name_for, nothing, back_to_back, place_of, is_among, answer_named, Holdable}
use Rattle.store.proofs.WrittenLaws.{back-append}

-- the i-th of a list has this name
abbrev pub named : AnswerName → List Stored → ℕ → Bool
named name gs i = same_answer (name_for (get_or gs i nothing)) name

pub place-of : (f : Form) (gs : List Stored) → Holdable f gs → (i : ℕ) → i < length gs → place_of (name_for (get_or gs i nothing)) gs ≡ i
place-of f gs fit i h =
    let name : AnswerName = name_for (get_or gs i nothing) in
    first_found (named name gs) (length gs) i h (same_self name) (λ j l. same_not (name_for (get_or gs j nothing)) name (fit.different j i l h))

pub is_among_lem : (f : Form) (gs : List Stored) → Holdable f gs → (i : ℕ) → i < length gs → is_among (name_for (get_or gs i nothing)) gs ≡ true
is_among_lem f gs fit i h = rw (place-of f gs fit i h) (lt-ltb i (length gs) h)

pub answer-of : (f : Form) (gs : List Stored) → Holdable f gs → (i : ℕ) → i < length gs
    → answer_named (name_for (get_or gs i nothing)) gs ≡ (get_or gs i nothing).answer
answer-of f gs fit i h = ap (λ (k : ℕ). (get_or gs k nothing).answer) (place-of f gs fit i h)

-- One answer more

module _ (gs : List Stored) (g : Stored) where
  abbrev more : List Stored
  more = gs ++ (g ∷ [])

  pub more-length : length more ≡ length gs + 1
  more-length = length-append gs (g ∷ [])

  pub more-back : back_to_back more ≡ back_to_back gs ++ g.answer
  unfolding back_to_back
  more-back = back-append gs (g ∷ []) ∙ ap (λ (x : List ℕ). back_to_back gs ++ x) (append-nil g.answer)

  pub more-old : (i : ℕ) → i < length gs → get_or more i nothing ≡ get_or gs i nothing
  more-old i h = get_or-append gs (g ∷ []) nothing i h

  pub more-new : get_or more (length gs) nothing ≡ g
  more-new = get_or-append_seam gs g [] nothing

  module _ (name : AnswerName) where
    -- a name that is there stays where it was
    found-old : place_of name gs < length gs → place_of name more ≡ place_of name gs
    found-old l =
        let p : ℕ = place_of name gs in
        first_found (named name more) (length more) p (omega (arith, more-length))
        (rw (more-old p l) (first_holds (named name gs) (length gs) l))
        (λ j h. rw (more-old j (omega arith)) (first-before (named name gs) (length gs) j h))

    -- another is not there behind it either
    found_none : length gs ≤ place_of name gs → (name ≡ name_for g → ⊥) → place_of name more ≡ length more
    found_none l other =
        first-none (named name more) (length more) (λ j h.
        elim (dec_lt j (length gs)) as (λ _. named name more j ≡ false) [
          | yes q ↦ rw (more-old j q) (first-before (named name gs) (length gs) j (omega arith))
          | no q ↦ let e : j ≡ length gs = omega (arith, more-length) in rw (e, more-new) (same_not (name_for g) name (λ z. other (sym z)))
        ])

    others : (name ≡ name_for g → ⊥) → (is_among name more ≡ is_among name gs) × (answer_named name more ≡ answer_named name gs)
    others other =
        let n = more-length in
        elim (dec_lt (place_of name gs) (length gs)) as (λ _. (is_among name more ≡ is_among name gs) × (answer_named name more ≡ answer_named name gs)) [
          | yes l ↦
              let p = found-old l in
              let a : answer_named name more ≡ answer_named name gs =
              ap (λ (k : ℕ). (get_or more k nothing).answer) p ∙ ap (λ (x : Stored). x.answer) (more-old (place_of name gs) l) in
              (rw p (lt-ltb (place_of name gs) (length more) (omega arith) ∙ sym (lt-ltb (place_of name gs) (length gs) l)), a)
          | no l ↦
              let p = found_none (omega arith) other in
              let out : get_or more (length more) nothing ≡ nothing = get_or-eq_default more nothing (omega arith) in
              let was : get_or gs (place_of name gs) nothing ≡ nothing = get_or-eq_default gs nothing (omega arith) in
              let a : answer_named name more ≡ answer_named name gs =
              ap (λ (k : ℕ). (get_or more k nothing).answer) p ∙ ap (λ (x : Stored). x.answer) (out ∙ sym was) in
              (rw p (le-ltb (length more) (length more) (omega arith) ∙ sym (le-ltb (place_of name gs) (length gs) (omega arith))), a)
        ]

    pub others-among : (name ≡ name_for g → ⊥) → is_among name more ≡ is_among name gs
    others-among other = (others other).0

    pub others-answer : (name ≡ name_for g → ⊥) → answer_named name more ≡ answer_named name gs
    others-answer other = (others other).1

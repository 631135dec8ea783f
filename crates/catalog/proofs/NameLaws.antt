-- Names: what number 0 says, and equality of names.
use mathlib.Core.Path.{◌≡◌, refl, ap₂}
use mathlib.Core.Bool.{Bool, true, false}
use Prim.Native.Nat.{ℕ}
use lib.Dec.{eqb}
use borrow.Author.Tests.{eq-eqb, ne_eqb, eqb-true}
use Rattle.octets.proofs.Tests.{and_left, and_right, and-false}
use Rattle.octets.proofs.OrderLaws.{unless-is}
use Rattle.catalog.specs.Table.{listed}
use Rattle.catalog.specs.Name.{day_named, same_answer, name_number}
use Rattle.catalog.specs.declared.AnswerName.{AnswerName}

pub same_self : (a : AnswerName) → same_answer a a ≡ true
unfolding same_answer
same_self a = rw (eq-eqb a.trep a.trep refl, eq-eqb a.day a.day refl)

abbrev pub named : ℕ → ℕ → AnswerName
named trep day = record { trep = trep; day = day }

-- names are the same answer only if they are equal
pub same-is : (a b : AnswerName) → same_answer a b ≡ true → a ≡ b
unfolding same_answer
same-is a b h =
    let t : a.trep ≡ b.trep = eqb-true _ _ (and_left (eqb a.trep b.trep) _ h) in
    let d : a.day ≡ b.day = eqb-true _ _ (and_right (eqb a.trep b.trep) _ h) in
    ap₂ named t d

-- and are different answers if they are not
pub same_not : (a b : AnswerName) → (a ≡ b → ⊥) → same_answer a b ≡ false
same_not a b n = go (same_answer a b) refl
  where
    go : (t : Bool) → same_answer a b ≡ t → same_answer a b ≡ false
    go true e = absurd (n (same-is a b e))
    go false e = e

-- names of different days are different answers
pub other-day : (a b : AnswerName) → (a.day ≡ b.day → ⊥) → same_answer a b ≡ false
unfolding same_answer
other-day a b h = and-false (eqb a.trep b.trep) _ (ne_eqb a.day b.day h)

-- a name that 12 allows is listed and its day may be named
pub allowed : (name : AnswerName) → name_number name ≡ 0 → (listed name.trep ≡ true) × (day_named name ≡ true)
unfolding name_number
allowed name e =
    let l = unless-is (listed name.trep) 12 _ 0 refl e in
    (l.first, (unless-is (day_named name) 12 0 0 refl l.rest).first)

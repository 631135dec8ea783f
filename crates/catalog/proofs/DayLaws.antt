-- Days: the first second, the rule of a store's entry, and the names that a store keeps.
use mathlib.Core.Path.{◌≡◌, refl, sym, ap, ap₂, ◌∙◌}
use mathlib.Core.Bool.{Bool, true, false, cond, ◌||◌}
use Prim.Native.Nat.{ℕ, ◌-◌, ◌%◌, ◌≤◌}
use native.Mathlib.Omega.{arith}
use lib.Dec.{eqb}
use Rattle.octets.specs.Order.{unless}
use borrow.Author.Tests.{eq-eqb, ne_eqb, eqb-true, eqb-false}
use Rattle.catalog.specs.Table.{listed, is_activities}
use Rattle.catalog.specs.Name.{day_of, first_second, day_named, name_number, day_stored, rounded}
use Rattle.catalog.specs.declared.AnswerName.{AnswerName}
use Rattle.catalog.proofs.NameLaws.{named, allowed}

-- The first second

module _ (second : ℕ) where
  -- as the code takes it
  pub remainder-off : second - second % 86400 ≡ first_second second
  unfolding first_second
  remainder-off = omega arith

  pub first-in-day : day_of (first_second second) ≡ day_of second
  unfolding first_second
  first-in-day = omega arith

  pub first-least : (other : ℕ) → day_of other ≡ day_of second → first_second second ≤ other
  unfolding first_second
  first-least other e = omega arith

  first-multiple : first_second second % 86400 ≡ 0
  unfolding first_second
  first-multiple = omega arith

  -- a multiple of 86,400, as the code tests it
  pub multiple-is : (r : ℕ) → r ≡ first_second second → eqb r second ≡ eqb (second % 86400) 0
  unfolding first_second
  multiple-is r e = go (eqb (second % 86400) 0) refl
    where
      go : (t : Bool) → eqb (second % 86400) 0 ≡ t → eqb r second ≡ t
      go true q = eq-eqb r second (omega (arith, eqb-true (second % 86400) 0 q))
      go false q = ne_eqb r second (λ p. eqb-false (second % 86400) 0 q (omega arith))

  multiple-first : second % 86400 ≡ 0 → first_second second ≡ second
  unfolding first_second
  multiple-first e = omega arith

  pub one-first : (other : ℕ) → day_of second ≡ day_of other → first_second second ≡ first_second other
  unfolding first_second
  one-first other e = rw e

  pub one-day : (other : ℕ) → first_second second ≡ first_second other → day_of second ≡ day_of other
  unfolding first_second
  one-day other e = omega arith

-- Rounded names

module _ (name : AnswerName) where
  pub rounded-trep : (rounded name).trep ≡ name.trep
  unfolding rounded
  rounded-trep = refl

  pub rounded-activities : is_activities name.trep ≡ true → rounded name ≡ named name.trep (first_second name.day)
  unfolding rounded
  rounded-activities e = rw e

  pub rounded-other : is_activities name.trep ≡ false → rounded name ≡ name
  unfolding rounded
  rounded-other e = ap (named name.trep) (rw e)

  -- as the code takes it; r is whether it is of activities
  pub activities-kept : (r : Bool) (day : ℕ) → r ≡ is_activities name.trep → r ≡ true → day ≡ first_second name.day
      → ◌≡◌ {A = AnswerName} (record { trep = name.trep; day = day }) (rounded name)
  activities-kept r day e h d = sym (rounded-activities (sym e ∙ h) ∙ ap (named name.trep) (sym d))

  pub other-kept : (r : Bool) → r ≡ is_activities name.trep → r ≡ false → name ≡ rounded name
  other-kept r e h = sym (rounded-other (sym e ∙ h))

  -- a multiple of 86,400 is the first second already
  pub rounded-multiple : name.day % 86400 ≡ 0 → rounded name ≡ name
  unfolding rounded
  rounded-multiple e = ap (named name.trep) (go (is_activities name.trep))
    where
      go : (b : Bool) → cond b (first_second name.day) name.day ≡ name.day
      go true = multiple-first name.day e
      go false = refl

  -- once is enough
  pub rounded-again : rounded (rounded name) ≡ rounded name
  unfolding rounded
  rounded-again = ap (named name.trep) (go (is_activities name.trep))
    where
      go : (b : Bool) → cond b (first_second (cond b (first_second name.day) name.day)) (cond b (first_second name.day) name.day)
          ≡ cond b (first_second name.day) name.day
      go true = one-first (first_second name.day) name.day (first-in-day name.day)
      go false = refl

  pub rounded-least : (rounded name).day ≤ name.day
  unfolding rounded
  rounded-least = go (is_activities name.trep)
    where
      go : (b : Bool) → cond b (first_second name.day) name.day ≤ name.day
      go true = first-least name.day name.day refl
      go false = omega arith

  -- The rule of an entry's day

  -- a day that an entry may have is a multiple of 86,400
  stored-multiple : day_stored name ≡ true → name.day % 86400 ≡ 0
  unfolding day_stored
  stored-multiple = go (is_activities name.trep)
    where
      go : (b : Bool) → cond b (eqb (name.day % 86400) 0) (eqb name.day 0) ≡ true → name.day % 86400 ≡ 0
      go true h = eqb-true _ _ h
      go false h = let z : name.day ≡ 0 = eqb-true _ _ h in omega arith

  pub rounded-stored : day_stored name ≡ true → rounded name ≡ name
  rounded-stored h = rounded-multiple (stored-multiple h)

  -- 12's test, as the code makes it
  pub named-is : (r : Bool) → r ≡ is_activities name.trep → (r || eqb name.day 0) ≡ day_named name
  unfolding day_named
  named-is r e = rw e

  -- among multiples, 12 asks what the store does
  pub multiple-named : name.day % 86400 ≡ 0 → day_named name ≡ day_stored name
  unfolding day_named day_stored
  multiple-named e = go (is_activities name.trep)
    where
      go : (b : Bool) → (b || eqb name.day 0) ≡ cond b (eqb (name.day % 86400) 0) (eqb name.day 0)
      go true = sym (eq-eqb (name.day % 86400) 0 e)
      go false = refl

  pub stored-allowed : listed name.trep ≡ true → day_stored name ≡ true → name_number name ≡ 0
  unfolding name_number
  stored-allowed l d = rw (l, multiple-named (stored-multiple d), d)

  -- 12 asks the same of a name and of the rounded one
  pub rounded-named : day_named (rounded name) ≡ day_named name
  unfolding day_named rounded
  rounded-named = go (is_activities name.trep)
    where
      go : (b : Bool) → (b || eqb (cond b (first_second name.day) name.day) 0) ≡ (b || eqb name.day 0)
      go true = refl
      go false = refl

  pub rounded-number : name_number (rounded name) ≡ name_number name
  unfolding name_number
  rounded-number = ap₂ by_tests (ap listed rounded-trep) rounded-named
    where
      by_tests : Bool → Bool → ℕ
      by_tests l d = unless l 12 (unless d 12 0)

  -- and what it allows, an entry may have
  pub stored-rounded : name_number name ≡ 0 → day_stored (rounded name) ≡ true
  unfolding day_stored rounded day_named
  stored-rounded e = go (is_activities name.trep) (allowed name e).1
    where
      go : (b : Bool) → (b || eqb name.day 0) ≡ true
          → cond b (eqb (cond b (first_second name.day) name.day % 86400) 0) (eqb (cond b (first_second name.day) name.day) 0) ≡ true
      go true h = eq-eqb (first_second name.day % 86400) 0 (first-multiple name.day)
      go false h = h

-- which names are rounded to one
module _ (a b : AnswerName) where
  pub one-trep : rounded a ≡ rounded b → a.trep ≡ b.trep
  one-trep e = sym (rounded-trep a) ∙ ap (λ (n : AnswerName). n.trep) e ∙ rounded-trep b

  pub same-rounded : is_activities a.trep ≡ true → a.trep ≡ b.trep → day_of a.day ≡ day_of b.day → rounded a ≡ rounded b
  same-rounded e t d =
      rounded-activities a e ∙ ap₂ named t (one-first a.day b.day d) ∙ sym (rounded-activities b (ap is_activities (sym t) ∙ e))

  pub rounded-day : is_activities a.trep ≡ true → rounded a ≡ rounded b → (a.trep ≡ b.trep) × (day_of a.day ≡ day_of b.day)
  rounded-day e q =
      let t = one-trep q in
      let p : named a.trep (first_second a.day) ≡ named b.trep (first_second b.day) =
      sym (rounded-activities a e) ∙ q ∙ rounded-activities b (ap is_activities (sym t) ∙ e) in
      (t, one-day a.day b.day (ap (λ (n : AnswerName). n.day) p))

  pub rounded-equal : is_activities a.trep ≡ false → rounded a ≡ rounded b → a ≡ b
  rounded-equal e q = sym (rounded-other a e) ∙ q ∙ rounded-other b (ap is_activities (sym (one-trep q)) ∙ e)

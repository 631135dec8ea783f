-- The fault by the checks in order, and what a number says of them.
use Prim.Native.Nat.{ℕ}
use mathlib.Core.Bool.{Bool, true, false}
use mathlib.Core.List.{List}
use mathlib.Core.Path.{◌≡◌, refl, sym, ◌∙◌}
use lib.Dec.{eqb}
use borrow.Author.Tests.{eqb-false}
use Rattle.octets.specs.Order.{unless}
use Rattle.octets.proofs.OrderLaws.{Both, unless-is, unless-fails}
use Rattle.store.specs.Layout.{Form, answers}
use Rattle.store.specs.Check.{header_fits, counts_fit, places_right, answers_right, names_differ}
use Rattle.store.specs.Check.{fault_at, no_fault, count_read, misplaced_at, wrong_at, repeat_at, store_fault, store_number}

-- the number, by whether each check holds
abbrev pub number_by : Bool → Bool → Bool → Bool → Bool → ℕ
number_by h c p r d = unless h 13 (unless c 14 (unless p 15 (unless r 16 (unless d 17 0))))

module _ (f : Form) (s : List ℕ) where
  -- From the checks to the fault

  pub first-13 : header_fits f s ≡ false → store_fault f s ≡ fault_at 13 (count_read f s)
  unfolding store_fault
  first-13 h = rw h

  module _ (header : header_fits f s ≡ true) where
    pub first-14 : counts_fit f s ≡ false → store_fault f s ≡ fault_at 14 (answers f s)
    unfolding store_fault
    first-14 h = rw (header, h)

    module _ (counts : counts_fit f s ≡ true) where
      pub first-15 : places_right f s ≡ false → store_fault f s ≡ fault_at 15 (misplaced_at f s)
      unfolding store_fault
      first-15 h = rw (header, counts, h)

      module _ (places : places_right f s ≡ true) where
        pub first-16 : answers_right f s ≡ false → store_fault f s ≡ fault_at 16 (wrong_at f s)
        unfolding store_fault
        first-16 h = rw (header, counts, places, h)

        module _ (right : answers_right f s ≡ true) where
          pub first-17 : names_differ f s ≡ false → store_fault f s ≡ fault_at 17 (repeat_at f s)
          unfolding store_fault
          first-17 h = rw (header, counts, places, right, h)

          pub first-0 : names_differ f s ≡ true → store_fault f s ≡ no_fault
          unfolding store_fault
          first-0 h = rw (header, counts, places, right, h)

  -- The number alone

  abbrev behind16 : ℕ
  behind16 = unless (names_differ f s) 17 0

  abbrev behind15 : ℕ
  behind15 = unless (answers_right f s) 16 behind16

  abbrev behind14 : ℕ
  behind14 = unless (places_right f s) 15 behind15

  abbrev behind13 : ℕ
  behind13 = unless (counts_fit f s) 14 behind14

  pub number-in-order : store_number f s ≡ number_by (header_fits f s) (counts_fit f s) (places_right f s) (answers_right f s) (names_differ f s)
  unfolding store_number store_fault
  number-in-order = go (header_fits f s) (counts_fit f s) (places_right f s) (answers_right f s) (names_differ f s)
    where
      go : (h c p r d : Bool)
          → (unless h (fault_at 13 (count_read f s))
          (unless c (fault_at 14 (answers f s))
          (unless p (fault_at 15 (misplaced_at f s))
          (unless r (fault_at 16 (wrong_at f s))
          (unless d (fault_at 17 (repeat_at f s))
          no_fault))))).number
          ≡ number_by h c p r d
      go false c p r d = refl
      go true false p r d = refl
      go true true false r d = refl
      go true true true false d = refl
      go true true true true false = refl
      go true true true true true = refl

  -- From a number k to the checks: those before it hold

  module _ (k : ℕ) (e : store_number f s ≡ k) where
    pub past-13 : eqb 13 k ≡ false → Both (header_fits f s ≡ true) (behind13 ≡ k)
    past-13 = λ n. unless-is (header_fits f s) 13 _ k n (sym number-in-order ∙ e)

    module _ (n13 : eqb 13 k ≡ false) where
      pub past-14 : eqb 14 k ≡ false → Both (counts_fit f s ≡ true) (behind14 ≡ k)
      past-14 n = unless-is (counts_fit f s) 14 _ k n (past-13 n13).rest

      module _ (n14 : eqb 14 k ≡ false) where
        pub past-15 : eqb 15 k ≡ false → Both (places_right f s ≡ true) (behind15 ≡ k)
        past-15 n = unless-is (places_right f s) 15 _ k n (past-14 n14).rest

        module _ (n15 : eqb 15 k ≡ false) where
          pub past-16 : eqb 16 k ≡ false → Both (answers_right f s ≡ true) (behind16 ≡ k)
          past-16 n = unless-is (answers_right f s) 16 _ k n (past-15 n15).rest

          pub past-17 : eqb 16 k ≡ false → eqb 17 k ≡ false → Both (names_differ f s ≡ true) (0 ≡ k)
          past-17 n16 n = unless-is (names_differ f s) 17 0 k n (past-16 n16).rest

  -- and its own fails, since none behind it gives k
  module _ (k : ℕ) (zero : eqb 0 k ≡ false) where
    not_16 : eqb 17 k ≡ false → behind16 ≡ k → ⊥
    not_16 n17 e = eqb-false 0 k zero (unless-is (names_differ f s) 17 0 k n17 e).rest

    not-15 : eqb 16 k ≡ false → eqb 17 k ≡ false → behind15 ≡ k → ⊥
    not-15 n16 n17 e = not_16 n17 (unless-is (answers_right f s) 16 _ k n16 e).rest

    not-14 : eqb 15 k ≡ false → eqb 16 k ≡ false → eqb 17 k ≡ false → behind14 ≡ k → ⊥
    not-14 n15 n16 n17 e = not-15 n16 n17 (unless-is (places_right f s) 15 _ k n15 e).rest

    not-13 : eqb 14 k ≡ false → eqb 15 k ≡ false → eqb 16 k ≡ false → eqb 17 k ≡ false → behind13 ≡ k → ⊥
    not-13 n14 n15 n16 n17 e = not-14 n15 n16 n17 (unless-is (counts_fit f s) 14 _ k n14 e).rest

  pub fails-13 : store_number f s ≡ 13 → header_fits f s ≡ false
  fails-13 e = unless-fails (header_fits f s) 13 _ (not-13 13 refl refl refl refl refl) (sym number-in-order ∙ e)

  pub fails-14 : store_number f s ≡ 14 → counts_fit f s ≡ false
  fails-14 e = unless-fails (counts_fit f s) 14 _ (not-14 14 refl refl refl refl) (past-13 14 e refl).rest

  pub fails-15 : store_number f s ≡ 15 → places_right f s ≡ false
  fails-15 e = unless-fails (places_right f s) 15 _ (not-15 15 refl refl refl) (past-14 15 e refl refl).rest

  pub fails-16 : store_number f s ≡ 16 → answers_right f s ≡ false
  fails-16 e = unless-fails (answers_right f s) 16 _ (not_16 16 refl refl) (past-15 16 e refl refl refl).rest

  pub fails-17 : store_number f s ≡ 17 → names_differ f s ≡ false
  fails-17 e = unless-fails (names_differ f s) 17 0 (eqb-false 0 17 refl) (past-16 17 e refl refl refl refl).rest

  -- From a number to the fault

  pub at-13 : store_number f s ≡ 13 → store_fault f s ≡ fault_at 13 (count_read f s)
  at-13 e = first-13 (fails-13 e)

  pub at-14 : store_number f s ≡ 14 → store_fault f s ≡ fault_at 14 (answers f s)
  at-14 e = first-14 (past-13 14 e refl).first (fails-14 e)

  pub at-15 : store_number f s ≡ 15 → store_fault f s ≡ fault_at 15 (misplaced_at f s)
  at-15 e = first-15 (past-13 15 e refl).first (past-14 15 e refl refl).first (fails-15 e)

  pub at-16 : store_number f s ≡ 16 → store_fault f s ≡ fault_at 16 (wrong_at f s)
  at-16 e = first-16 (past-13 16 e refl).first (past-14 16 e refl refl).first (past-15 16 e refl refl refl).first (fails-16 e)

  pub at-17 : store_number f s ≡ 17 → store_fault f s ≡ fault_at 17 (repeat_at f s)
  at-17 e =
      first-17 (past-13 17 e refl).first (past-14 17 e refl refl).first (past-15 17 e refl refl refl).first (past-16 17 e refl refl refl refl).first
      (fails-17 e)

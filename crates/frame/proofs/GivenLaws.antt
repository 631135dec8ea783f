-- The test of two given addresses, for the returns of every call with them.
use Prim.Native.Nat.{ℕ}
use mathlib.Core.Bool.{Bool, true, false}
use mathlib.Core.Path.{◌≡◌, refl, sym, ap, ◌∙◌}
use native.Mathlib.Omega.{arith}
use borrow.Author.Tests.{eq-eqb, ne_eqb}
use Rattle.octets.specs.Order.{unless}
use Rattle.frame.specs.declared.Addresses.{Addresses}
use Rattle.frame.specs.Given.{different}

module _ (a : Addresses) where
  pub equal-ones : a.unit ≡ a.tool → different a ≡ false
  unfolding different
  equal-ones e = rw (eq-eqb a.unit a.tool e)

  pub different-ones : (a.unit ≡ a.tool → ⊥) → different a ≡ true
  unfolding different
  different-ones n = rw (ne_eqb a.unit a.tool n)

-- `search (rules, given)`: refused, or the call at two different ones
module _ {A : Type 0} (a : Addresses) (refusal rest : A) where
  pub equal-refused : (x : A) → a.unit ≡ a.tool → x ≡ refusal → x ≡ unless (different a) refusal rest
  equal-refused x q e = rw (equal-ones a q) e

  pub different-done : (x : A) → (a.unit ≡ a.tool → ⊥) → x ≡ rest → x ≡ unless (different a) refusal rest
  different-done x n e = rw (different-ones a n) e

  -- the one law of two different addresses
  pub at-different : different a ≡ true → unless (different a) refusal rest ≡ rest
  at-different d = rw d

  pub at-equal : different a ≡ false → unless (different a) refusal rest ≡ refusal
  at-equal d = rw d

  -- a call that was not refused was made at two different ones
  pub taken-given : (x : A) (number : A → ℕ) → (number refusal ≡ 0 → ⊥) → x ≡ unless (different a) refusal rest → number x ≡ 0 → x ≡ rest
  taken-given x number refused e z = go (different a) e
    where
      go : (d : Bool) → x ≡ unless d refusal rest → x ≡ rest
      go true q = q
      go false q = absurd (refused (ap number (sym q) ∙ z))

pub ruleset given = (equal-refused, different-done)

-- the test of the two was passed
pub passed-different : (a : Addresses) → ◌≡◌ {A = ℕ} 0 (unless (different a) 2 0) → different a ≡ true
passed-different a e = go (different a) e
  where
    go : (d : Bool) → ◌≡◌ {A = ℕ} 0 (unless d 2 0) → d ≡ true
    go true q = refl
    go false q = absurd (omega (arith, q))

-- or not: n is the number
pub failed-different : (a : Addresses) (n : ℕ) → n ≡ unless (different a) 2 0 → (n ≡ 0 → ⊥) → different a ≡ false
failed-different a n e z = go (different a) e
  where
    go : (d : Bool) → n ≡ unless d 2 0 → d ≡ false
    go true q = absurd (z q)
    go false q = refl

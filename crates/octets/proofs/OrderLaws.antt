-- Checks in order, read backwards from the number that they give.
use Rattle.std.proofs.Common.{◌≡◌, ℕ, ◌≤◌, Bool, true, false, cond, eqb, ◌⊎◌, ◌↔◌, refl, inr, eqb-true}
use borrow.Author.Tests.{eqb-false}
use Rattle.octets.specs.Order.{unless, or_else}

pub record Both (A B : Type 0) : Type 0 where
  pub first : A
  pub rest : B

-- a check with another refusal than k holds, and k comes from the rest
pub unless-is : (holds : Bool) (j rest k : ℕ) → eqb j k ≡ false → unless holds j rest ≡ k → Both (holds ≡ true) (rest ≡ k)
unless-is true j rest k n e = record { first = refl; rest = e }
unless-is false j rest k n e = absurd (eqb-false j k n e)

-- a check with refusal k fails where k does not come from the rest
pub unless-fails : (holds : Bool) (k rest : ℕ) → (rest ≡ k → ⊥) → unless holds k rest ≡ k → holds ≡ false
unless-fails true k rest n e = absurd (n e)
unless-fails false k rest n e = refl

-- a check that stands alone fails where it refuses
pub unless-refused : (holds : Bool) (k : ℕ) → (unless holds k 0 ≡ 0 → ⊥) → holds ≡ false
unless-refused true k n = absurd (n refl)
unless-refused false k n = refl

-- checks that share one refusal
pub unless-either : (holds : Bool) (k rest : ℕ) → (rest ≡ 0) ⊎ (rest ≡ k) → (unless holds k rest ≡ 0) ⊎ (unless holds k rest ≡ k)
unless-either true k rest h = h
unless-either false k rest h = inr refl

-- a bound of all refusals
pub unless-most : (holds : Bool) (k rest most : ℕ) → k ≤ most → rest ≤ most → unless holds k rest ≤ most
unless-most true k rest most a b = b
unless-most false k rest most a b = a

-- number 0 comes from both groups of checks
pub or-zero : (a b : ℕ) → or_else a b ≡ 0 → Both (a ≡ 0) (b ≡ 0)
or-zero a b e = go (eqb a 0) refl e
  where
    go : (t : Bool) → eqb a 0 ≡ t → cond t b a ≡ 0 → Both (a ≡ 0) (b ≡ 0)
    go true p q = record { first = eqb-true a 0 p; rest = q }
    go false p q = absurd (eqb-false a 0 p q)

-- numbers before that are not k leave k to the rest
pub or_is : (a b k : ℕ) → (a ≡ k → ⊥) → or_else a b ≡ k → Both (a ≡ 0) (b ≡ k)
or_is a b k n e = go (eqb a 0) refl e
  where
    go : (t : Bool) → eqb a 0 ≡ t → cond t b a ≡ k → Both (a ≡ 0) (b ≡ k)
    go true p q = record { first = eqb-true a 0 p; rest = q }
    go false p q = absurd (n q)

-- and give k, if the rest does not
pub or-first : (a b k : ℕ) → eqb k 0 ≡ false → (b ≡ k → ⊥) → (or_else a b ≡ k) ↔ (a ≡ k)
or-first a b k known other = (go (eqb a 0) refl, (λ e. rw (e, known)))
  where
    go : (t : Bool) → eqb a 0 ≡ t → cond t b a ≡ k → a ≡ k
    go true p q = absurd (other q)
    go false p q = q

-- what follows a check that fails is not asked
pub or-refused : (a k b : ℕ) → eqb k 0 ≡ false → or_else (or_else a k) b ≡ or_else a k
or-refused a k b n = go (eqb a 0) refl
  where
    go : (t : Bool) → eqb a 0 ≡ t → or_else (or_else a k) b ≡ or_else a k
    go true e = rw (e, n)
    go false e = rw (e, e)

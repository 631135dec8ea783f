-- Rules for definitions by Bool tests. `search picks` proves that a result is what such a definition says, from the tests that led there;
-- `search early` does it for a chain of `if !f(..) { return k; }`.
use Rattle.std.proofs.Common.{◌≡◌, ℕ, ◌+◌, Bool, true, false, cond, not, ◌&&◌, ◌||◌, eqb, sym, ap, ◌∙◌, ap₂, arith, le-ltb, lt-ltb, eq-eqb, ne_eqb, le-leb}
use borrow.Author.Tests.{lt-leb, not-true, not-false}

module _ {A : Type 0} where
  pub cond-t : (b : Bool) (x y z : A) → b ≡ true → x ≡ y → x ≡ cond b y z
  cond-t b x y z p q = rw p q

  pub cond-f : (b : Bool) (x y z : A) → b ≡ false → x ≡ z → x ≡ cond b y z
  cond-f b x y z p q = rw p q

pub and-t : (a b x : Bool) → a ≡ true → x ≡ b → x ≡ (a && b)
and-t a b x p q = rw p q

pub and-f : (a b : Bool) → a ≡ false → false ≡ (a && b)
and-f a b p = rw p

pub or-t : (a b : Bool) → a ≡ true → true ≡ (a || b)
or-t a b p = rw p

pub or-f : (a b x : Bool) → a ≡ false → x ≡ b → x ≡ (a || b)
or-f a b x p q = rw p q

pub and-false : (a b : Bool) → b ≡ false → (a && b) ≡ false
and-false true b h = h
and-false false b h = sym (ap (λ (x : Bool). false) h)

-- what `a && b` and `a || b` give where b is not asked is a itself
pub and_self : (a b : Bool) → a ≡ false → a ≡ (a && b)
and_self a b p = rw p

pub or_self : (a b : Bool) → a ≡ true → a ≡ (a || b)
or_self a b p = rw p

-- two constructors are never equal: `never (cc)` finds the two
pub never : {A : Type 0} → ◌≡◌ {A = ℕ} 0 1 → A
never z = absurd (omega arith)

-- both sides of a conjunction that holds, and a conjunction from both
pub and_left : (a b : Bool) → (a && b) ≡ true → a ≡ true
and_left true b h = sym (ap (λ (x : Bool). true) h)
and_left false b h = h

pub and_right : (a b : Bool) → (a && b) ≡ true → b ≡ true
and_right true b h = h
and_right false b h = never (cc)

pub and_both : (a b : Bool) → a ≡ true → b ≡ true → (a && b) ≡ true
and_both a b p q = rw (p, q)

-- a flag that a call gave, and its test: `if f(..)` and `if !f(..)`
pub flag-t : {r b : Bool} → r ≡ b → r ≡ true → b ≡ true
flag-t p q = sym p ∙ q

pub flag-f : {r b : Bool} → r ≡ b → r ≡ false → b ≡ false
flag-f p q = sym p ∙ q

pub flag-nt : {r b : Bool} → r ≡ b → not r ≡ false → b ≡ true
flag-nt {r} p q = sym p ∙ not-false r q

pub flag-nf : {r b : Bool} → r ≡ b → not r ≡ true → b ≡ false
flag-nf {r} p q = sym p ∙ not-true r q

-- two tests of equal numbers
pub eqb_same : (a b a' b' : ℕ) → a ≡ a' → b ≡ b' → eqb a b ≡ eqb a' b'
eqb_same a b a' b' p q = ap₂ eqb p q

pub add_same : (a b k : ℕ) → a ≡ b → a + k ≡ b + k
add_same a b k p = ap (λ (x : ℕ). x + k) p

-- a test against what a call gave
pub eq-given : (x r t : ℕ) → x ≡ r → r ≡ t → eqb x t ≡ true
eq-given x r t e q = eq-eqb x t (e ∙ q)

pub ne-given : (x r t : ℕ) → (x ≡ r → ⊥) → r ≡ t → eqb x t ≡ false
ne-given x r t n q = ne_eqb x t (λ e. n (e ∙ sym q))

pub ruleset tests = (lt-ltb, le-ltb, le-leb, lt-leb, eq-eqb, ne_eqb, flag-t, flag-f, flag-nt, flag-nf)

pub ruleset picks = (cond-t, cond-f, and-t, and-f, or-t, or-f, and_self, or_self, eqb_same, add_same, tests)

-- few rules, since each costs at every level
pub ruleset early = (cond-t, cond-f, lt-ltb, le-ltb, flag-nt, flag-nf)

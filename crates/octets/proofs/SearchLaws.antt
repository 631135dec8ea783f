-- The first place where a test holds: a search a turn at a time, and what its end says of the places below.
use Rattle.std.proofs.Common.{◌≡◌, ℕ, zero, suc, ◌+◌, ◌-◌, ◌<◌, ◌≤◌, Bool, true, false, cond, ◌||◌, sym, refl, ap, ◌∙◌, arith, ltb-false, ltb-true, le-ltb, lt-ltb}
use native.Mathlib.Nat.{sub-zero}
use native.Mathlib.Decide.{dec_lt}
use borrow.Author.Tests.{not-true, not-false}
use Rattle.octets.specs.Search.{first_from, first_of, any_of, none_of}
use Rattle.octets.proofs.Tests.{never}

-- A loop over the places below n: whole says that the search of them all is the one of those from i on

pub search-start : (test : ℕ → Bool) (n : ℕ) → first_of test n ≡ first_from test (n - 0) 0
search-start test n = rw sub-zero

module _ (test : ℕ → Bool) (n i : ℕ) (whole : first_of test n ≡ first_from test (n - i) i) where
  pub search-end : n ≤ i → first_of test n ≡ i
  unfolding first_from
  search-end h = let e : n - i ≡ 0 = omega arith in whole ∙ rw e

  module _ (more : i < n) where
    turn : first_of test n ≡ cond (test i) i (first_from test (n - (i + 1)) (i + 1))
    unfolding first_from
    turn = let e : n - i ≡ suc (n - (i + 1)) = omega arith in whole ∙ rw e

    pub search-hit : test i ≡ true → first_of test n ≡ i
    search-hit h = turn ∙ rw h

    pub search-miss : test i ≡ false → first_of test n ≡ first_from test (n - (i + 1)) (i + 1)
    search-miss h = turn ∙ rw h

    pub none-hit : test i ≡ true → false ≡ none_of test n
    none-hit h = rw (search-hit h, lt-ltb i n more)

  pub none_end : n ≤ i → true ≡ none_of test n
  none_end h = rw (search-end h, le-ltb i n h)

-- where the search ended; where it goes over the places below m, by the n that the code has for m
pub found_at : (test : ℕ → Bool) (n i : ℕ) → first_of test n ≡ i → i ≡ first_of test n
found_at test n i e = sym e

pub found-by : (test : ℕ → Bool) (n m i : ℕ) → n ≡ m → first_of test n ≡ i → i ≡ first_of test m
found-by test n m i p e = rw (← p) (sym e)

-- What the first place of k from i on says

module _ (test : ℕ → Bool) where
  from-least : (k i : ℕ) → i ≤ first_from test k i
  unfolding first_from
  from-least zero i = omega arith
  from-least (suc k) i = go (test i) (from-least k (i + 1))
    where
      go : (t : Bool) → i + 1 ≤ first_from test k (i + 1) → i ≤ cond t i (first_from test k (i + 1))
      go true l = omega arith
      go false l = omega arith

  from-most : (k i : ℕ) → first_from test k i ≤ i + k
  unfolding first_from
  from-most zero i = omega arith
  from-most (suc k) i = go (test i) (from-most k (i + 1))
    where
      go : (t : Bool) → first_from test k (i + 1) ≤ i + 1 + k → cond t i (first_from test k (i + 1)) ≤ i + suc k
      go true l = omega arith
      go false l = omega arith

  from-holds : (k i : ℕ) → first_from test k i < i + k → test (first_from test k i) ≡ true
  unfolding first_from
  from-holds zero i h = absurd (omega arith)
  from-holds (suc k) i h = go (test i) refl h (λ l. from-holds k (i + 1) l)
    where
      go : (t : Bool) → test i ≡ t → cond t i (first_from test k (i + 1)) < i + suc k
          → (first_from test k (i + 1) < i + 1 + k → test (first_from test k (i + 1)) ≡ true)
          → test (cond t i (first_from test k (i + 1))) ≡ true
      go true e l more = e
      go false e l more = more (omega arith)

  from-before : (k i j : ℕ) → i ≤ j → j < first_from test k i → test j ≡ false
  unfolding first_from
  from-before zero i j a b = absurd (omega arith)
  from-before (suc k) i j a b = go (test i) refl b (λ h l. from-before k (i + 1) j h l)
    where
      go : (t : Bool) → test i ≡ t → j < cond t i (first_from test k (i + 1)) → (i + 1 ≤ j → j < first_from test k (i + 1) → test j ≡ false) → test j ≡ false
      go true e l more = absurd (omega arith)
      go false e l more =
          elim (dec_lt i j) as (λ _. test j ≡ false) [
            | yes h ↦ more (omega arith) l
            | no h ↦ let q : i ≡ j = omega arith in ap test (sym q) ∙ e
          ]

-- Of the places below n

module _ (test : ℕ → Bool) (n : ℕ) where
  pub first-most : first_of test n ≤ n
  first-most = omega (arith, from-most test n 0)

  pub first_holds : first_of test n < n → test (first_of test n) ≡ true
  first_holds h = from-holds test n 0 (omega arith)

  pub first-before : (j : ℕ) → j < first_of test n → test j ≡ false
  first-before j h = from-before test n 0 j (omega arith) h

  -- it does not pass a place where the test holds
  pub first-least : (j : ℕ) → test j ≡ true → first_of test n ≤ j
  first-least j h =
      elim (dec_lt j (first_of test n)) as (λ _. first_of test n ≤ j) [
        | yes l ↦ let z : false ≡ true = sym (first-before j l) ∙ h in never (cc)
        | no l ↦ omega arith
      ]

  -- it is the one where the test holds and at none before it
  pub first_found : (i : ℕ) → i < n → test i ≡ true → ((j : ℕ) → j < i → test j ≡ false) → first_of test n ≡ i
  first_found i h t before =
      let l : first_of test n ≤ i = first-least i t in
      elim (dec_lt (first_of test n) i) as (λ _. first_of test n ≡ i) [
        | yes q ↦ let z : false ≡ true = sym (before (first_of test n) q) ∙ first_holds (omega arith) in never (cc)
        | no q ↦ omega arith
      ]

  -- and ends behind all where the test holds at none
  pub first-none : ((j : ℕ) → j < n → test j ≡ false) → first_of test n ≡ n
  first-none none =
      elim (dec_lt (first_of test n) n) as (λ _. first_of test n ≡ n) [
        | yes l ↦ let z : false ≡ true = sym (none (first_of test n) l) ∙ first_holds l in never (cc)
        | no l ↦ omega (arith, first-most)
      ]

  -- where it holds at one: that is below n, and it holds at none before
  pub first-facts : (p : ℕ) → first_of test n ≡ p → none_of test n ≡ false → (p < n) × ((j : ℕ) → j < p → test j ≡ false) × (test p ≡ true)
  first-facts p e h =
      let l : first_of test n < n = ltb-true (first_of test n) n (not-false _ h) in
      (omega arith, λ j b. first-before j (omega arith), rw e at (first_holds l))

  -- none of them exactly where each fails
  pub none-at : none_of test n ≡ true → (j : ℕ) → j < n → test j ≡ false
  none-at h j l = first-before j (omega (arith, ltb-false (first_of test n) n (not-true _ h)))

  pub none-built : ((j : ℕ) → j < n → test j ≡ false) → none_of test n ≡ true
  none-built none = rw (first-none none, le-ltb n n (omega arith))

-- it holds at none of no places; at one of n + 1 where it does at one of the first n or at the last
pub any_none : (test : ℕ → Bool) → any_of test 0 ≡ false
unfolding first_from
any_none test = refl

pub any-more : (test : ℕ → Bool) (n : ℕ) → any_of test (n + 1) ≡ (any_of test n || test n)
any-more test n = go (any_of test n) refl (test n) refl
  where
    found : (j : ℕ) → j < n + 1 → test j ≡ true → any_of test (n + 1) ≡ true
    found j l h = lt-ltb (first_of test (n + 1)) (n + 1) (omega (arith, first-least test (n + 1) j h))

    go : (a : Bool) → any_of test n ≡ a → (t : Bool) → test n ≡ t → any_of test (n + 1) ≡ (any_of test n || test n)
    go true e t q =
        let l : first_of test n < n = ltb-true (first_of test n) n e in
        rw e (found (first_of test n) (omega arith) (first_holds test n l))
    go false e true q = rw (e, q) (found n (omega arith) q)
    go false e false q =
        let none : first_of test (n + 1) ≡ n + 1 = first-none test (n + 1) (λ j h. below j h) in
        rw (e, q, none) (le-ltb (n + 1) (n + 1) (omega arith))
      where
        below : (j : ℕ) → j < n + 1 → test j ≡ false
        below j h =
            elim (dec_lt j n) as (λ _. test j ≡ false) [
              | yes l ↦ first-before test n j (omega (arith, ltb-false (first_of test n) n e))
              | no l ↦ let z : j ≡ n = omega arith in ap test z ∙ q
            ]

-- two tests that agree below n have one first place
pub first-same : (test other : ℕ → Bool) (n : ℕ) → ((j : ℕ) → j < n → test j ≡ other j) → first_of test n ≡ first_of other n
first-same test other n same =
    elim (dec_lt (first_of other n) n) as (λ _. first_of test n ≡ first_of other n) [
      | yes l ↦
          first_found test n (first_of other n) l (same (first_of other n) l ∙ first_holds other n l) (λ j h. same j (omega arith) ∙ first-before other n j h)
      | no l ↦
          first-none test n (λ j h. same j h ∙ first-before other n j (omega (arith, first-most other n))) ∙ (omega (arith, first-most other n))
    ]

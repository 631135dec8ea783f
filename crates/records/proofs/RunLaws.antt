-- Arrays back to back: the loops over their headers, a turn at a time, and the array with a number.
use Prim.Native.Nat.{ℕ, zero, suc, ◌+◌, ◌-◌, ◌<◌, ◌≤◌}
use mathlib.Core.Bool.{Bool, true, false, cond, ◌&&◌}
use mathlib.Core.List.{List}
use mathlib.Core.Path.{◌≡◌, refl, sym, ap, ◌∙◌}
use native.Mathlib.Omega.{arith}
use native.Mathlib.Nat.{sub-zero}
use lib.ListN.{length}
use borrow.Author.Tests.{lt-ltb, le-ltb, eq-eqb, ne_eqb, eqb-true}
use Rattle.octets.specs.declared.Counted.{Counted}
use Rattle.records.specs.Arrays.{next_at, stands_at, filled_from, is_run, arrays_from, arrays_in, behind, header_of, body_number, array_number, array_by, found_at}
use Rattle.records.specs.Arrays.{array_count, array_at}
use Rattle.records.specs.declared.Array.{Array}
use Rattle.octets.proofs.OrderLaws.{unless-is, unless-refused}
use Rattle.records.proofs.HeaderLaws.{none, stands-within, found-stands, found_none, found-next, found_within}

-- The body is judged: what is left decides

-- behind the last array nothing is left
pub filled-end : (most : ℕ) (s : List ℕ) → filled_from most (length s) s ≡ true
unfolding filled_from
filled-end zero s = eq-eqb (length s) (length s) refl
filled-end (suc most) s = rw (eq-eqb (length s) (length s) refl)

pub filled_none : (at : ℕ) (s : List ℕ) → filled_from zero at s ≡ true → length s ≤ at
unfolding filled_from
filled_none at s h = omega (arith, eqb-true at (length s) h)

-- before the end, an array stands and what is behind it is filled
pub filled-turn : (most at : ℕ) (s : List ℕ) → at < length s → filled_from (suc most) at s ≡ (stands_at at s && filled_from most (next_at at s) s)
unfolding filled_from
filled-turn most at s h = rw (ne_eqb at (length s) (λ e. omega arith))

pub arrays-turn : (most at : ℕ) (s : List ℕ) → stands_at at s ≡ true → arrays_from (suc most) at s ≡ arrays_from most (next_at at s) s + 1
unfolding arrays_from
arrays-turn most at s h = rw h

pub arrays-none : (most at : ℕ) (s : List ℕ) → stands_at at s ≡ false → arrays_from most at s ≡ 0
unfolding arrays_from
arrays-none zero at s h = refl
arrays-none (suc most) at s h = rw h

-- at the end none stands
pub end_none : (s : List ℕ) → stands_at (length s) s ≡ false
end_none s = go (stands_at (length s) s) refl
  where
    go : (b : Bool) → stands_at (length s) s ≡ b → b ≡ false
    go true e = absurd (omega (arith, stands-within (length s) s e))
    go false e = refl

pub filled-start : (s : List ℕ) → filled_from (length s) 0 s ≡ filled_from (length s - 0) 0 s
filled-start s = rw sub-zero

pub arrays-start : (s : List ℕ) → 0 + arrays_from (length s - 0) 0 s ≡ arrays_from (length s) 0 s
arrays-start s = rw sub-zero (omega arith)

-- a turn of the loop: a is what stands at `at`, count the arrays passed
module _ (s : List ℕ) (at count : ℕ) (before : count ≤ at) (inside : at < length s) (a : Array) (e : a ≡ found_at at s) where
  fuel : length s - count ≡ suc (length s - (count + 1))
  fuel = omega arith

  pub next_more : a.number ≡ 0 → count + 1 ≤ a.start + a.len
  next_more z = omega (arith, found-next at s a e z)

  pub next-less : a.number ≡ 0 → length s - (a.start + a.len) < length s - at
  next-less z = omega (arith, found-next at s a e z, found_within at s a e z)

  pub filled_more : filled_from (length s) 0 s ≡ filled_from (length s - count) at s → a.number ≡ 0
      → filled_from (length s) 0 s ≡ filled_from (length s - (count + 1)) (a.start + a.len) s
  filled_more q z = q ∙ rw (fuel, filled-turn (length s - (count + 1)) at s inside, found-stands at s a e z, found-next at s a e z)

  pub arrays-more : count + arrays_from (length s - count) at s ≡ arrays_from (length s) 0 s → a.number ≡ 0
      → count + 1 + arrays_from (length s - (count + 1)) (a.start + a.len) s ≡ arrays_from (length s) 0 s
  arrays-more q z =
      let t = arrays-turn (length s - (count + 1)) at s (found-stands at s a e z) in
      let u : arrays_from (length s - count) at s ≡ arrays_from (suc (length s - (count + 1))) at s = rw fuel in
      rw (found-next at s a e z) (omega arith)

  pub count-broken : filled_from (length s) 0 s ≡ filled_from (length s - count) at s → (a.number ≡ 0 → ⊥)
      → ◌≡◌ {A = Counted} (record { number = a.number; count = 0 }) (array_count s)
  unfolding body_number is_run array_by
  count-broken q n =
      let f : filled_from (length s) 0 s ≡ false = q ∙ rw (fuel, filled-turn (length s - (count + 1)) at s inside, found_none at s a e n) in
      let nine : a.number ≡ 9 = ap (λ (x : Array). x.number) e ∙ rw (found_none at s a e n) in
      rw (f, nine)

-- nothing is left
pub count-whole : (s : List ℕ) (at count : ℕ) → at ≤ length s → length s ≤ at → filled_from (length s) 0 s ≡ filled_from (length s - count) at s
    → count + arrays_from (length s - count) at s ≡ arrays_from (length s) 0 s
    → ◌≡◌ {A = Counted} (record { number = 0; count = count }) (array_count s)
unfolding body_number is_run arrays_in
count-whole s at count p q f g =
    let t : at ≡ length s = omega arith in
    let h : filled_from (length s) 0 s ≡ true = f ∙ rw t (filled-end (length s - count) s) in
    let n : arrays_from (length s - count) at s ≡ 0 = rw t (arrays-none (length s - count) (length s) s (end_none s)) in
    let c : count ≡ arrays_from (length s) 0 s = omega arith in
    rw (h, ← c)

-- Passing arrays: what is left to pass decides

pub behind-turn : (k at : ℕ) (s : List ℕ) → stands_at at s ≡ true → behind (suc k) at s ≡ behind k (next_at at s) s
unfolding behind
behind-turn k at s h = rw h

pub behind-stuck : (k at : ℕ) (s : List ℕ) → stands_at at s ≡ false → behind k at s ≡ at
unfolding behind
behind-stuck zero at s h = refl
behind-stuck (suc k) at s h = rw h

pub pass-start : (k : ℕ) (s : List ℕ) → behind k 0 s ≡ behind (k - 0) 0 s
pass-start k s = rw sub-zero

module _ (s : List ℕ) (k passed at : ℕ) (more : passed < k) (a : Array) (e : a ≡ found_at at s) where
  left : k - passed ≡ suc (k - (passed + 1))
  left = omega arith

  pub pass-more : behind k 0 s ≡ behind (k - passed) at s → a.number ≡ 0 → behind k 0 s ≡ behind (k - (passed + 1)) (a.start + a.len) s
  pass-more q z = q ∙ rw (left, behind-turn (k - (passed + 1)) at s (found-stands at s a e z), found-next at s a e z)

  pub pass-stuck : behind k 0 s ≡ behind (k - passed) at s → (a.number ≡ 0 → ⊥) → at ≡ header_of k s
  pass-stuck q n = sym (q ∙ behind-stuck (k - passed) at s (found_none at s a e n))

pub pass-done : (s : List ℕ) (k passed at : ℕ) → k ≤ passed → behind k 0 s ≡ behind (k - passed) at s → at ≡ header_of k s
unfolding behind
pass-done s k passed at h q = let z : k - passed ≡ 0 = omega arith in sym (q ∙ rw z)

-- below their number, an array stands behind the first k
pub stands-behind : (most k at : ℕ) (s : List ℕ) → k < arrays_from most at s → stands_at (behind k at s) s ≡ true
unfolding arrays_from behind
stands-behind zero k at s h = absurd (omega arith)
stands-behind (suc most) zero at s h = go (stands_at at s) h
  where
    go : (b : Bool) → 0 < cond b (arrays_from most (next_at at s) s + 1) 0 → b ≡ true
    go true h = refl
    go false h = absurd (omega arith)
stands-behind (suc most) (suc k) at s h = go (stands_at at s) h (λ p. stands-behind most k (next_at at s) s p)
  where
    go : (b : Bool) → suc k < cond b (arrays_from most (next_at at s) s + 1) 0
        → (k < arrays_from most (next_at at s) s → stands_at (behind k (next_at at s) s) s ≡ true)
        → stands_at (cond b (behind k (next_at at s) s) at) s ≡ true
    go true h next = next (omega arith)
    go false h next = absurd (omega arith)

-- The array with a number, from what judging gave: n is the count that the code tests
module _ (s : List ℕ) (k : ℕ) (n : Counted) (e : n ≡ array_count s) (r : Array) where
  run : n.number ≡ 0 → is_run s ≡ true
  unfolding body_number
  run z = (unless-is (is_run s) 9 0 0 refl (ap (λ (x : Counted). x.number) (sym e) ∙ z)).first

  no_run : (n.number ≡ 0 → ⊥) → is_run s ≡ false
  unfolding body_number
  no_run z = unless-refused (is_run s) 9 (λ q. z (ap (λ (x : Counted). x.number) e ∙ q))

  count-is : n.number ≡ 0 → n.count ≡ arrays_in s
  unfolding body_number
  count-is z = rw (e, run z)

  pub array-broken : (n.number ≡ 0 → ⊥) → r ≡ none n.number → r ≡ array_at k s
  unfolding array_number body_number array_by
  array-broken z q = rw (q, e, no_run z)

  pub array-none : n.number ≡ 0 → n.count ≤ k → r ≡ none 10 → r ≡ array_at k s
  unfolding array_number array_by
  array-none z h q = let t : arrays_in s ≤ k = omega (arith, count-is z) in rw (q, run z, le-ltb k (arrays_in s) t)

  pub array-found : (at : ℕ) → n.number ≡ 0 → k < n.count → at ≡ header_of k s → r ≡ found_at at s → r ≡ array_at k s
  unfolding array_number arrays_in
  array-found at z h p q =
      let t : k < arrays_from (length s) 0 s = omega (arith, count-is z) in
      rw (q, p, stands-behind (length s) k 0 s t, run z, lt-ltb k (arrays_from (length s) 0 s) t)

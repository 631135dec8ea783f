-- Records: within an array's own slice, and in the body.
use Prim.Native.Nat.{ℕ, ◌+◌, ◌*◌, ◌<◌, ◌≤◌}
use mathlib.Core.Bool.{Bool, true, false, cond}
use mathlib.Core.List.{List}
use mathlib.Core.Path.{◌≡◌, refl, sym, ap, ◌∙◌}
use native.Mathlib.Omega.{arith}
use native.Mathlib.Nat.{mul-le-mul_left}
use lib.Dec.{ltb}
use lib.ListN.{length}
use borrow.Author.Tests.{lt-ltb, le-ltb, eq-eqb, ne_eqb, ltb-true}
use Rattle.octets.specs.Order.{unless}
use Rattle.octets.specs.Numbers.{place_by, refused_place}
use Rattle.octets.specs.declared.Place.{Place}
use Rattle.records.specs.Arrays.{size_at, count_at, length_at, stands_at, is_run, arrays_in, header_of, array_number, record_number, array_by, array_at, record_place}
use Rattle.records.specs.Arrays.{in_number, record_in}
use Rattle.records.specs.declared.Array.{Array}
use Rattle.records.proofs.HeaderLaws.{stands-size, stands-within}
use Rattle.octets.proofs.OrderLaws.{unless-is, unless-refused}
use Rattle.records.proofs.RunLaws.{stands-behind}

-- In a slice of so many bytes, from the tests of the code; n is size times number as the code computed it
module _ (bytes size count k : ℕ) where
  pub in-zero : (r : Place) → size ≡ 0 → r ≡ refused_place 10 → r ≡ record_in bytes size count k
  unfolding record_in in_number
  in-zero r z q = rw (q, z)

  module _ (n : ℕ) (some : size ≡ 0 → ⊥) (e : n ≡ size * count) where
    positive : ltb 0 size ≡ true
    positive = lt-ltb 0 size (omega arith)

    pub in-other : (r : Place) → (bytes ≡ n → ⊥) → r ≡ refused_place 10 → r ≡ record_in bytes size count k
    unfolding record_in in_number
    in-other r h q = rw (q, positive, ne_eqb bytes (size * count) (λ p. h (p ∙ sym e)))

    pub in-none : (r : Place) → bytes ≡ n → count ≤ k → r ≡ refused_place 10 → r ≡ record_in bytes size count k
    unfolding record_in in_number
    in-none r h l q = rw (q, positive, eq-eqb bytes (size * count) (h ∙ e), le-ltb k count l)

    pub in-found : (start : ℕ) → bytes ≡ n → k < count → start ≡ size * k
        → ◌≡◌ {A = Place} (record { number = 0; start = start; len = size }) (record_in bytes size count k)
    unfolding record_in in_number
    in-found start h l q = rw (q, positive, eq-eqb bytes (size * count) (h ∙ e), lt-ltb k count l)

-- in an array's own slice only the number decides
pub in-own : (size count k : ℕ) → 0 < size → record_in (size * count) size count k ≡ place_by (unless (ltb k count) 10 0) (size * k) size
unfolding record_in in_number
in-own size count k h = rw (lt-ltb 0 size h, eq-eqb (size * count) (size * count) refl)

-- 9 and 10 of the array come before 10 of the record
module _ (i k : ℕ) (s : List ℕ) where
  pub number-first : (array_number i s ≡ 0 → ⊥) → record_number i k s ≡ array_number i s
  unfolding record_number array_number
  number-first n = go (is_run s) (ltb i (arrays_in s)) _ n
    where
      go : (a b : Bool) (z : ℕ) → (◌≡◌ {A = ℕ} (cond a (cond b 0 10) 9) 0 → ⊥) → cond a (cond b z 10) 9 ≡ cond a (cond b 0 10) 9
      go true true z n = absurd (n refl)
      go true false z n = refl
      go false b z n = refl

-- an array that is there stands behind those before it
module _ (i : ℕ) (s : List ℕ) (z : array_number i s ≡ 0) where
  pub there-run : is_run s ≡ true
  unfolding array_number
  there-run = (unless-is (is_run s) 9 (unless (ltb i (arrays_in s)) 10 0) 0 refl z).first

  pub there-below : i < arrays_in s
  unfolding array_number
  there-below =
      ltb-true i (arrays_in s) (unless-is (ltb i (arrays_in s)) 10 0 0 refl (unless-is (is_run s) 9 (unless (ltb i (arrays_in s)) 10 0) 0 refl z).rest).first

  pub there-stands : stands_at (header_of i s) s ≡ true
  unfolding arrays_in
  there-stands = stands-behind (length s) i 0 s there-below

  pub number-then : (k : ℕ) → record_number i k s ≡ unless (ltb k (count_at (header_of i s) s)) 10 0
  unfolding record_number
  number-then k = rw (there-run, lt-ltb i (arrays_in s) there-below)

-- A record in the body, from what the two calls gave
module _ (i k : ℕ) (s : List ℕ) (a : Array) (e : a ≡ array_at i s) where
  number_is : a.number ≡ array_number i s
  unfolding array_by
  number_is = ap (λ (x : Array). x.number) e

  pub place-refused : (r : Place) → (a.number ≡ 0 → ⊥) → r ≡ refused_place a.number → r ≡ record_place i k s
  unfolding record_place
  place-refused r n q =
      let f : record_number i k s ≡ a.number = number-first i k s (λ z. n (number_is ∙ z)) ∙ sym number_is in
      rw (q, f, ne_eqb a.number 0 n)

  module _ (p : Place) (z : a.number ≡ 0) (q : p ≡ record_in a.len a.size a.count k) where
    there : array_number i s ≡ 0
    there = sym number_is ∙ z

    stands : stands_at (header_of i s) s ≡ true
    stands = there-stands i s there

    inside : p ≡ place_by (unless (ltb k (count_at (header_of i s) s)) 10 0) (size_at (header_of i s) s * k) (size_at (header_of i s) s)
    unfolding array_by
    inside = q ∙ rw (e, there) (in-own (size_at (header_of i s) s) (count_at (header_of i s) s) k (stands-size (header_of i s) s stands))

    inside-number : p.number ≡ unless (ltb k (count_at (header_of i s) s)) 10 0
    inside-number = ap (λ (x : Place). x.number) inside

    pub place_none : (r : Place) → (p.number ≡ 0 → ⊥) → r ≡ refused_place p.number → r ≡ record_place i k s
    unfolding record_place
    place_none r n f = rw (f, inside-number, number-then i s there k, unless-refused (ltb k (count_at (header_of i s) s)) 10 (λ h. n (inside-number ∙ h)))

    held : p.number ≡ 0 → ltb k (count_at (header_of i s) s) ≡ true
    held h = (unless-is (ltb k (count_at (header_of i s) s)) 10 0 0 refl (sym inside-number ∙ h)).first

    pub place_found : p.number ≡ 0 → ◌≡◌ {A = Place} (record { number = 0; start = a.start + p.start; len = p.len }) (record_place i k s)
    unfolding record_place array_by
    place_found h = rw (number-then i s there k, inside, e, there, held h)

    pub place-within : p.number ≡ 0 → a.start + p.start ≤ length s
    unfolding array_by
    place-within h =
        let l : k < count_at (header_of i s) s = ltb-true _ _ (held h) in
        let m : size_at (header_of i s) s * k ≤ length_at (header_of i s) s = mul-le-mul_left (size_at (header_of i s) s) (omega arith) in
        rw (inside, e, there, held h) (omega (arith, stands-within (header_of i s) s stands))

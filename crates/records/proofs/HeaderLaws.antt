-- One array: its header as the code reads it, and what is known where one stands.
use Prim.Native.Nat.{ℕ, ◌+◌, ◌-◌, ◌*◌, ◌<◌, ◌≤◌}
use mathlib.Core.Bool.{true, false}
use mathlib.Core.List.{List, [], ◌∷◌}
use mathlib.Core.Path.{◌≡◌, refl, sym, ap, ◌∙◌}
use native.Mathlib.Omega.{arith}
use native.Mathlib.Nat.{mul-le-mul}
use lib.Dec.{ltb}
use lib.ListN.{length, get_or}
use borrow.Author.Tests.{lt-ltb, le-ltb, le-leb, lt-leb, ltb-true, leb-true}
use Rattle.octets.specs.Order.{unless}
use Rattle.fields.specs.BigEndian.{number_of}
use Rattle.octets.proofs.Tests.{and_left, and_right, and_both, and-false}
use Rattle.octets.proofs.OrderLaws.{unless-is, unless-refused}
use Rattle.fields.proofs.NumberLaws.{read-two}
use Rattle.records.specs.Arrays.{size_at, count_at, length_at, next_at, stands_at, array_by, found_at}
use Rattle.records.specs.declared.Array.{Array}

-- size times number fits: both have 16 bits
pub product-fits : (a b : ℕ) → a < 65536 → b < 65536 → a * b ≤ 65535 * 65535
product-fits a b p q = mul-le-mul {n₂ = 65535} {m₂ = 65535} (omega arith) (omega arith)

-- no array, for this reason
abbrev pub none : ℕ → Array
none number = record { number = number; kind = 0; size = 0; count = 0; start = 0; len = 0 }

module _ (at : ℕ) (s : List ℕ) where
  -- where an array stands
  pub stands-size : stands_at at s ≡ true → 0 < size_at at s
  unfolding stands_at
  stands-size h = ltb-true 0 (size_at at s) (and_left (ltb 0 (size_at at s)) _ h)

  pub stands-within : stands_at at s ≡ true → next_at at s ≤ length s
  unfolding stands_at
  stands-within h = leb-true _ _ (and_right (ltb 0 (size_at at s)) _ h)

  pub stands : 0 < size_at at s → next_at at s ≤ length s → stands_at at s ≡ true
  unfolding stands_at
  stands p q = and_both _ _ (lt-ltb _ _ p) (le-leb _ _ q)

  no_size : size_at at s ≡ 0 → stands_at at s ≡ false
  unfolding stands_at
  no_size e = let h : size_at at s ≤ 0 = omega arith in rw (le-ltb 0 (size_at at s) h)

  no_room : length s < next_at at s → stands_at at s ≡ false
  unfolding stands_at
  no_room h = and-false (ltb 0 (size_at at s)) _ (lt-leb _ _ h)

  -- the two fields, read byte by byte
  size-read : (r : ℕ) → at ≤ length s → 5 ≤ length s - at → r ≡ number_of (get_or s (at + 1) 0 ∷ get_or s (at + 2) 0 ∷ []) → r ≡ size_at at s
  size-read r a h e = let t : at + 1 + 1 ≡ at + 2 = omega arith in read-two (at + 1) s r 2 (omega arith) (omega arith) refl (rw t e)

  count-read : (r : ℕ) → at ≤ length s → 5 ≤ length s - at → r ≡ number_of (get_or s (at + 3) 0 ∷ get_or s (at + 4) 0 ∷ []) → r ≡ count_at at s
  count-read r a h e = let t : at + 3 + 1 ≡ at + 4 = omega arith in read-two (at + 3) s r 2 (omega arith) (omega arith) refl (rw t e)

  found-refused : (r : Array) → stands_at at s ≡ false → r ≡ none 9 → r ≡ found_at at s
  unfolding array_by
  found-refused r f e = rw (e, f)

  -- the returns of the code: too short for a header, size zero, too short for the records, an array
  module _ (a : at ≤ length s) where
    pub found-short : (r : Array) → length s - at < 5 → r ≡ none 9 → r ≡ found_at at s
    found-short r h e = found-refused r (no_room (omega arith)) e

    module _ (size count : ℕ) (h : 5 ≤ length s - at) (p : size ≡ number_of (get_or s (at + 1) 0 ∷ get_or s (at + 2) 0 ∷ [])) where
      pub found-zero : (r : Array) → size ≡ 0 → r ≡ none 9 → r ≡ found_at at s
      found-zero r z e = found-refused r (no_size (sym (size-read size a h p) ∙ z)) e

      module _ (q : count ≡ number_of (get_or s (at + 3) 0 ∷ get_or s (at + 4) 0 ∷ [])) (len : ℕ) (l : len ≡ size * count) where
        long : len ≡ length_at at s
        long = rw (← size-read size a h p, ← count-read count a h q) l

        pub found-long : (r : Array) → length s - at - 5 < len → r ≡ none 9 → r ≡ found_at at s
        found-long r t e = found-refused r (no_room (omega (arith, long))) e

        pub found-whole : (size ≡ 0 → ⊥) → len ≤ length s - at - 5
            → ◌≡◌ {A = Array} (record { number = 0; kind = get_or s at 0; size = size; count = count; start = at + 5; len = len }) (found_at at s)
        unfolding array_by
        found-whole z t =
            let e = size-read size a h p in
            let f = count-read count a h q in
            let g = long in
            rw (stands (omega arith) (omega arith)) (cc)

  -- what the caller learns from what the code gave
  module _ (a : Array) (e : a ≡ found_at at s) where
    number_is : a.number ≡ unless (stands_at at s) 9 0
    unfolding array_by
    number_is = ap (λ (x : Array). x.number) e

    pub found-stands : a.number ≡ 0 → stands_at at s ≡ true
    found-stands z = (unless-is (stands_at at s) 9 0 0 refl (sym number_is ∙ z)).first

    pub found_none : (a.number ≡ 0 → ⊥) → stands_at at s ≡ false
    found_none n = unless-refused (stands_at at s) 9 (λ q. n (number_is ∙ q))

    pub found-next : a.number ≡ 0 → a.start + a.len ≡ next_at at s
    unfolding array_by
    found-next z = rw (e, found-stands z)

    pub found_within : a.number ≡ 0 → a.start + a.len ≤ length s
    found_within z = omega (arith, found-next z, stands-within (found-stands z))

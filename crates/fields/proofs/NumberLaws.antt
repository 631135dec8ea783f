-- Big-endian numbers: reading gives back what was written, over every width; and the fields of two and four bytes.
use Prim.Native.Nat.{ℕ, zero, suc, ◌+◌, ◌-◌, ◌*◌, ◌/◌, ◌%◌, ◌^◌, ◌<◌, ◌≤◌}
use mathlib.Core.Bool.{Bool, true, false, cond, ◌&&◌}
use mathlib.Core.List.{List, [], ◌∷◌, ◌++◌}
use mathlib.Core.Path.{◌≡◌, refl, sym, ap, ◌∙◌}
use native.Mathlib.Omega.{arith}
use native.Mathlib.Numerals.{add-one}
use native.Mathlib.Nat as nat
use lib.ListN.{length, get_or, take, drop, length-append, length-drop}
use lib.Seq.{take-suc, drop-cons, get_or-drop}
use lib.Dec.{leb}
use borrow.Author.Tests.{le-leb, lt-leb, ne_eqb, leb-true}
use Rattle.octets.specs.Buffer.{Bytes, part_at, put}
use Rattle.fields.specs.BigEndian.{number_from, number_of, bytes_of, field_width, field_fits, number_at, with_number}
use borrow.Rule.Slice.PartMut.{put_mid}
use Rattle.std.proofs.Common.{append_assoc, drop-drop}
use Rattle.std.specs.Int.{w16, w32, to_be_bytes}

-- one byte more at the end
pub number-snoc : (a : ℕ) (s : List ℕ) (x : ℕ) → number_from a (s ++ (x ∷ [])) ≡ number_from a s * 256 + x
number-snoc a [] x = refl
number-snoc a (y ∷ s) x = number-snoc (a * 256 + y) s x

pub length-bytes : (width n : ℕ) → length (bytes_of width n) ≡ width
length-bytes zero n = refl
length-bytes (suc width) n = length-append (bytes_of width (n / 256)) (n % 256 ∷ []) ∙ (omega (arith, length-bytes width (n / 256)))

-- a number that fits its field is read back
pub number-of-bytes : (width n : ℕ) → n < 256 ^ width → number_of (bytes_of width n) ≡ n
number-of-bytes zero n h = omega arith
number-of-bytes (suc width) n h =
    number-snoc 0 (bytes_of width (n / 256)) (n % 256) ∙ omega (arith, number-of-bytes width (n / 256) (omega arith))

-- bytes are what their number is written as
pub bytes-of-number : (a : ℕ) (s : List ℕ) → Bytes s → (width : ℕ) → width ≤ length s → bytes_of width (number_from a (take width s)) ≡ take width s
bytes-of-number a s b zero h = refl
bytes-of-number a s b (suc width) h =
    let x : ℕ = get_or s width 0 in
    let n : ℕ = number_from a (take width s) in
    let t : x < 256 = b width in
    let q : (n * 256 + x) / 256 ≡ n = omega arith in
    let r : (n * 256 + x) % 256 ≡ x = omega arith in
    rw (take-suc s width 0 (omega arith), number-snoc a (take width s) x, q, r, bytes-of-number a s b width (omega arith))

-- Numbers in bytes fit their fields

below-bytes : (s : List ℕ) → Bytes s → (width : ℕ) → width ≤ length s → number_of (take width s) < 256 ^ width
below-bytes s b zero h = omega arith
below-bytes s b (suc width) h =
    rw (take-suc s width 0 (omega arith), number-snoc 0 (take width s) (get_or s width 0)) (omega (arith, below-bytes s b width (omega arith), b width))

some-power : (width : ℕ) → 0 < 256 ^ width
some-power zero = omega arith
some-power (suc width) = omega (arith, some-power width)

pub number_fits : (width at : ℕ) (s : List ℕ) → Bytes s → number_at width at s < 256 ^ width
unfolding number_at
number_fits width at s b = go (leb (at + width) (length s)) refl (field_width width)
  where
    go : (t : Bool) → leb (at + width) (length s) ≡ t → (w : Bool) → cond (w && t) (number_of (part_at at width s)) 0 < 256 ^ width
    go true e true =
        below-bytes (drop at s) (λ i. rw get_or-drop (b (at + i))) width (simp length-drop (let l : at + width ≤ length s = leb-true _ _ e in omega arith))
    go true e false = some-power width
    go false e true = some-power width
    go false e false = some-power width

-- Fields

-- the bytes that the library's method gives
pub be-two : (n : ℕ) → to_be_bytes w16 n ≡ bytes_of 2 n
be-two n = refl

pub be-four : (n : ℕ) → to_be_bytes w32 n ≡ bytes_of 4 n
be-four n = rw (nat.div-div-eq-div-mul n 256 256, nat.div-div-eq-div-mul n 65536 256) refl

module _ (at : ℕ) (s : List ℕ) where
  part-two : at + 2 ≤ length s → part_at at 2 s ≡ get_or s at 0 ∷ get_or s (at + 1) 0 ∷ []
  part-two h = rw (drop-cons s at 0 (omega arith), drop-cons s (suc at) 0 (omega arith), add-one)

  part-four : at + 4 ≤ length s → part_at at 4 s ≡ get_or s at 0 ∷ get_or s (at + 1) 0 ∷ get_or s (at + 2) 0 ∷ get_or s (at + 3) 0 ∷ []
  part-four h =
      let two : at + 2 ≡ suc (suc at) = omega arith in
      let three : at + 3 ≡ suc (suc (suc at)) = omega arith in
      rw (
        drop-cons s at 0 (omega arith),
        drop-cons s (suc at) 0 (omega arith),
        drop-cons s (suc (suc at)) 0 (omega arith),
        drop-cons s (suc (suc (suc at))) 0 (omega arith),
        add-one,
        two,
        three,
      )

  pub read-two : (r width : ℕ) → at ≤ length s → width ≤ length s - at → width ≡ 2 → r ≡ number_of (get_or s at 0 ∷ get_or s (at + 1) 0 ∷ [])
      → r ≡ number_at width at s
  unfolding number_at
  read-two r width a h w e =
      rw (w, le-leb (at + 2) (length s) (omega arith), part-two (omega arith)) e

  pub read-four : (r width : ℕ) → at ≤ length s → width ≤ length s - at → width ≡ 4
      → r ≡ number_of (get_or s at 0 ∷ get_or s (at + 1) 0 ∷ get_or s (at + 2) 0 ∷ get_or s (at + 3) 0 ∷ []) → r ≡ number_at width at s
  unfolding number_at
  read-four r width a h w e =
      rw (w, le-leb (at + 4) (length s) (omega arith), part-four (omega arith)) e

  no_field : (width : ℕ) → length s < at + width → field_fits width at s ≡ false
  no_field width h = go (field_width width) refl
    where
      go : (b : Bool) → field_width width ≡ b → field_fits width at s ≡ false
      go true e = rw (e, lt-leb (at + width) (length s) h)
      go false e = rw e

  no-width : (width : ℕ) → (width ≡ 2 → ⊥) → (width ≡ 4 → ⊥) → field_fits width at s ≡ false
  no-width width p q = rw (ne_eqb width 2 p, ne_eqb width 4 q)

  pub read-start : (width : ℕ) → length s < at → 0 ≡ number_at width at s
  unfolding number_at
  read-start width h = rw (no_field width (omega arith))

  pub read-end : (width : ℕ) → at ≤ length s → length s - at < width → 0 ≡ number_at width at s
  unfolding number_at
  read-end width a h = rw (no_field width (omega arith))

  pub read-other : (width : ℕ) → (width ≡ 2 → ⊥) → (width ≡ 4 → ⊥) → 0 ≡ number_at width at s
  unfolding number_at
  read-other width p q = rw (no-width width p q)

  pub write-start : (width n : ℕ) → length s < at → s ≡ with_number width at n s
  unfolding with_number
  write-start width n h = rw (no_field width (omega arith))

  pub write-end : (width n : ℕ) → at ≤ length s → length s - at < width → s ≡ with_number width at n s
  unfolding with_number
  write-end width n a h = rw (no_field width (omega arith))

  pub write-other : (width n : ℕ) → (width ≡ 2 → ⊥) → (width ≡ 4 → ⊥) → s ≡ with_number width at n s
  unfolding with_number
  write-other width n p q = rw (no-width width p q)

  -- a field of one of the two widths that has its place
  pub write-field : (w width n : ℕ) (o : List ℕ) → at ≤ length s → width ≤ length s - at → width ≡ w → field_width w ≡ true → o ≡ put at (bytes_of w n) s
      → o ≡ with_number width at n s
  unfolding with_number
  write-field w width n o a h e f q =
      rw (e, f, le-leb (at + w) (length s) (omega arith)) q

  -- the bytes of a field copied to its place
  copied-field : (width n : ℕ) (bytes : List ℕ) → bytes ≡ bytes_of width n → put_mid at (at + width - at) s bytes ≡ put at (bytes_of width n) s
  unfolding put
  copied-field width n bytes e =
      let k : at + width - at ≡ width = omega arith in
      rw (e, k)
      (ap (λ (t : List ℕ). take at s ++ (bytes_of width n ++ t))
      (drop-drop width at s ∙ ap (λ (m : ℕ). drop (at + m) s) (sym (length-bytes width n)))
      ∙ sym (append_assoc (take at s) (bytes_of width n) _))

  pub copied-two : (n : ℕ) (bytes : List ℕ) → bytes ≡ to_be_bytes w16 n → put_mid at (at + 2 - at) s bytes ≡ put at (bytes_of 2 n) s
  copied-two n bytes e = copied-field 2 n bytes (e ∙ be-two n)

  pub copied-four : (n : ℕ) (bytes : List ℕ) → bytes ≡ to_be_bytes w32 n → put_mid at (at + 4 - at) s bytes ≡ put at (bytes_of 4 n) s
  copied-four n bytes e = copied-field 4 n bytes (e ∙ be-four n)

-- A body that is judged 0, written back from what is read.
use Prim.Native.Nat.{ℕ, zero, suc, ◌+◌, ◌*◌, ◌<◌, ◌≤◌}
use mathlib.Core.Bool.{true, ◌&&◌}
use mathlib.Core.List.{List, [], ◌∷◌, ◌++◌}
use mathlib.Core.Path.{◌≡◌, refl, sym, ap, ap₂, ◌∙◌}
use native.Mathlib.Omega.{arith}
use native.Mathlib.Nat.{mul-suc, mul-zero, add_comm, mul-le-mul_left}
use native.Mathlib.Numerals.{add-one}
use native.Mathlib.Decide.{dec_lt}
use lib.ListN.{length, get_or, take, drop, length-drop, take-append-drop, drop_of_length-le}
use lib.Seq.{take-add, drop-drop, drop-cons, get_or-drop}
use borrow.Author.Tests.{lt-ltb}
use Rattle.octets.specs.Buffer.{part_at, Bytes}
use Rattle.fields.specs.BigEndian.{number_of, number_at, bytes_of}
use Rattle.octets.specs.Values.{up_to}
use Rattle.octets.proofs.ValueLaws.{same-values, length-values, value-at}
use Rattle.octets.proofs.Tests.{and_left, and_right}
use Rattle.octets.proofs.BufferLaws.{length_part}
use Rattle.fields.proofs.NumberLaws.{read-two, bytes-of-number}
use Rattle.records.specs.Arrays.{kind_at, size_at, count_at, length_at, next_at, stands_at, filled_from, arrays_from, behind, header_of, array_number, array_by}
use Rattle.records.specs.Arrays.{record_place, record_of}
use Rattle.records.specs.Written.{RecordArray, Sound, joined, written_array, written, array_read}
use Rattle.records.proofs.HeaderLaws.{stands-size, stands-within}
use Rattle.records.proofs.RunLaws.{filled_none, filled-turn, arrays-turn, arrays-none, end_none, behind-turn}
use Rattle.records.proofs.RecordLaws.{number-then}
use Rattle.records.proofs.WrittenLaws.{number-field}

-- bytes cut into records and joined again
pub cut-joined : (size count : ℕ) (d : List ℕ) → joined (up_to count (λ k. part_at (size * k) size d)) ≡ take (size * count) d
unfolding joined up_to
cut-joined size zero d = rw mul-zero
cut-joined size (suc count) d =
    let t : size * suc count ≡ size + size * count = mul-suc size count ∙ add_comm (size * count) size in
    let same : (k : ℕ) → k < count → part_at (size * suc k) size d ≡ part_at (size * k) size (drop size d) =
    λ k h. rw (mul-suc size k ∙ add_comm (size * k) size, drop-drop (size * k) size d) in
    rw (
      mul-zero,
      t,
      take-add size (size * count) d,
      same-values count (λ k. part_at (size * suc k) size d) (λ k. part_at (size * k) size (drop size d)) same,
      cut-joined size count (drop size d),
    )

-- The array that stands at a place

abbrev pub records_here : ℕ → List ℕ → List (List ℕ)
records_here at s = up_to (count_at at s) (λ k. part_at (at + 5 + size_at at s * k) (size_at at s) s)

abbrev pub array_here : ℕ → List ℕ → RecordArray
array_here at s = record { kind = kind_at at s; size = size_at at s; records = records_here at s }

module _ (at : ℕ) (s : List ℕ) (bytes : Bytes s) (stands : stands_at at s ≡ true) where
  within : next_at at s ≤ length s
  within = stands-within at s stands

  -- a field of two bytes is what its number is written as
  field-written : (i : ℕ) → i + 2 ≤ length s → drop i s ≡ bytes_of 2 (number_at 2 i s) ++ drop (i + 2) s
  field-written i h =
      let b : (j : ℕ) → get_or (drop i s) j 0 < 256 = λ j. rw get_or-drop (bytes (i + j)) in
      let e : bytes_of 2 (number_at 2 i s) ≡ part_at i 2 s = rw (number-field i s h) (bytes-of-number 0 (drop i s) b 2 (rw length-drop (omega arith))) in
      sym (take-append-drop 2 (drop i s)) ∙ ap₂ (λ (x y : List ℕ). x ++ y) (sym e) (drop-drop 2 i s)

  field-small : (i : ℕ) → i + 2 ≤ length s → number_at 2 i s < 65536
  field-small i h =
      let e = read-two i s (number_of (get_or s i 0 ∷ get_or s (i + 1) 0 ∷ [])) 2 (omega arith) (omega arith) refl refl in
      omega (arith, e, bytes i, bytes (i + 1))

  many : length (records_here at s) ≡ count_at at s
  many = length-values (count_at at s) (λ k. part_at (at + 5 + size_at at s * k) (size_at at s) s)

  records-joined : joined (records_here at s) ≡ part_at (at + 5) (length_at at s) s
  records-joined =
      ap joined (same-values (count_at at s) (λ k. part_at (at + 5 + size_at at s * k) (size_at at s) s)
      (λ k. part_at (size_at at s * k) (size_at at s) (drop (at + 5) s)) (λ k h. rw drop-drop))
      ∙ cut-joined (size_at at s) (count_at at s) (drop (at + 5) s)

  -- header and records, written, are the bytes there
  pub here-written : written_array (array_here at s) ++ drop (next_at at s) s ≡ drop at s
  unfolding written_array
  here-written =
      let w = within in
      let three : at + 1 + 2 ≡ at + 3 = omega arith in
      let five : at + 3 + 2 ≡ at + 5 = omega arith in
      let e₁ : drop at s ≡ kind_at at s ∷ drop (at + 1) s = rw add-one (drop-cons s at 0 (omega arith)) in
      let e₂ : drop (at + 1) s ≡ bytes_of 2 (size_at at s) ++ drop (at + 3) s = rw three at (field-written (at + 1) (omega arith)) in
      let e₃ : drop (at + 3) s ≡ bytes_of 2 (count_at at s) ++ drop (at + 5) s = rw five at (field-written (at + 3) (omega arith)) in
      let e₄ : drop (at + 5) s ≡ joined (records_here at s) ++ drop (next_at at s) s =
      sym (take-append-drop (length_at at s) (drop (at + 5) s)) ∙ ap₂ (λ (x y : List ℕ). x ++ y) (sym records-joined) (drop-drop (length_at at s) (at + 5) s) in
      sym
      (e₁
      ∙ ap (λ (x : List ℕ). kind_at at s ∷ x)
      (e₂ ∙ ap (λ (x : List ℕ). bytes_of 2 (size_at at s) ++ x) (e₃ ∙ ap₂ (λ (n : ℕ) (x : List ℕ). bytes_of 2 n ++ x) (sym many) e₄)))

  pub here-sound : Sound (array_here at s)
  here-sound =
      let w = within in
      record {
        some = stands-size at s stands;
        size = field-small (at + 1) (omega arith);
        count = rw many (field-small (at + 3) (omega arith));
        each = λ k h.
            let l : k < count_at at s = omega (arith, many) in
            let m : size_at at s * suc k ≤ length_at at s = mul-le-mul_left (size_at at s) l in
            rw (value-at (count_at at s) (λ j. part_at (at + 5 + size_at at s * j) (size_at at s) s) k [] l)
            (length_part s (at + 5 + size_at at s * k) (size_at at s) (omega (arith, mul-suc (size_at at s) k)));
      }

-- the arrays from a place on
abbrev pub arrays_here : ℕ → ℕ → List ℕ → List RecordArray
arrays_here n at s = up_to n (λ i. array_here (behind i at s) s)

-- at the end there are none
none_read : (most at : ℕ) (s : List ℕ) → at ≤ length s → length s ≤ at → written (arrays_here (arrays_from most at s) at s) ≡ drop at s
unfolding written up_to
none_read most at s h l =
    let t : at ≡ length s = omega arith in
    let z : arrays_from most at s ≡ 0 = rw t (arrays-none most (length s) s (end_none s)) in
    rw z (sym (drop_of_length-le s l))

-- where one stands, it and those behind it
some_read : (n at : ℕ) (s : List ℕ) → Bytes s → stands_at at s ≡ true → written (arrays_here n (next_at at s) s) ≡ drop (next_at at s) s
    → written (arrays_here (suc n) at s) ≡ drop at s
unfolding written up_to behind
some_read n at s bytes t e =
    let same : (i : ℕ) → i < n → array_here (behind (suc i) at s) s ≡ array_here (behind i (next_at at s) s) s = λ i h. rw (behind-turn i at s t) in
    rw (same-values n (λ i. array_here (behind (suc i) at s) s) (λ i. array_here (behind i (next_at at s) s) s) same, e) (here-written at s bytes t)

-- written one behind the other they are the bytes from there on
pub filled-read : (most at : ℕ) (s : List ℕ) → Bytes s → at ≤ length s → filled_from most at s ≡ true
    → written (arrays_here (arrays_from most at s) at s) ≡ drop at s
filled-read zero at s bytes h f = none_read zero at s h (filled_none at s f)
filled-read (suc most) at s bytes h f =
    elim (dec_lt at (length s)) as (λ _. written (arrays_here (arrays_from (suc most) at s) at s) ≡ drop at s) [
      | yes l ↦
          let both : (stands_at at s && filled_from most (next_at at s) s) ≡ true = sym (filled-turn most at s l) ∙ f in
          let t = and_left (stands_at at s) _ both in
          let rest = filled-read most (next_at at s) s bytes (stands-within at s t) (and_right (stands_at at s) _ both) in
          let n : arrays_from (suc most) at s ≡ suc (arrays_from most (next_at at s) s) = arrays-turn most at s t ∙ add-one _ in
          rw n (some_read (arrays_from most (next_at at s) s) at s bytes t rest)
      | no l ↦ none_read (suc most) at s h (omega arith)
    ]

-- The calls read just these

abbrev pub array_of : ℕ → ℕ → List (List ℕ) → RecordArray
array_of kind size records = record { kind = kind; size = size; records = records }

module _ (i : ℕ) (s : List ℕ) (there : array_number i s ≡ 0) where
  pub record-there : (k : ℕ) → k < count_at (header_of i s) s
      → record_of i k s ≡ part_at (header_of i s + 5 + size_at (header_of i s) s * k) (size_at (header_of i s) s) s
  unfolding record_of record_place
  record-there k h = rw (number-then i s there k, lt-ltb k (count_at (header_of i s) s) h)

  pub array-there : array_read i s ≡ array_here (header_of i s) s
  unfolding array_read array_by
  array-there =
      let at : ℕ = header_of i s in
      rw there
      (ap (λ (x : List (List ℕ)). array_of (kind_at at s) (size_at at s) x)
      (same-values (count_at at s) (λ k. record_of i k s) (λ k. part_at (at + 5 + size_at at s * k) (size_at at s) s) (λ k h. record-there k h)))

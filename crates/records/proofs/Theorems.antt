-- What holds of every body: a written list of arrays is read back, a body that is judged 0 is the writing of what is read from it,
-- and 9 is given exactly where there is no such list.
use Prim.Native.Nat.{ℕ, suc, ◌+◌, ◌*◌, ◌<◌, ◌≤◌}
use mathlib.Core.Bool.{Bool, true, false}
use mathlib.Core.List.{List, [], ◌++◌}
use mathlib.Core.Logic.{◌↔◌}
use mathlib.Core.Path.{◌≡◌, refl, sym, ap, ◌∙◌}
use native.Mathlib.Omega.{arith}
use native.Mathlib.Nat.{mul-suc, mul-le-mul_left}
use lib.Dec.{ltb}
use lib.ListN.{length, get_or, take, drop, length-drop, take-append-drop}
use lib.Seq.{take_at, drop-drop, take-append-le, drop-append-le}
use borrow.Author.Tests.{lt-ltb, ltb-true}
use Rattle.octets.specs.Order.{unless}
use Rattle.octets.specs.Numbers.{place_by}
use Rattle.octets.specs.Buffer.{part_at, Bytes}
use Rattle.octets.specs.declared.Place.{Place}
use Rattle.octets.specs.declared.Counted.{Counted}
use Rattle.octets.proofs.BufferLaws.{length_part}
use Rattle.records.specs.Arrays.{size_at, count_at, length_at, stands_at, filled_from, is_run, arrays_from, arrays_in, behind, header_of, body_number, array_number}
use Rattle.records.specs.Arrays.{array_by, array_count, array_at, record_place, array_records, record_of, record_in}
use Rattle.records.specs.Written.{RecordArray, no_records, AllSound, joined, written_array, written, array_read, arrays_read}
use Rattle.records.proofs.HeaderLaws.{stands-size, stands-within}
use Rattle.octets.proofs.OrderLaws.{unless-is, unless-refused}
use Rattle.records.proofs.RecordLaws.{in-own, there-stands, number-then}
use Rattle.records.proofs.WrittenLaws.{joined-record, length-list, filled-written, behind-written, kind-here, size-here, count-here, length-here}
use Rattle.records.proofs.WrittenLaws.{records-part}
use Rattle.octets.proofs.ValueLaws.{same-values, length-values, value-at, values_of}
use Rattle.records.proofs.ReadLaws.{array_of, array_here, arrays_here, here-sound, filled-read, record-there, array-there}

-- A list of arrays, written, is a body: its count, its arrays and their records are read back
module _ (l : List RecordArray) (sound : AllSound l) where
  judged : (filled_from (length (written l)) 0 (written l) ≡ true) × (arrays_from (length (written l)) 0 (written l) ≡ length l)
  judged = filled-written l (length (written l)) 0 (written l) sound (length-list l) (omega arith) refl

  run : is_run (written l) ≡ true
  unfolding is_run
  run = judged.0

  many : arrays_in (written l) ≡ length l
  unfolding arrays_in
  many = judged.1

  pub written_count : array_count (written l) ≡ record { number = 0; count = length l }
  unfolding body_number
  written_count = rw (run, many)

  module _ (i : ℕ) (below : i < length l) where
    there : array_number i (written l) ≡ 0
    unfolding array_number
    there = rw (run, many, lt-ltb i (length l) below)

    place-there : (drop (header_of i (written l)) (written l) ≡ written_array (get_or l i no_records) ++ written (drop (suc i) l)) ×
        (header_of i (written l) ≡ 0 + length (written (take i l)))
    place-there = behind-written l i 0 (written l) sound below refl

    header : header_of i (written l) ≡ length (written (take i l))
    header = omega (arith, place-there.1)

    -- array i has its type, size and number of records, behind the arrays before it
    pub written-array :
        array_at i (written l)
        ≡ record {
          number = 0;
          kind = (get_or l i no_records).kind;
          size = (get_or l i no_records).size;
          count = length (get_or l i no_records).records;
          start = length (written (take i l)) + 5;
          len = length (joined (get_or l i no_records).records);
        }
    unfolding array_by
    written-array =
        let at : ℕ = header_of i (written l) in
        let a : RecordArray = get_or l i no_records in
        let h = place-there.0 in
        let rest : List ℕ = written (drop (suc i) l) in
        rw (
          there,
          kind-here at (written l) a rest (sound i below) h,
          length-here at (written l) a rest (sound i below) h,
          size-here at (written l) a rest (sound i below) h,
          count-here at (written l) a rest (sound i below) h,
          header,
        )

    -- its part of the body is its records, one behind the other
    pub written-records : array_records i (written l) ≡ joined (get_or l i no_records).records
    unfolding array_records
    written-records =
        rw (
          written-array,
          ← header,
          records-part (header_of i (written l)) (written l) (get_or l i no_records) (written (drop (suc i) l))
              (sound i below) place-there.0,
        )
        (take_at (joined (get_or l i no_records).records) _ _ refl)

    -- record (i, k) is there, and is that record
    module _ (k : ℕ) (inside : k < length (get_or l i no_records).records) where
      listed : k < count_at (header_of i (written l)) (written l)
      listed = omega (arith, count-here (header_of i (written l)) (written l) (get_or l i no_records) (written (drop (suc i) l)) (sound i below) place-there.0)

      pub written-number : (record_place i k (written l)).number ≡ 0
      unfolding record_place
      written-number = rw (number-then i (written l) there k, lt-ltb k (count_at (header_of i (written l)) (written l)) listed)

      pub written-record : record_of i k (written l) ≡ get_or (get_or l i no_records).records k []
      written-record =
          let at : ℕ = header_of i (written l) in
          let a : RecordArray = get_or l i no_records in
          let rest : List ℕ = written (drop (suc i) l) in
          record-there i (written l) there k listed
          ∙ rw (
            size-here at (written l) a rest (sound i below) place-there.0,
            ← drop-drop (a.size * k) (at + 5) (written l),
            records-part at (written l) a rest (sound i below) place-there.0,
          )
          (joined-record a.size a.records rest (sound i below).each k inside)

  array_back : (i : ℕ) → i < length l → array_read i (written l) ≡ get_or l i no_records
  unfolding array_read
  array_back i below =
      let a : RecordArray = get_or l i no_records in
      rw (written-array i below)
      (ap (λ (x : List (List ℕ)). array_of a.kind a.size x)
      (same-values (length a.records) (λ k. record_of i k (written l)) (λ k. get_or a.records k []) (λ k h. written-record i below k h)
      ∙ values_of a.records []))

  -- so the whole list is read back
  pub read-written : arrays_read (written l) ≡ l
  unfolding arrays_read body_number
  read-written =
      rw (run, many)
      (same-values (length l) (λ i. array_read i (written l)) (λ i. get_or l i no_records) array_back ∙ values_of l no_records)

-- "An empty body has none"
pub empty-body : array_count [] ≡ record { number = 0; count = 0 }
unfolding written
empty-body = written_count [] (λ i h. absurd (omega arith))

-- a body is read in one way: two lists with the same writing are equal
pub one-reading : (l m : List RecordArray) → AllSound l → AllSound m → written l ≡ written m → l ≡ m
one-reading l m sl sm e = sym (read-written l sl) ∙ ap arrays_read e ∙ read-written m sm

-- A body that is judged 0 is the writing of the arrays read from it
module _ (s : List ℕ) (bytes : Bytes s) (good : (array_count s).number ≡ 0) where
  is-run : is_run s ≡ true
  unfolding body_number
  is-run = (unless-is (is_run s) 9 0 0 refl good).first

  there-all : (i : ℕ) → i < arrays_in s → array_number i s ≡ 0
  unfolding array_number
  there-all i h = rw (is-run, lt-ltb i (arrays_in s) h)

  read_here : arrays_read s ≡ arrays_here (arrays_in s) 0 s
  unfolding arrays_read body_number
  read_here = rw is-run (same-values (arrays_in s) (λ i. array_read i s) (λ i. array_here (header_of i s) s) (λ i h. array-there i s (there-all i h)))

  pub read-sound : AllSound (arrays_read s)
  read-sound = rw read_here each-sound
    where
      each-sound : AllSound (arrays_here (arrays_in s) 0 s)
      each-sound i h =
          let l : i < arrays_in s = omega (arith, length-values (arrays_in s) (λ j. array_here (behind j 0 s) s)) in
          rw (value-at (arrays_in s) (λ j. array_here (behind j 0 s) s) i no_records l) (here-sound (header_of i s) s bytes (there-stands i s (there-all i l)))

  pub written_read : written (arrays_read s) ≡ s
  unfolding is_run arrays_in
  written_read = rw read_here (filled-read (length s) 0 s bytes (omega arith) is-run)

no-list : (s : List ℕ) → (array_count s).number ≡ 9 → (l : List RecordArray) → AllSound l → written l ≡ s → ⊥
no-list s n l w e =
    let z : (array_count s).number ≡ 0 = rw (← e) (ap (λ (x : Counted). x.number) (written_count l w)) in
    omega arith

no_run : (s : List ℕ) → Bytes s → ((l : List RecordArray) → AllSound l → written l ≡ s → ⊥) → (array_count s).number ≡ 9
unfolding body_number
no_run s bytes n = rw (unless-refused (is_run s) 9 (λ z. n (arrays_read s) (read-sound s bytes z) (written_read s bytes z)))

-- "9: body is not a run of record arrays": exactly where no list of arrays is written so
pub nine-exactly : (s : List ℕ) → Bytes s → ((array_count s).number ≡ 9) ↔ ((l : List RecordArray) → AllSound l → written l ≡ s → ⊥)
nine-exactly s bytes = (no-list s, no_run s bytes)

-- a part of a part
part-of-part : (a n b m : ℕ) (s : List ℕ) → b + m ≤ n → a + n ≤ length s → part_at b m (part_at a n s) ≡ part_at (a + b) m s
part-of-part a n b m s h q =
    let d : List ℕ = drop a s in
    let l : length (take n d) ≡ n = length_part s a n q in
    let e : drop b d ≡ drop b (take n d) ++ drop n d = ap (drop b) (sym (take-append-drop n d)) ∙ drop-append-le b (take n d) (drop n d) (omega arith) in
    let f : m ≤ length (drop b (take n d)) = rw length-drop (omega arith) in
    sym (rw (← drop-drop b a s, e) (take-append-le m (drop b (take n d)) (drop n d) f))

-- two parts that are the same where the check holds, and empty where it fails
part_by : (t : Bool) (a b m : ℕ) (x y : List ℕ) → (t ≡ true → part_at a m x ≡ part_at b m y)
    → part_at (place_by (unless t 10 0) a m).start (place_by (unless t 10 0) a m).len x
    ≡ part_at (place_by (unless t 10 0) b m).start (place_by (unless t 10 0) b m).len y
part_by true a b m x y e = e refl
part_by false a b m x y e = refl

-- record k in the slice of array i
abbrev pub in_slice : ℕ → ℕ → List ℕ → Place
in_slice i k s = record_in (length (array_records i s)) (array_at i s).size (array_at i s).count k

-- "it shows the k-th record as that part of the body": in an array's own slice it is the record of the body, with the same number
module _ (i k : ℕ) (s : List ℕ) (there : array_number i s ≡ 0) where
  stands : stands_at (header_of i s) s ≡ true
  stands = there-stands i s there

  slice_is : array_records i s ≡ part_at (header_of i s + 5) (length_at (header_of i s) s) s
  unfolding array_records array_by
  slice_is = rw there

  place_is : in_slice i k s ≡ place_by (unless (ltb k (count_at (header_of i s) s)) 10 0) (size_at (header_of i s) s * k) (size_at (header_of i s) s)
  unfolding array_by
  place_is =
      rw (slice_is, length_part s (header_of i s + 5) (length_at (header_of i s) s) (stands-within (header_of i s) s stands), there)
      (in-own (size_at (header_of i s) s) (count_at (header_of i s) s) k (stands-size (header_of i s) s stands))

  pub slice-number : (in_slice i k s).number ≡ (record_place i k s).number
  unfolding record_place
  slice-number = rw (place_is, number-then i s there k)

  pub slice-record : part_at (in_slice i k s).start (in_slice i k s).len (array_records i s) ≡ record_of i k s
  unfolding record_of record_place
  slice-record =
      let size : ℕ = size_at (header_of i s) s in
      rw (place_is, slice_is, number-then i s there k)
      (part_by (ltb k (count_at (header_of i s) s)) (size * k) (header_of i s + 5 + size * k) size (part_at (header_of i s + 5) (length_at (header_of i s) s) s) s
      (λ t.
      let h : k < count_at (header_of i s) s = ltb-true _ _ t in
      let m : size * suc k ≤ length_at (header_of i s) s = mul-le-mul_left size h in
      part-of-part (header_of i s + 5) (length_at (header_of i s) s) (size * k) size s (omega (arith, mul-suc size k)) (stands-within (header_of i s) s stands)))

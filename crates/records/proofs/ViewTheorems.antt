-- What holds of every view: a record read through the view of an array is the record of the body, the same bytes and the same number.
use Prim.Native.Nat.{ℕ, zero, suc, ◌*◌}
use mathlib.Core.List.{List, []}
use mathlib.Core.Path.{◌≡◌, refl, sym, ap, ◌∙◌}
use native.Mathlib.Omega.{arith}
use lib.ListN.{length}
use borrow.Author.Tests.{ne_eqb}
use Rattle.octets.specs.Order.{or_else}
use Rattle.octets.specs.Buffer.{part_at}
use Rattle.octets.specs.Numbers.{refused_place}
use Rattle.octets.specs.declared.Place.{Place}
use Rattle.records.specs.Arrays.{array_number, array_by, array_at, array_records, record_place, record_of, in_number, record_in}
use Rattle.records.specs.View.{place_in, Shown, viewed, view_number, view_record, view_record_number}
use Rattle.records.specs.declared.Array.{Array}
use Rattle.records.proofs.RecordLaws.{in-zero, in-other, number-first}
use Rattle.records.proofs.Theorems.{slice-number, slice-record}

by_zero : {P : Type 0} (n : ℕ) → (n ≡ 0 → P) → ((n ≡ 0 → ⊥) → P) → P
by_zero zero here other = here refl
by_zero (suc n) here other = other (λ e. omega arith)

-- the records of an array that was found or not
pub records-part : (i : ℕ) (s part : List ℕ) (found : Array) → found ≡ array_at i s → part ≡ part_at found.start found.len s → part ≡ array_records i s
unfolding array_records
records-part i s part found e q = rw (q, e)

-- the view that is put together of what the two calls gave
pub shows-array : (i : ℕ) (s part : List ℕ) (found : Array) → found ≡ array_at i s → part ≡ part_at found.start found.len s
    → ◌≡◌ {A = Shown} (record { records = part; kind = found.kind; size = found.size; count = found.count }) (viewed i s)
unfolding array_records
shows-array i s part found e q = rw (q, e)

-- "refused, .. the view all zero"
pub refused-zero : (i : ℕ) (s : List ℕ) → (view_number i s ≡ 0 → ⊥) → viewed i s ≡ record { records = []; kind = 0; size = 0; count = 0 }
unfolding array_records array_by
refused-zero i s n = rw (ne_eqb (array_number i s) 0 n)

-- "10, also for every k of a view whose slice is not size times number bytes or whose size is zero": any view, whoever made it
pub ten-in-odd : (view : Shown) (k : ℕ) → ((view.size ≡ 0 → ⊥) → length view.records ≡ view.size * view.count → ⊥)
    → (view_record_number view k ≡ 10) × (view_record view k ≡ [])
ten-in-odd view k odd =
    let none : Place = refused_place 10 in
    let bytes : ℕ = length view.records in
    let e : place_in view.records view.size view.count k ≡ none =
    by_zero view.size (λ z. sym (in-zero bytes view.size view.count k none z refl))
    (λ n. sym (in-other bytes view.size view.count k (view.size * view.count) n refl none (odd n) refl)) in
    (ap (λ (p : Place). p.number) e, ap (λ (p : Place). part_at p.start p.len view.records) e)

module _ (i k : ℕ) (s : List ℕ) where
  record-refused : (view_number i s ≡ 0 → ⊥) → view_record (viewed i s) k ≡ record_of i k s
  unfolding array_by record_of record_place record_in in_number
  record-refused n = ap (λ (view : Shown). view_record view k) (refused-zero i s n) ∙ rw (number-first i k s n, ne_eqb (array_number i s) 0 n)

  number-refused : (view_number i s ≡ 0 → ⊥) → or_else (view_number i s) (view_record_number (viewed i s) k) ≡ (record_place i k s).number
  unfolding array_by record_place
  number-refused n = rw (number-first i k s n, ne_eqb (array_number i s) 0 n)

  -- "it shows the k-th record as that part of the body"; refused, both are empty
  pub view-record : view_record (viewed i s) k ≡ record_of i k s
  unfolding array_by
  view-record = by_zero (view_number i s) (slice-record i k s) record-refused

  -- the view's number, or else the record's in it, is the record's in the body: of a refused view every record is 10, so its own 9 comes first
  pub view-number : or_else (view_number i s) (view_record_number (viewed i s) k) ≡ (record_place i k s).number
  unfolding array_by
  view-number = by_zero (view_number i s) (λ z. ap (λ (n : ℕ). or_else n (view_record_number (viewed i s) k)) z ∙ slice-number i k s z) number-refused

-- What is claimed of every body and of every view (document 01, Record arrays). proofs/Claims.antt proves it.
use Rattle.std.specs.Prelude.{ℕ, ◌+◌, ◌*◌, ◌<◌, List, [], ◌↔◌, ◌⊎◌, ◌≢◌, ◌≡◌, length, get_or, take}
use Rattle.octets.specs.Order.{or_else}
use Rattle.octets.specs.Numbers.{done, not_arrays, no_such}
use Rattle.records.specs.Arrays.{array_count, array_at, record_place, array_records, record_of}
use Rattle.records.specs.View.{Shown, viewed, view_number, view_record, view_record_number}
use Rattle.octets.specs.Buffer.{Bytes}
use Rattle.records.specs.Written.{RecordArray, no_records, AllSound, joined, written, arrays_read}

pub record RecordsClaims : Type 0 where
  -- a list of arrays, written, is a body: the whole list is read back
  pub list_back : (l : List RecordArray) → AllSound l → arrays_read (written l) ≡ l
  -- the number of its arrays
  pub count_back : (l : List RecordArray) → AllSound l
      → array_count (written l) ≡ record { number = done; count = length l }
  -- "Header: type (1), record size (2, not zero), number of records (2); then that many records": array i stands behind
  -- the arrays before it, and its records behind its header of five bytes
  pub array_back : (l : List RecordArray) → AllSound l → (i : ℕ) → i < length l
      → array_at i (written l)
      ≡ record {
        number = done;
        kind = (get_or l i no_records).kind;
        size = (get_or l i no_records).size;
        count = length (get_or l i no_records).records;
        start = length (written (take i l)) + 5;
        len = length (joined (get_or l i no_records).records);
      }
  pub records_back : (l : List RecordArray) → AllSound l → (i : ℕ) → i < length l
      → array_records i (written l) ≡ joined (get_or l i no_records).records
  -- record k of array i is there, and is that record
  pub record_there : (l : List RecordArray) → AllSound l → (i : ℕ) → i < length l
      → (k : ℕ) → k < length (get_or l i no_records).records
      → (record_place i k (written l)).number ≡ done
  pub record_back : (l : List RecordArray) → AllSound l → (i : ℕ) → i < length l
      → (k : ℕ) → k < length (get_or l i no_records).records
      → record_of i k (written l) ≡ get_or (get_or l i no_records).records k []
  -- a body that is judged 0 is the writing of the arrays read from it
  pub read_sound : (body : List ℕ) → Bytes body → (array_count body).number ≡ done → AllSound (arrays_read body)
  pub written_back : (body : List ℕ) → Bytes body → (array_count body).number ≡ done → written (arrays_read body) ≡ body
  -- "it must be filled exactly by arrays, otherwise 9": 9 exactly where no list of arrays is written so
  pub nine_exactly : (body : List ℕ) → Bytes body
      → ((array_count body).number ≡ not_arrays) ↔ ((l : List RecordArray) → AllSound l → written l ≡ body → ⊥)
  -- a body has one reading: two lists with the same writing are equal
  pub one_reading : (l m : List RecordArray) → AllSound l → AllSound m → written l ≡ written m → l ≡ m
  -- "An empty body has none"
  pub empty_body : array_count [] ≡ record { number = done; count = 0 }
  -- "it shows the k-th record as that part of the body, or 10": through the view of array i a record is the one that is
  -- read from the body, with the same number; of a view that is refused by 9, that 9 comes first
  pub view_record_is : (i k : ℕ) (body : List ℕ) → view_record (viewed i body) k ≡ record_of i k body
  pub view_number_is : (i k : ℕ) (body : List ℕ)
      → or_else (view_number i body) (view_record_number (viewed i body) k) ≡ (record_place i k body).number
  -- "refused, the part is empty and the view all zero"
  pub refused_zero : (i : ℕ) (body : List ℕ) → view_number i body ≢ done
      → viewed i body ≡ record { records = []; kind = 0; size = 0; count = 0 }
  -- "or 10, also for every k of a view whose slice is not size times number bytes or whose size is zero"
  pub odd_view : (view : Shown) (k : ℕ)
      → (length view.records ≢ view.size * view.count) ⊎ (view.size ≡ 0)
      → (view_record_number view k ≡ no_such) × (view_record view k ≡ [])

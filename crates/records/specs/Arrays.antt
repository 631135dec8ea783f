-- Document 01, Record arrays (generation 2; widths from Appendix 1): judging a body, its arrays and their records.
use Rattle.std.specs.Prelude.{ℕ, zero, suc, ◌+◌, ◌*◌, Bool, cond, ◌&&◌, ◌||◌, List, length, get_or, eqb, leb, ltb}
use Rattle.octets.specs.Order.{unless}
use Rattle.octets.specs.Numbers.{done, not_arrays, no_such, changed_by, place_by, counted_by}
use Rattle.fields.specs.BigEndian.{number_at}
use Rattle.octets.specs.Buffer.{part_at}
use Rattle.octets.specs.declared.Place.{Place}
use Rattle.octets.specs.declared.Counted.{Counted}
use Rattle.octets.specs.Numbers.{number}
use Rattle.octets.specs.declared.refusal.Refusal.{Refusal}
use Rattle.std.specs.Prelude.{Result, Ok, Err}
use Rattle.records.specs.declared.Array.{Array}
use Rattle.records.specs.declared.FoundArray.{FoundArray}

-- "Header: type (1), record size (2, not zero), number of records (2); then that many records"

-- of the header that begins at `at`: type, record size, number of records
abbrev pub kind_at : ℕ → List ℕ → ℕ
kind_at at body = get_or body at 0

abbrev pub size_at : ℕ → List ℕ → ℕ
size_at at body = number_at 2 (at + 1) body

abbrev pub count_at : ℕ → List ℕ → ℕ
count_at at body = number_at 2 (at + 3) body

-- the bytes of its records, and the place behind them
abbrev pub length_at : ℕ → List ℕ → ℕ
length_at at body = size_at at body * count_at at body

abbrev pub next_at : ℕ → List ℕ → ℕ
next_at at body = at + 5 + length_at at body

-- an array stands there: its size is not zero, and header and records lie in the body
unfoldable pub stands_at : ℕ → List ℕ → Bool
stands_at at body = ltb 0 (size_at at body) && leb (next_at at body) (length body)

-- "A body .. must be filled exactly by arrays": from `at` on nothing is left, or an array stands there and what is
-- behind it is filled so.
-- An array has 5 bytes or more, so a body has no more arrays than bytes.
unfoldable pub filled_from : ℕ → ℕ → List ℕ → Bool
filled_from zero at body = eqb at (length body)
filled_from (suc most) at body = eqb at (length body) || (stands_at at body && filled_from most (next_at at body) body)

unfoldable pub is_run : List ℕ → Bool
is_run body = filled_from (length body) 0 body

-- how many arrays stand back to back: "An empty body has none"
unfoldable pub arrays_from : ℕ → ℕ → List ℕ → ℕ
arrays_from zero at body = 0
arrays_from (suc most) at body = cond (stands_at at body) (arrays_from most (next_at at body) body + 1) 0

unfoldable pub arrays_in : List ℕ → ℕ
arrays_in body = arrays_from (length body) 0 body

-- the place behind the first arrays, as far as they stand: "Arrays and records count from zero", so behind k of them is
-- array k
unfoldable pub behind : ℕ → ℕ → List ℕ → ℕ
behind zero at body = at
behind (suc arrays) at body = cond (stands_at at body) (behind arrays (next_at at body) body) at

abbrev pub header_of : ℕ → List ℕ → ℕ
header_of array body = behind array 0 body

-- Numbers, "Record arrays: 9, 10"

-- "9: body is not a run of record arrays"
unfoldable pub body_number : List ℕ → ℕ
body_number body = unless (is_run body) not_arrays done

-- "10: no such array, record": the whole body is judged first
unfoldable pub array_number : ℕ → List ℕ → ℕ
array_number array body =
    unless (is_run body) not_arrays
    (unless (ltb array (arrays_in body)) no_such
    done)

unfoldable pub record_number : ℕ → ℕ → List ℕ → ℕ
record_number array k body =
    unless (is_run body) not_arrays
    (unless (ltb array (arrays_in body)) no_such
    (unless (ltb k (count_at (header_of array body) body)) no_such
    done))

-- Results

-- the array whose header begins at `at`, with the place of its records: "refused, .. the view all zero"
unfoldable pub array_by : ℕ → ℕ → List ℕ → Array
array_by number at body =
    record {
      number = number;
      kind = changed_by number (kind_at at body) 0;
      size = changed_by number (size_at at body) 0;
      count = changed_by number (count_at at body) 0;
      start = changed_by number (at + 5) 0;
      len = changed_by number (length_at at body) 0;
    }

-- what the code's calls hand back
abbrev pub array_of : Result FoundArray Refusal → Array
array_of (Ok found) =
    record {
      number = done;
      kind = found.kind;
      size = found.size;
      count = found.count;
      start = found.records.start;
      len = found.records.len;
    }
array_of (Err refusal) = record { number = number refusal; kind = 0; size = 0; count = 0; start = 0; len = 0 }

-- what stands at `at`, or 9
abbrev pub found_at : ℕ → List ℕ → Array
found_at at body = array_by (unless (stands_at at body) not_arrays done) at body

-- how many arrays, or 9
abbrev pub array_count : List ℕ → Counted
array_count body = counted_by (body_number body) (arrays_in body)

-- the array with that number, or 9, or 10
abbrev pub array_at : ℕ → List ℕ → Array
array_at array body = array_by (array_number array body) (header_of array body) body

-- "it shows the k-th record as that part of the body": records lie back to back behind the header
unfoldable pub record_place : ℕ → ℕ → List ℕ → Place
record_place array k body =
    place_by (record_number array k body)
    (header_of array body + 5 + size_at (header_of array body) body * k)
    (size_at (header_of array body) body)

-- "refused, the part is empty"
unfoldable pub array_records : ℕ → List ℕ → List ℕ
array_records array body = part_at (array_at array body).start (array_at array body).len body

unfoldable pub record_of : ℕ → ℕ → List ℕ → List ℕ
record_of array k body = part_at (record_place array k body).start (record_place array k body).len body

-- A record within an array's own slice of so many bytes: "or 10, also for every k of a view whose slice is not size
-- times number bytes or whose size is zero"
unfoldable pub in_number : ℕ → ℕ → ℕ → ℕ → ℕ
in_number bytes size count k =
    unless (ltb 0 size) no_such
    (unless (eqb bytes (size * count)) no_such
    (unless (ltb k count) no_such
    done))

unfoldable pub record_in : ℕ → ℕ → ℕ → ℕ → Place
record_in bytes size count k = place_by (in_number bytes size count k) (size * k) size

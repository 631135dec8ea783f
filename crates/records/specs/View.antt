-- Document 01, Record arrays: "The view of one array carries a reference to its own slice; it shows the k-th record as
-- that part of the body, or 10, also for every k of a view whose slice is not size times number bytes or whose size is
-- zero".
use Rattle.std.specs.Prelude.{ℕ, List, length}
use Rattle.octets.specs.Buffer.{part_at}
use Rattle.octets.specs.declared.Place.{Place}
use Rattle.records.specs.Arrays.{array_at, array_records, record_in}
use Rattle.records.specs.declared.view.ArrayView.{ArrayView}

-- record k of a slice of records: its place and number, and its bytes
abbrev pub place_in : List ℕ → ℕ → ℕ → ℕ → Place
place_in records size count k = record_in (length records) size count k

abbrev pub part_in : List ℕ → ℕ → ℕ → ℕ → List ℕ
part_in records size count k = part_at (place_in records size count k).start (place_in records size count k).len records

-- what a view says, the slice by its bytes
pub record Shown : Type 0 where
  pub records : List ℕ
  pub kind : ℕ
  pub size : ℕ
  pub count : ℕ

abbrev pub shown : ArrayView → Shown
shown view = record { records = view.records.now; kind = view.kind; size = view.size; count = view.count }

-- the view of an array: its slice, and type, record size and number of records of its header. "Refused, .. the view all
-- zero"
abbrev pub viewed : ℕ → List ℕ → Shown
viewed array body =
    record {
      records = array_records array body;
      kind = (array_at array body).kind;
      size = (array_at array body).size;
      count = (array_at array body).count;
    }

-- "a twin call gives the number"
abbrev pub view_number : ℕ → List ℕ → ℕ
view_number array body = (array_at array body).number

-- record k of a view, and its twin
abbrev pub view_record : Shown → ℕ → List ℕ
view_record view k = part_in view.records view.size view.count k

abbrev pub view_record_number : Shown → ℕ → ℕ
view_record_number view k = (place_in view.records view.size view.count k).number

-- Lists of record arrays, how they are written, and what is read from a body: the theorems hold the reader to these.
use Rattle.std.specs.Prelude.{ℕ, ◌<◌, List, [], ◌∷◌, ◌++◌, ◌≡◌, length, get_or}
use Rattle.fields.specs.BigEndian.{bytes_of}
use Rattle.octets.specs.Values.{up_to}
use Rattle.records.specs.Arrays.{array_count, array_at, record_of}

-- an array: its type, the size of its records, and the records
pub record RecordArray : Type 0 where
  pub kind : ℕ
  pub size : ℕ
  pub records : List (List ℕ)

abbrev pub no_records : RecordArray
no_records = record { kind = 0; size = 0; records = [] }

-- size and number have two bytes, the size is not zero, and every record has that size.
-- Nothing is asked of the type and the records' bytes: where a writing consists of bytes, so do they.
pub record Sound (a : RecordArray) : Type 0 where
  pub some : 0 < a.size
  pub size : a.size < 65536
  pub count : length a.records < 65536
  pub each : (k : ℕ) → k < length a.records → length (get_or a.records k []) ≡ a.size

abbrev pub AllSound : List RecordArray → Type 0
AllSound arrays = (i : ℕ) → i < length arrays → Sound (get_or arrays i no_records)

-- Writing: "type (1), record size (2, not zero), number of records (2); then that many records"

-- records back to back
unfoldable pub joined : List (List ℕ) → List ℕ
joined [] = []
joined (first ∷ more) = first ++ joined more

unfoldable pub written_array : RecordArray → List ℕ
written_array a = a.kind ∷ (bytes_of 2 a.size ++ (bytes_of 2 (length a.records) ++ joined a.records))

-- arrays back to back
unfoldable pub written : List RecordArray → List ℕ
written [] = []
written (a ∷ more) = written_array a ++ written more

-- Reading, by the calls alone

-- array and arrays, with their records, as the calls give them
unfoldable pub array_read : ℕ → List ℕ → RecordArray
array_read array body =
    record {
      kind = (array_at array body).kind;
      size = (array_at array body).size;
      records = up_to (array_at array body).count (λ k. record_of array k body);
    }

unfoldable pub arrays_read : List ℕ → List RecordArray
arrays_read body = up_to (array_count body).count (λ array. array_read array body)

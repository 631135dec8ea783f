-- The layout of a bench store, over its form: the width of a field, the bytes in front of the count, and the bounds.
use Rattle.std.specs.Prelude.{ℕ, ◌+◌, ◌*◌, ◌^◌, ◌<◌, true, List, [], ◌≡◌, length, get_or}
use Rattle.fields.specs.BigEndian.{field_width, number_at}
use Rattle.octets.specs.Buffer.{part_at}
use Rattle.catalog.specs.declared.AnswerName.{AnswerName}

pub record Form : Type 0 where
  -- the bytes in front of the count
  pub mark : List ℕ
  -- the width of count, stream length, offset and length
  pub width : ℕ
  -- the most answers, the most bytes of one answer and of the stream
  pub answers_most : ℕ
  pub answer_most : ℕ
  pub stream_most : ℕ

-- what is asked of a form: fields of two or four bytes, and bounds that fit them
pub record Sized (f : Form) : Type 0 where
  pub field : field_width f.width ≡ true
  pub counts : f.answers_most < 256 ^ f.width
  pub streams : f.stream_most < 256 ^ f.width

-- "Two bytes count of answers n (0 to 64), two bytes stream length t (0 to 60,000)"; one answer is bounded by the
-- stream
abbrev pub narrow : Form
narrow = record { mark = []; width = 2; answers_most = 64; answer_most = 60000; stream_most = 60000 }

module _ (f : Form) where
  -- count of answers and stream length, behind the mark
  unfoldable pub header_size : ℕ
  header_size = length f.mark + (f.width + f.width)

  -- "n entries of eight bytes: day (4 ..), offset (2), length (2 ..)"
  unfoldable pub entry_size : ℕ
  entry_size = 4 + (f.width + f.width)

  -- all entries before the i-th, from 0
  unfoldable pub entries_size : ℕ → ℕ
  entries_size i = entry_size * i

  abbrev pub entry_start : ℕ → ℕ
  entry_start i = header_size + entries_size i

  abbrev pub answers : List ℕ → ℕ
  answers s = number_at f.width (length f.mark) s

  abbrev pub stream_length : List ℕ → ℕ
  stream_length s = number_at f.width (length f.mark + f.width) s

  abbrev pub entry_day : ℕ → List ℕ → ℕ
  entry_day i s = number_at 4 (entry_start i) s

  abbrev pub entry_offset : ℕ → List ℕ → ℕ
  entry_offset i s = number_at f.width (entry_start i + 4) s

  abbrev pub entry_length : ℕ → List ℕ → ℕ
  entry_length i s = number_at f.width (entry_start i + 4 + f.width) s

  -- "Then the stream: the answers back to back"
  abbrev pub stream_start : List ℕ → ℕ
  stream_start s = entry_start (answers s)

  -- "The store is the front 4+8n+t bytes of its buffer; bytes behind stay"
  abbrev pub store_length : List ℕ → ℕ
  store_length s = stream_start s + stream_length s

  abbrev pub stream_of : List ℕ → List ℕ
  stream_of s = part_at (stream_start s) (stream_length s) s

  abbrev pub answer_start : ℕ → List ℕ → ℕ
  answer_start i s = stream_start s + entry_offset i s

  -- "each 76, listed TREP, data"
  unfoldable pub answer_at : ℕ → List ℕ → List ℕ
  answer_at i s = part_at (answer_start i s) (entry_length i s) s

  unfoldable pub name_at : ℕ → List ℕ → AnswerName
  name_at i s = record { trep = get_or s (answer_start i s + 1) 0; day = entry_day i s }

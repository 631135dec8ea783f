-- "Appending puts the answer last", in place: the entries grow by one, so the stream moves up; bytes behind the new
-- store stay. "appending rounds it" (document 02, Req 03): the entry gets the first second of the day.
use Rattle.std.specs.Prelude.{ℕ, ◌+◌, not, List, [], ◌∷◌, ◌++◌, length, take, leb}
use Rattle.octets.specs.Order.{unless, or_else}
use Rattle.octets.specs.Numbers.{done, buffer_short, already_held, over_bound, changed_by, written_by}
use Rattle.fields.specs.BigEndian.{bytes_of}
use Rattle.octets.specs.Buffer.{part_at, front}
use Rattle.octets.specs.declared.Written.{Written}
use Rattle.catalog.specs.Name.{rounded}
use Rattle.store.specs.Layout.{Form, header_size, entry_size, entries_size}
use Rattle.store.specs.Layout.{answers, stream_length, store_length, stream_of}
use Rattle.store.specs.Check.{store_number}
use Rattle.store.specs.Read.{is_held}
use Rattle.store.specs.Answer.{name_of, answer_number}
use Rattle.store.specs.Contents.{Stored, name_for, kept, back_to_back, store_of, is_among}

module _ (f : Form) where
  -- "8: store would pass 64 answers or 60,000 stream bytes", "4: .. store buffer too short"
  unfoldable pub room_number : ℕ → List ℕ → ℕ
  room_number n s =
      unless (leb (answers f s + 1) f.answers_most) over_bound
      (unless (leb (stream_length f s + n) f.stream_most) over_bound
      (unless (leb (store_length f s + entry_size f + n) (length s)) buffer_short
      done))

  -- "Appending: 5, 12, 7, 8, 4", with the number of the fault for 5; "the "already held" test" compares whole days
  unfoldable pub append_number : List ℕ → ℕ → List ℕ → ℕ
  append_number answer day s =
      or_else (store_number f s)
      (or_else (answer_number answer day)
      (unless (not (is_held f (rounded (name_of answer day)) s)) already_held
      (room_number (length answer) s)))

  -- the bytes of the store with the answer put last, under this day
  unfoldable pub with_answer : List ℕ → ℕ → List ℕ → List ℕ
  with_answer answer day s =
      take (length f.mark) s
      ++ (bytes_of f.width (answers f s + 1)
      ++ (bytes_of f.width (stream_length f s + length answer)
      ++ (part_at (header_size f) (entries_size f (answers f s)) s
      ++ (bytes_of 4 day
      ++ (bytes_of f.width (stream_length f s)
      ++ (bytes_of f.width (length answer)
      ++ (stream_of f s ++ answer)))))))

  unfoldable pub append_result : List ℕ → ℕ → List ℕ → Written
  append_result answer day s =
      written_by (append_number answer day s) (store_length f s + entry_size f + length answer)

  unfoldable pub append_out : List ℕ → ℕ → List ℕ → List ℕ
  append_out answer day s =
      changed_by (append_number answer day s) (front (with_answer answer (rounded (name_of answer day)).day s) s) s

-- "Appending puts the answer last", as a store keeps it
abbrev pub with_last : Stored → List Stored → List Stored
with_last g gs = gs ++ (kept g ∷ [])

-- "Appending: 5, 12, 7, 8, 4", behind the store's number; buffer_len is the buffer's length
unfoldable pub append_number_to : Form → Stored → ℕ → List Stored → ℕ
append_number_to f g buffer_len gs =
    or_else (answer_number g.answer g.day)
    (unless (not (is_among (rounded (name_for g)) gs)) already_held
    (unless (leb (length (with_last g gs)) f.answers_most) over_bound
    (unless (leb (length (back_to_back (with_last g gs))) f.stream_most) over_bound
    (unless (leb (length (store_of f (with_last g gs))) buffer_len) buffer_short
    done))))

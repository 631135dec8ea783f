-- Document 01, Splitting (Appendix 7, section 2.2.1), over the data of an answer, behind 76 and TREP.
use Rattle.std.specs.Prelude.{ℕ, ◌+◌, ◌-◌, ◌*◌, ◌/◌, min}
use Rattle.std.specs.Prelude.{Bool, cond, List, [], ◌∷◌, ◌++◌, length, take, drop, nat_le, nat_lt}
use Rattle.octets.specs.Order.{unless, or_else}
use Rattle.octets.specs.Numbers.{done, buffer_short, over_bound, no_such, changed_by, written_by, place_by, counted_by}
use Rattle.fields.specs.BigEndian.{bytes_of}
use Rattle.octets.specs.Buffer.{front}
use Rattle.octets.specs.declared.Written.{Written}
use Rattle.octets.specs.declared.Place.{Place}
use Rattle.octets.specs.declared.Counted.{Counted}
use Rattle.frame.specs.declared.Addresses.{Addresses}
use Rattle.frame.specs.declared.End.TheVariants as ends
use Rattle.frame.specs.Frame.{frame_of}
use Rattle.frame.specs.Given.{different, refused_write}

-- "data to split has over 59,998 bytes" is 8
abbrev pub data_most : ℕ
data_most = 59998

-- "Answer data of up to 252 bytes goes in one frame"; "251 data bytes (LEN FF)" in a full sub message
abbrev pub single_most : ℕ
single_most = 252

abbrev pub piece_size : ℕ
piece_size = 251

-- ".. More is split"
abbrev pub is_split : ℕ → Bool
is_split n = nat_lt single_most n

-- "n bytes, n at least 253, need n/251 rounded down, plus 1"
unfoldable pub count_of : ℕ → ℕ
count_of n = cond (is_split n) (n / piece_size + 1) 1

unfoldable pub sub_messages : ℕ → Counted
sub_messages n = counted_by (unless (nat_le n data_most) over_bound done) (count_of n)

-- the data bytes that sub message k carries: "251 data bytes (LEN FF); the last carries 0 to 250"
unfoldable pub carries : ℕ → List ℕ → List ℕ
carries k d = cond (is_split (length d)) (take piece_size (drop ((k - 1) * piece_size) d)) d

-- 8, then 10: "no such .. sub message"
unfoldable pub piece_number : ℕ → ℕ → ℕ
piece_number n k =
    unless (nat_le n data_most) over_bound (unless (nat_le 1 k) no_such (unless (nat_le k (count_of n)) no_such done))

-- their place among n data bytes
unfoldable pub piece_place : ℕ → ℕ → Place
piece_place n k =
    place_by (piece_number n k)
    (cond (is_split n) ((k - 1) * piece_size) 0)
    (cond (is_split n) (min piece_size (n - (k - 1) * piece_size)) n)

-- the data field of sub message k: "76, TREP, data", or "76, TREP, a two-byte number from 1, then .. data bytes"
unfoldable pub sub_field : ℕ → ℕ → List ℕ → List ℕ
sub_field trep k d = 0x76 ∷ trep ∷ (cond (is_split (length d)) (bytes_of 2 k) [] ++ carries k d)

-- its frame, from the unit to the tool
unfoldable pub sub_frame : Addresses → ℕ → ℕ → List ℕ → List ℕ
sub_frame a trep k d = frame_of a ends.Tool (sub_field trep k d)

-- "Writing one sub message (any TREP byte; an unsplit frame is its number 1): 8, 10, 4"
unfoldable pub sub_number : ℕ → ℕ → List ℕ → ℕ → ℕ
sub_number trep k d out_len =
    or_else (piece_number (length d) k)
    (unless (nat_le (length (sub_field trep k d) + 5) out_len) buffer_short
    done)

unfoldable pub sub_result : ℕ → ℕ → List ℕ → ℕ → Written
sub_result trep k d out_len = written_by (sub_number trep k d out_len) (length (sub_field trep k d) + 5)

unfoldable pub sub_out : Addresses → ℕ → ℕ → List ℕ → List ℕ → List ℕ
sub_out a trep k d out = changed_by (sub_number trep k d (length out)) (front (sub_frame a trep k d) out) out

-- the call with both addresses as given: "two equal ones are 2 .., before any other check" (document 02, Req 05)
unfoldable pub sub_result_given : Addresses → ℕ → ℕ → List ℕ → ℕ → Written
sub_result_given a trep k d out_len = unless (different a) refused_write (sub_result trep k d out_len)

unfoldable pub sub_out_given : Addresses → ℕ → ℕ → List ℕ → List ℕ → List ℕ
sub_out_given a trep k d out = unless (different a) out (sub_out a trep k d out)

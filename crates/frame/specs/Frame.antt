-- Document 01, Frames (DDP_002, table in 003), over the addresses of both ends.
use Rattle.std.specs.Prelude.{ℕ, ◌+◌, ◌-◌, Bool, true, false, cond, ◌&&◌, ◌||◌}
use Rattle.std.specs.Prelude.{List, [], ◌∷◌, ◌++◌, length, get_or, take, ltb, leb, eqb}
use Rattle.octets.specs.Order.{unless}
use Rattle.octets.specs.Numbers.{done, frame_count, format_or_address, checksum_wrong, buffer_short}
use Rattle.octets.specs.Numbers.{changed_by, written_by}
use Rattle.octets.specs.Numbers.{place_by}
use Rattle.octets.specs.Sum.{checksum_of}
use Rattle.octets.specs.Buffer.{part_at, front}
use Rattle.octets.specs.declared.Written.{Written}
use Rattle.octets.specs.declared.Place.{Place}
use Rattle.frame.specs.declared.End.{End}
use Rattle.frame.specs.declared.End.TheVariants as ends
use Rattle.frame.specs.declared.Addresses.{Addresses}

-- "Unit address EE, tool address F0"
abbrev pub lab : Addresses
lab = record { unit = 0xEE; tool = 0xF0 }

-- the addresses in a frame that arrives at an end: "tool to unit (at the unit) or unit to tool (at the tool)"
abbrev pub target : Addresses → End → ℕ
target a ends.Unit = a.unit
target a ends.Tool = a.tool

abbrev pub source : Addresses → End → ℕ
source a ends.Unit = a.tool
source a ends.Tool = a.unit

-- "a frame has 6 to 260 bytes"
abbrev pub frame_most : ℕ
frame_most = 260

-- Writing

-- "CS is the sum of all bytes before it, modulo 256"
unfoldable pub closed : List ℕ → List ℕ
closed body = body ++ (checksum_of body ∷ [])

-- "General form: 80, TGT, SRC, LEN, LEN data bytes (first is the SID), CS"
unfoldable pub frame_of : Addresses → End → List ℕ → List ℕ
frame_of a end d = closed (0x80 ∷ target a end ∷ source a end ∷ length d ∷ d)

-- a frame goes out at the front of a buffer of out_len bytes, or "4 (shorter than the frame)"
unfoldable pub send_number : List ℕ → ℕ → ℕ
send_number frame out_len = unless (leb (length frame) out_len) buffer_short done

unfoldable pub send_result : List ℕ → ℕ → Written
send_result frame out_len = written_by (send_number frame out_len) (length frame)

unfoldable pub send_out : List ℕ → List ℕ → List ℕ
send_out frame out = changed_by (send_number frame (length out)) (front frame out) out

-- "Writing a frame: 1 (data empty or over 255 bytes), 4 (shorter than the frame)"; n data bytes, a buffer of out_len
unfoldable pub write_number : ℕ → ℕ → ℕ
write_number n out_len =
    unless (ltb 0 n && leb n 255) frame_count
    (unless (leb (n + 5) out_len) buffer_short
    done)

unfoldable pub write_result : List ℕ → ℕ → Written
write_result d out_len = written_by (write_number (length d) out_len) (length d + 5)

unfoldable pub write_out : Addresses → End → List ℕ → List ℕ → List ℕ
write_out a end d out = changed_by (write_number (length d) (length out)) (front (frame_of a end d) out) out

-- Judging: "A frame is judged in this order"

-- "One exception: the five bytes .., start communication, without LEN"
abbrev pub is_start : List ℕ → Bool
is_start s = eqb (get_or s 0 0) 0x81

-- "first byte neither 80 nor 81 (2)"
abbrev pub known_format : ℕ → Bool
known_format first = eqb first 0x80 || eqb first 0x81

-- "byte count other than LEN+5, or 5 for first byte 81, or LEN zero (1)"
unfoldable pub count_right : List ℕ → Bool
count_right s = cond (is_start s) (eqb (length s) 5) (ltb 0 (get_or s 3 0) && eqb (length s) (get_or s 3 0 + 5))

-- "or first byte 81 at the tool or with a SID other than 81": in the form without LEN the fourth byte is the SID
unfoldable pub start_right : End → List ℕ → Bool
start_right ends.Unit s = eqb (get_or s 3 0) 0x81
start_right ends.Tool s = false

-- the general form carries any SID at either end
abbrev pub form_right : End → List ℕ → Bool
form_right end s = cond (is_start s) (start_right end s) true

-- "addresses not tool to unit (at the unit) or unit to tool (at the tool), or .. (2)"
unfoldable pub addressed : Addresses → End → List ℕ → Bool
addressed a end s = eqb (get_or s 1 0) (target a end) && (eqb (get_or s 2 0) (source a end) && form_right end s)

-- "wrong CS (3)"
unfoldable pub checksum_right : List ℕ → Bool
checksum_right s = eqb (checksum_of (take (length s - 1) s)) (get_or s (length s - 1) 0)

-- the number of a frame that arrives at an end
unfoldable pub judged : Addresses → End → List ℕ → ℕ
judged a end s =
    unless (leb 5 (length s)) frame_count
    (unless (known_format (get_or s 0 0)) format_or_address
    (unless (count_right s) frame_count
    (unless (addressed a end s) format_or_address
    (unless (checksum_right s) checksum_wrong
    done))))

-- The data of a good frame; the five-byte start carries its SID alone

abbrev pub data_start : List ℕ → ℕ
data_start s = cond (is_start s) 3 4

abbrev pub data_length : List ℕ → ℕ
data_length s = cond (is_start s) 1 (get_or s 3 0)

unfoldable pub data_place : Addresses → End → List ℕ → Place
data_place a end s = place_by (judged a end s) (data_start s) (data_length s)

unfoldable pub data_of : Addresses → End → List ℕ → List ℕ
data_of a end s = part_at (data_place a end s).start (data_place a end s).len s

-- Where the frame at the front ends: what a host that receives bytes one after the other asks. From document 01,
-- Frames:
-- "General form: 80, TGT, SRC, LEN, LEN data bytes .., CS", "One exception: the five bytes .. without LEN".
use Rattle.std.specs.Prelude.{Option, Some, None}
use Rattle.std.specs.Prelude.{ℕ, ◌+◌, cond, List, length, get_or, eqb, leb}

-- The length of the frame at the front of the bytes received so far: 0 while more are needed to tell. A first byte
-- other than 80 and 81 begins no frame (house): it is a string of its own, of length 1.
unfoldable pub frame_length : List ℕ → ℕ
frame_length received =
    cond (eqb (length received) 0) 0
    (cond (eqb (get_or received 0 0) 0x81) 5
    (cond (eqb (get_or received 0 0) 0x80) (cond (leb 4 (length received)) (get_or received 3 0 + 5) 0)
    1))

-- the same as the code has it: none while more are needed
abbrev pub length_known : ℕ → Option ℕ
length_known n = cond (eqb n 0) None (Some n)

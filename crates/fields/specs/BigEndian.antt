-- "Numbers on the wire are hexadecimal, most significant byte first" (document 01), over the width of a field.
use Rattle.std.specs.Prelude.{ℕ, zero, suc, ◌+◌, ◌*◌, ◌/◌, ◌%◌, Bool, cond, ◌&&◌, ◌||◌}
use Rattle.std.specs.Prelude.{List, [], ◌∷◌, ◌++◌, length, eqb, leb}
use Rattle.octets.specs.Buffer.{part_at, put}

-- the number that the bytes go on to, behind those read so far
abbrev pub number_from : ℕ → List ℕ → ℕ
number_from sofar [] = sofar
number_from sofar (x ∷ xs) = number_from (sofar * 256 + x) xs

-- the number in the bytes
abbrev pub number_of : List ℕ → ℕ
number_of bytes = number_from 0 bytes

-- the number in a field of width bytes: the last byte is the remainder by 256
abbrev pub bytes_of : ℕ → ℕ → List ℕ
bytes_of zero n = []
bytes_of (suc width) n = bytes_of width (n / 256) ++ (n % 256 ∷ [])

-- the widths that fields have
abbrev pub field_width : ℕ → Bool
field_width width = eqb width 2 || eqb width 4

-- a field of that width has its place
abbrev pub field_fits : ℕ → ℕ → List ℕ → Bool
field_fits width at bytes = field_width width && leb (at + width) (length bytes)

-- the number in the field of width bytes at `at`, 0 where there is no such field
unfoldable pub number_at : ℕ → ℕ → List ℕ → ℕ
number_at width at bytes = cond (field_fits width at bytes) (number_of (part_at at width bytes)) 0

-- out with the number in the field of width bytes at `at`; as it was where there is no such field
unfoldable pub with_number : ℕ → ℕ → ℕ → List ℕ → List ℕ
with_number width at n out = cond (field_fits width at out) (put at (bytes_of width n) out) out

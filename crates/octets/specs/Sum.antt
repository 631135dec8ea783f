-- The checksum over whole numbers.
use Rattle.std.specs.Prelude.{ℕ, ◌+◌, ◌%◌, List, [], ◌∷◌}

-- the sum of all bytes
abbrev pub total : List ℕ → ℕ
total [] = 0
total (x ∷ xs) = x + total xs

-- "CS is the sum of all bytes before it, modulo 256" (document 01, Frames; DDP_002)
abbrev pub checksum_of : List ℕ → ℕ
checksum_of bytes = total bytes % 256

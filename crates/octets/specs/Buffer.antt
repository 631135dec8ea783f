-- Parts of a list of bytes, and what a lent buffer holds after a write: "A reply of m bytes changes only the first m of
-- its buffer".
use Rattle.std.specs.Prelude.{ℕ, ◌+◌, ◌<◌, Bool, true, false, cond, ◌&&◌}
use Rattle.std.specs.Prelude.{List, [], ◌∷◌, ◌++◌, length, take, drop, ◌==◌, nat_le, slice_index}
use Rattle.std.proofs.Math.Seq.{slice}

-- what a slice of bytes holds
abbrev pub Bytes : List ℕ → Type 0
Bytes bytes = (i : ℕ) → slice_index bytes i < 256

-- n bytes from start on, as far as they reach
abbrev pub part_at : ℕ → ℕ → List ℕ → List ℕ
part_at start n bytes = take n (drop start bytes)

abbrev pub same_bytes : List ℕ → List ℕ → Bool
same_bytes [] [] = true
same_bytes [] (y ∷ ys) = false
same_bytes (x ∷ xs) [] = false
same_bytes (x ∷ xs) (y ∷ ys) = x == y && same_bytes xs ys

-- bytes at the front of out; what was behind them stays
unfoldable pub front : List ℕ → List ℕ → List ℕ
front bytes out = bytes ++ drop (length bytes) out

-- bytes in out from index at on; what was before and behind them stays
unfoldable pub put : ℕ → List ℕ → List ℕ → List ℕ
put at bytes out = take at out ++ bytes ++ drop (at + length bytes) out

-- a copy to the front: all of the bytes or, where out is shorter, none
unfoldable pub copied : List ℕ → List ℕ → List ℕ
copied bytes out = cond (nat_le (length bytes) (length out)) (front bytes out) out

-- the bytes from start up to end, moved by places towards the back; what stood up to start + by stays
unfoldable pub moved : ℕ → ℕ → ℕ → List ℕ → List ℕ
moved start end by b = take (start + by) b ++ (slice start end b ++ drop (end + by) b)

-- the same where they fit, else nothing changes
unfoldable pub shifted : ℕ → ℕ → ℕ → List ℕ → List ℕ
shifted start end by b = cond (nat_le start end && nat_le (end + by) (length b)) (moved start end by b) b

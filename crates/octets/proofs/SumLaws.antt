-- The running sum over the front of the bytes, longer by one byte, by a turn of eight or by the rest; and how one changed byte shows in the sum.
use Rattle.std.proofs.Common.{◌≡◌, ℕ, zero, suc, ◌+◌, ◌-◌, ◌*◌, ◌%◌, ◌<◌, ◌≤◌, List, [], ◌∷◌, ◌++◌, length, get_or, take, drop, set, ap, arith, length-drop, get_or-drop, take_all, drop-cons, take-add}
use Rattle.octets.specs.Buffer.{part_at}
use Rattle.octets.specs.Sum.{total}

-- two lists put together
total-append : (p q : List ℕ) → total (p ++ q) ≡ total p + total q
total-append [] q = omega arith
total-append (x ∷ p) q = omega (arith, total-append p q)

-- a part of one byte
total-one : (s : List ℕ) (i : ℕ) → i < length s → total (part_at i 1 s) ≡ get_or s i 0
total-one s i h = rw (drop-cons s i 0 h) (omega arith)

-- the first i bytes are in the sum, and the k behind them are added
sum_more : (s : List ℕ) (i k start sum r : ℕ) → sum ≡ (start + total (take i s)) % 256 → r ≡ (sum + total (part_at i k s)) % 256
    → r ≡ (start + total (take (i + k) s)) % 256
sum_more s i k start sum r p q = omega (arith, ap total (take-add i k s), total-append (take i s) (part_at i k s))

-- one byte is added
pub byte_more : (s : List ℕ) (i start sum r : ℕ) → i < length s → sum ≡ (start + total (take i s)) % 256 → r ≡ (sum + get_or s i 0) % 256
    → r ≡ (start + total (take (i + 1) s)) % 256
byte_more s i start sum r h p q = sum_more s i 1 start sum r p (rw (total-one s i h) q)

-- all bytes are in the sum
pub bytes-done : (s : List ℕ) (i start sum : ℕ) → length s ≤ i → sum ≡ (start + total (take i s)) % 256 → sum ≡ (start + total s) % 256
bytes-done s i start sum h p = rw take_all at p

-- a turn: eight bytes that lie in s are added one by one
module _ (s : List ℕ) (at start : ℕ) (h : at + 8 ≤ length s) where
  next : (k sum r : ℕ) → k < 8 → sum ≡ (start + total (part_at at k s)) % 256 → r ≡ (sum + get_or s (at + k) 0) % 256
      → r ≡ (start + total (part_at at (k + 1) s)) % 256
  next k sum r l p q = byte_more (drop at s) k start sum r (simp length-drop (omega arith)) p (rw get_or-drop q)

  pub eight-done : (r₁ r₂ r₃ r₄ r₅ r₆ r₇ r : ℕ) → r₁ ≡ (start + get_or s at 0) % 256 → r₂ ≡ (r₁ + get_or s (at + 1) 0) % 256
      → r₃ ≡ (r₂ + get_or s (at + 2) 0) % 256 → r₄ ≡ (r₃ + get_or s (at + 3) 0) % 256 → r₅ ≡ (r₄ + get_or s (at + 4) 0) % 256
      → r₆ ≡ (r₅ + get_or s (at + 5) 0) % 256 → r₇ ≡ (r₆ + get_or s (at + 6) 0) % 256 → r ≡ (r₇ + get_or s (at + 7) 0) % 256
      → r ≡ (start + total (part_at at 8 s)) % 256
  eight-done r₁ r₂ r₃ r₄ r₅ r₆ r₇ r e₁ e₂ e₃ e₄ e₅ e₆ e₇ e₈ =
      let q₁ : r₁ ≡ (start + total (part_at at 1 s)) % 256 = rw (total-one s at (omega arith)) e₁ in
      let q₂ : r₂ ≡ (start + total (part_at at 2 s)) % 256 = next 1 r₁ r₂ (omega arith) q₁ e₂ in
      let q₃ : r₃ ≡ (start + total (part_at at 3 s)) % 256 = next 2 r₂ r₃ (omega arith) q₂ e₃ in
      let q₄ : r₄ ≡ (start + total (part_at at 4 s)) % 256 = next 3 r₃ r₄ (omega arith) q₃ e₄ in
      let q₅ : r₅ ≡ (start + total (part_at at 5 s)) % 256 = next 4 r₄ r₅ (omega arith) q₄ e₅ in
      let q₆ : r₆ ≡ (start + total (part_at at 6 s)) % 256 = next 5 r₅ r₆ (omega arith) q₅ e₆ in
      let q₇ : r₇ ≡ (start + total (part_at at 7 s)) % 256 = next 6 r₆ r₇ (omega arith) q₆ e₇ in
      next 7 r₇ r (omega arith) q₇ e₈

-- the eight bytes of a turn are added to the sum of the turns before it
pub turn_more : (s : List ℕ) (turn sum r : ℕ) → sum ≡ total (take (turn * 8) s) % 256 → r ≡ (sum + total (part_at (turn * 8) 8 s)) % 256
    → r ≡ total (take ((turn + 1) * 8) s) % 256
turn_more s turn sum r p q = let n : (turn + 1) * 8 ≡ turn * 8 + 8 = omega arith in rw n (omega (arith, sum_more s (turn * 8) 8 0 sum r (omega arith) q))

-- all turns are over, and r is the sum with the rest, which stands behind them
pub rest-done : (s : List ℕ) (turns turn sum r : ℕ) → turn ≤ turns → turns ≤ turn → sum ≡ total (take (turn * 8) s) % 256
    → r ≡ (sum + total (part_at (turns * 8) (length s - turns * 8) s)) % 256 → r ≡ total s % 256
rest-done s turns turn sum r l h p q =
    let n : turn ≡ turns = omega arith in
    let left = length s - turns * 8 in
    let p₀ : sum ≡ (0 + total (take (turns * 8) s)) % 256 = omega (arith, rw n at p) in
    omega (arith, bytes-done s (turns * 8 + left) 0 r (omega arith) (sum_more s (turns * 8) left 0 sum r p₀ q))

-- the sum with the byte at i replaced by b
pub total-set : (l : List ℕ) (i b : ℕ) → i < length l → total (set l i b) + get_or l i 0 ≡ total l + b
total-set [] i b h = absurd (omega arith)
total-set (x ∷ l) zero b h = omega arith
total-set (x ∷ l) (suc i) b h = omega (arith, total-set l i b (omega arith))

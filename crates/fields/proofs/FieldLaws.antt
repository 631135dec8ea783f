-- Fields in buffers: laws over any bytes.
use Prim.Native.Nat.{ℕ, zero, suc, ◌+◌, ◌/◌, ◌%◌, ◌^◌, ◌<◌, ◌≤◌}
use mathlib.Core.Bool.{true}
use mathlib.Core.List.{List, [], ◌∷◌, ◌++◌}
use mathlib.Core.Path.{◌≡◌, sym, ap, ◌∙◌}
use native.Mathlib.Omega.{arith}
use lib.ListN.{length, drop, length-append, length-drop}
use borrow.Author.Tests.{le-leb}
use Rattle.octets.specs.Buffer.{Bytes, part_at, put}
use Rattle.octets.proofs.BufferLaws.{length_part, length-put, put-put}
use Rattle.octets.proofs.PartLaws.{part_in, part-here, bytes_drop, bytes-append}
use Rattle.fields.specs.BigEndian.{number_of, bytes_of, field_width, number_at, with_number}
use Rattle.fields.proofs.NumberLaws.{length-bytes, number-of-bytes, bytes-of-number}

-- the number of a field that has its place
pub number_is : (w at : ℕ) (s : List ℕ) → field_width w ≡ true → at + w ≤ length s → number_at w at s ≡ number_of (part_at at w s)
unfolding number_at
number_is w at s f h = rw (f, le-leb (at + w) (length s) h)

-- the bytes of such a field are its number's
pub bytes-at : (w at : ℕ) (s : List ℕ) → field_width w ≡ true → Bytes s → at + w ≤ length s → bytes_of w (number_at w at s) ≡ part_at at w s
bytes-at w at s f b h =
    ap (bytes_of w) (number_is w at s f h) ∙ bytes-of-number 0 (drop at s) (bytes_drop at s b) w (simp length-drop (omega arith))

-- a field of a part
pub number_in : (at m k w : ℕ) (s : List ℕ) → field_width w ≡ true → k + w ≤ m → at + m ≤ length s → number_at w (at + k) s ≡ number_at w k (part_at at m s)
number_in at m k w s f h l =
    number_is w (at + k) s f (omega arith)
    ∙ ap number_of (part_in at m k w s h l)
    ∙ sym (number_is w k (part_at at m s) f (rw (length_part s at m l) h))

-- a field reads back what was written into it
pub number-here : (w at n : ℕ) (p r : List ℕ) → field_width w ≡ true → length p ≡ at → n < 256 ^ w → number_at w at (p ++ (bytes_of w n ++ r)) ≡ n
number-here w at n p r f e h =
    let l : length (p ++ (bytes_of w n ++ r)) ≡ at + (w + length r) = simp length-append (omega (arith, length-bytes w n)) in
    number_is w at (p ++ (bytes_of w n ++ r)) f (omega arith)
    ∙ ap number_of (part-here at w p (bytes_of w n) r e (length-bytes w n))
    ∙ number-of-bytes w n h

-- a field written where it has its place
pub number_put : (w at n : ℕ) (s : List ℕ) → field_width w ≡ true → at + w ≤ length s → with_number w at n s ≡ put at (bytes_of w n) s
unfolding with_number
number_put w at n s f h = rw (f, le-leb (at + w) (length s) h)

-- two fields, the second right behind the first
pub numbers-put : (w v at n m : ℕ) (s : List ℕ) → field_width w ≡ true → field_width v ≡ true → at + w + v ≤ length s
    → with_number v (at + w) m (with_number w at n s) ≡ put at (bytes_of w n ++ bytes_of v m) s
numbers-put w v at n m s f g h =
    let l : length (bytes_of w n) ≡ w = length-bytes w n in
    let k : length (put at (bytes_of w n) s) ≡ length s = length-put at (bytes_of w n) s (omega arith) in
    rw (number_put w at n s f (omega arith), number_put v (at + w) m (put at (bytes_of w n) s) g (omega arith))
    (ap (λ (x : ℕ). put (at + x) (bytes_of v m) (put at (bytes_of w n) s)) (sym l) ∙ put-put at (bytes_of w n) (bytes_of v m) s (omega arith))

-- a number is written in bytes
pub bytes-number : (w n : ℕ) → Bytes (bytes_of w n)
bytes-number zero n i = omega arith
bytes-number (suc w) n i = bytes-append (bytes_of w (n / 256)) (n % 256 ∷ []) (bytes-number w (n / 256)) last i
  where
    last : Bytes (n % 256 ∷ [])
    last zero = omega arith
    last (suc i) = omega arith

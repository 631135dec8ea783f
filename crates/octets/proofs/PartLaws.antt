-- Parts of buffers and fronts: laws over any bytes.
use Rattle.std.proofs.Common.{◌≡◌, ℕ, zero, suc, ◌+◌, ◌<◌, ◌≤◌, List, [], ◌∷◌, ◌++◌, length, get_or, take, drop, sym, ap, ◌∙◌, append_assoc, arith, length-append, length-drop, take-append-drop, length-take, get_or-drop, get_or-take, drop-drop, take_at, take-add, drop_at}
use native.Mathlib.Decide.{dec_lt}
use lib.ListN.{get_or-eq_default}
use lib.Seq.{take-append-le, drop-append-le}
use Rattle.octets.specs.Buffer.{Bytes, part_at, front}

-- Parts

-- a part that lies in the front of what is appended
pub part_left : (at k : ℕ) (p q : List ℕ) → at + k ≤ length p → part_at at k (p ++ q) ≡ part_at at k p
part_left at k p q h = rw (drop-append-le at p q (omega arith)) (take-append-le k (drop at p) q (simp length-drop (omega arith)))

-- a part of the front
pub part-take : (at k m : ℕ) (s : List ℕ) → at + k ≤ m → m ≤ length s → part_at at k (take m s) ≡ part_at at k s
part-take at k m s h l =
    sym (part_left at k (take m s) (drop m s) (simp length-take (omega arith))) ∙ ap (part_at at k) (take-append-drop m s)

-- a part of a part
pub part_in : (at m k w : ℕ) (s : List ℕ) → k + w ≤ m → at + m ≤ length s → part_at (at + k) w s ≡ part_at k w (part_at at m s)
part_in at m k w s h l = sym (part-take k w m (drop at s) h (simp length-drop (omega arith)) ∙ ap (take w) (drop-drop k at s))

-- a part where it was put
pub part-here : (at k : ℕ) (p x r : List ℕ) → length p ≡ at → length x ≡ k → part_at at k (p ++ (x ++ r)) ≡ x
part-here at k p x r e l = ap (take k) (drop_at p (x ++ r) at e) ∙ take_at x r k l

-- two parts, one behind the other
pub part-add : (at k m : ℕ) (s : List ℕ) → part_at at (k + m) s ≡ part_at at k s ++ part_at (at + k) m s
part-add at k m s = take-add k m (drop at s) ∙ ap (λ (x : List ℕ). part_at at k s ++ take m x) (drop-drop k at s)

-- a byte of a part
pub byte-in : (at m k : ℕ) (s : List ℕ) → k < m → get_or s (at + k) 0 ≡ get_or (part_at at m s) k 0
byte-in at m k s h = sym (get_or-take m (drop at s) k 0 h ∙ get_or-drop at s k 0)

-- bytes behind some have bytes
pub bytes_drop : (at : ℕ) (s : List ℕ) → Bytes s → Bytes (drop at s)
bytes_drop at s b i = rw get_or-drop (b (at + i))

-- Fronts

-- bytes behind a front that stay
module _ (p o : List ℕ) where
  pub front_kept : (at k : ℕ) → length p ≡ at → at + k ≤ length o → front p o ≡ front (p ++ part_at at k o) o
  unfolding front
  front_kept at k e h =
      let l : length (part_at at k o) ≡ k = simp (length-take, length-drop) (omega arith) in
      rw (length-append p (part_at at k o), l, e, append_assoc p (part_at at k o), ← drop-drop k at o, take-append-drop k (drop at o))

-- Bytes

-- a part of bytes has bytes
pub bytes-part : (at m : ℕ) (s : List ℕ) → Bytes s → Bytes (part_at at m s)
bytes-part at m s b i =
    elim (dec_lt i m) as (λ _. get_or (part_at at m s) i 0 < 256) [
      | yes h ↦ rw (← byte-in at m i s h) (b (at + i))
      | no h ↦ rw (get_or-eq_default (part_at at m s) 0 {n = i} (simp length-take (omega arith))) (omega arith)
    ]

pub bytes-append : (p q : List ℕ) → Bytes p → Bytes q → Bytes (p ++ q)
bytes-append [] q a b i = b i
bytes-append (x ∷ p) q a b zero = a 0
bytes-append (x ∷ p) q a b (suc i) = bytes-append p q (λ j. a (suc j)) b i

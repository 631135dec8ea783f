-- The new bytes of a frame in the room, behind the others.
use Prim.Native.Nat.{ℕ, suc, ◌+◌, ◌-◌, ◌≤◌}
use mathlib.Core.Bool.{true, false}
use mathlib.Core.List.{List, [], ◌∷◌, ◌++◌, append-nil}
use mathlib.Core.Path.{◌≡◌, sym, ap, ◌∙◌}
use native.Mathlib.Omega.{arith}
use lib.ListN.{length, take, drop, set, length-append, take-append-drop}
use borrow.Author.Tests.{eq-eqb, ne_eqb}
use Rattle.octets.specs.Buffer.{put, copied}
use Rattle.octets.proofs.BufferLaws.{lent-copy, length-put, put-put, stores-put}
use Rattle.split.specs.Join.{carried_by}
use Rattle.split.specs.declared.Received.{Received}
use Rattle.progress.specs.declared.ToolState.{ToolState}
use Rattle.arrival.specs.declared.Meaning.{Meaning}
use Rattle.arrival.specs.Meaning.{header, new_bytes, takes}
use Rattle.arrival.proofs.RoomLaws.{header-first}
use Rattle.tool.specs.After.{room_after}

-- The header in the room: none, or two stores one behind the other
module _ (t : ToolState) (o : List ℕ) where
  pub put-none : (t.expected.0 ≡ 1 → ⊥) → o ≡ put t.held (header t) o
  unfolding header put
  put-none h =
      let z : t.held + 0 ≡ t.held = omega arith in
      rw (ne_eqb t.expected.0 1 h, z, append-nil (take t.held o)) (sym (take-append-drop t.held o))

  pub put-header : t.expected.0 ≡ 1 → (t.expected.0 ≡ 1 → t.held + 2 ≤ length o)
      → set (set o t.held 0x76) (t.held + 1) t.name.trep ≡ put t.held (header t) o
  unfolding header
  put-header one fits =
      let next : t.held + 1 ≡ suc t.held = omega arith in
      rw (eq-eqb t.expected.0 1 one, next) (stores-put t.held (0x76 ∷ t.name.trep ∷ []) o (fits one))

-- The new bytes of the data d, which is x of the answer, fit in the room: the header, and what the data carries
module _ (t : ToolState) (x : Received) (d : List ℕ) (m : Meaning) (room : ℕ) (k : takes m ≡ true)
    (f : takes m ≡ true → t.held + length (new_bytes t x d) ≤ room) where
  both-fit : t.held + length (header t) + length (carried_by x d) ≤ room
  both-fit = omega (arith, f k, length-append (header t) (carried_by x d))

  pub header-fits : t.expected.0 ≡ 1 → t.held + 2 ≤ room
  header-fits one = omega (arith, both-fit, header-first t one)

-- They are taken into the room o
module _ (t : ToolState) (x : Received) (d : List ℕ) (m : Meaning) (o : List ℕ) (k : takes m ≡ true)
    (f : takes m ≡ true → t.held + length (new_bytes t x d) ≤ length o) where
  fits : t.held + length (header t) + length (carried_by x d) ≤ length o
  fits = both-fit t x d m (length o) k f

  -- h is the room with the header, which has n bytes
  module _ (h : List ℕ) (n : ℕ) (q : h ≡ put t.held (header t) o) (is : n ≡ length (header t)) where
    same_length : length h ≡ length o
    same_length = ap length q ∙ length-put t.held (header t) o (omega (arith, fits))

    pub tail-fits : t.held + n ≤ length h
    tail-fits = omega (arith, fits, is, same_length)

    -- the tail behind it is lent to the copy of p, which gives y
    pub room-taken : (p y : List ℕ) → p ≡ carried_by x d → y ≡ copied p (take (length h - (t.held + n)) (drop (t.held + n) h))
        → take (t.held + n) h ++ (y ++ drop (length h - (t.held + n)) (drop (t.held + n) h)) ≡ room_after t m (new_bytes t x d) o
    unfolding room_after
    room-taken p y e c =
        let z = lent-copy (t.held + n) p h y (omega (arith, fits, is, same_length, ap length e)) c in
        rw k
        (z ∙ rw (is, q) (put-put t.held (header t) p o (omega (arith, fits)))
        ∙ ap (λ (v : List ℕ). put t.held (header t ++ v) o) e)

pub room-kept : (t : ToolState) (m : Meaning) (v o : List ℕ) → takes m ≡ false → o ≡ room_after t m v o
unfolding room_after
room-kept t m v o h = rw h

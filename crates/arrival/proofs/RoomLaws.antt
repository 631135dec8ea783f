-- The new bytes of a frame, and whether they fit the room.
use Prim.Native.Nat.{ℕ, ◌+◌, ◌-◌, ◌<◌, ◌≤◌}
use mathlib.Core.Bool.{true, false}
use mathlib.Core.List.{List}
use mathlib.Core.Path.{◌≡◌, sym}
use native.Mathlib.Omega.{arith}
use lib.Dec.{leb}
use lib.ListN.{length, length-append}
use borrow.Author.Tests.{le-leb, lt-leb, eq-eqb, ne_eqb, leb-true}
use Rattle.octets.proofs.Tests.{and_left, and_right}
use Rattle.split.specs.Join.{carried_by}
use Rattle.split.specs.declared.Received.{Received}
use Rattle.progress.specs.declared.ToolState.{ToolState}
use Rattle.progress.specs.State.{held_most}
use Rattle.arrival.specs.Meaning.{header, new_bytes, fits}

-- What a frame's data adds; n is the length of the header before what it carries, p

module _ (t : ToolState) where
  pub header-first : t.expected.0 ≡ 1 → 2 ≡ length (header t)
  unfolding header
  header-first e = rw (eq-eqb t.expected.0 1 e)

  pub header-none : (t.expected.0 ≡ 1 → ⊥) → 0 ≡ length (header t)
  unfolding header
  header-none n = rw (ne_eqb t.expected.0 1 n)

  module _ (x : Received) (d p : List ℕ) (n : ℕ) (is : n ≡ length (header t)) (e : p ≡ carried_by x d) where
    pub new-length : n + length p ≡ length (new_bytes t x d)
    new-length = rw (is, e) (sym (length-append (header t) (carried_by x d)))

-- Whether they fit

module _ (room_len : ℕ) (t : ToolState) (n : ℕ) where
  pub fits-held : room_len < t.held → false ≡ fits room_len t n
  unfolding fits
  fits-held h = rw (lt-leb (t.held + n) room_len (omega arith))

  pub fits-room : t.held ≤ room_len → room_len - t.held < n → false ≡ fits room_len t n
  unfolding fits
  fits-room l h = rw (lt-leb (t.held + n) room_len (omega arith))

  pub fits-most : t.held ≤ room_len → n ≤ room_len - t.held → leb (t.held + n) held_most ≡ fits room_len t n
  unfolding fits
  fits-most l h = rw (le-leb (t.held + n) room_len (omega arith))

  -- what it says
  pub fits-in-room : fits room_len t n ≡ true → t.held + n ≤ room_len
  unfolding fits
  fits-in-room h = leb-true _ _ (and_left (leb (t.held + n) room_len) _ h)

  pub fits-in-most : fits room_len t n ≡ true → t.held + n ≤ held_most
  unfolding fits
  fits-in-most h = leb-true _ _ (and_right (leb (t.held + n) room_len) _ h)

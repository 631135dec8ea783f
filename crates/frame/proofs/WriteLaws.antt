-- Writing a frame: its number, and header, data and checksum one behind the other.
use Prim.Native.Nat.{ℕ, ◌+◌, ◌<◌, ◌≤◌}
use mathlib.Core.List.{List, [], ◌∷◌, ◌++◌}
use mathlib.Core.Path.{◌≡◌, refl, sym, ap, ◌∙◌}
use native.Mathlib.Omega.{arith}
use lib.ListN.{length, take, set, length-append}
use borrow.Author.Tests.{lt-ltb, le-ltb, le-leb, lt-leb}
use Rattle.octets.specs.Numbers.{changed_by}
use Rattle.octets.specs.Sum.{checksum_of}
use Rattle.octets.specs.Buffer.{front, put, copied}
use Rattle.octets.specs.declared.Written.{Written}
use Rattle.octets.proofs.BufferLaws.{stores-front, stores-put, put_front, take-front, copied-fits}
use Rattle.octets.proofs.CallLaws.{kept, changed}
use Rattle.frame.specs.Frame.{frame_most, target, source, closed, frame_of, send_number, send_result, send_out, write_number, write_result, write_out}
use Rattle.frame.specs.Messages.{start_frame}
use Rattle.frame.specs.declared.End.{End}
use Rattle.frame.specs.declared.Addresses.{Addresses}

pub length-frame : (a : Addresses) (end : End) (d : List ℕ) → length (frame_of a end d) ≡ length d + 5
unfolding frame_of closed
length-frame a end d = simp length-append (omega arith)

-- The number of a write, from the tests of the code; data in two parts p and r
module _ (p r : List ℕ) (room : ℕ) where
  two : length (p ++ r) ≡ length p + length r
  two = length-append p r

  pub number-empty : length p + length r ≡ 0 → 1 ≡ write_number (length (p ++ r)) room
  unfolding write_number
  number-empty h = rw (two, le-ltb 0 (length p + length r) (omega arith))

  pub number-long : 255 < length p + length r → 1 ≡ write_number (length (p ++ r)) room
  unfolding write_number
  number-long h = rw (two, lt-ltb 0 (length p + length r) (omega arith), lt-leb _ _ h)

  pub number_short : (length p + length r ≡ 0 → ⊥) → length p + length r ≤ 255 → room < length p + length r + 5 → 4 ≡ write_number (length (p ++ r)) room
  unfolding write_number
  number_short z l h = rw (two, lt-ltb 0 (length p + length r) (omega arith), le-leb _ _ l, lt-leb _ _ h)

  pub number-good : (length p + length r ≡ 0 → ⊥) → length p + length r ≤ 255 → length p + length r + 5 ≤ room → 0 ≡ write_number (length (p ++ r)) room
  unfolding write_number
  number-good z l h = rw (two, lt-ltb 0 (length p + length r) (omega arith), le-leb _ _ l, le-leb _ _ h)

  -- refused, nothing changes
  module _ {A : Type 0} (new old : A) where
    pub kept-empty : length p + length r ≡ 0 → old ≡ changed_by (write_number (length (p ++ r)) room) new old
    kept-empty h = kept 1 _ new old (number-empty h) refl

    pub kept-long : 255 < length p + length r → old ≡ changed_by (write_number (length (p ++ r)) room) new old
    kept-long h = kept 1 _ new old (number-long h) refl

    pub kept-short : (length p + length r ≡ 0 → ⊥) → length p + length r ≤ 255 → room < length p + length r + 5
        → old ≡ changed_by (write_number (length (p ++ r)) room) new old
    kept-short z l h = kept 4 _ new old (number_short z l h) refl

  pub length-good : (length p + length r ≡ 0 → ⊥) → length p + length r ≤ 255 → length p + length r + 5 ≤ room
      → length p + length r + 5 ≡ changed_by (write_number (length (p ++ r)) room) (length (p ++ r) + 5) 0
  length-good z l h = changed _ _ (length (p ++ r) + 5) 0 (number-good z l h) (rw two)

-- A frame written into 260 bytes or more
module _ (a : Addresses) (end : End) (d o : List ℕ) (some : 0 < length d) (most : length d ≤ 255) (room : frame_most ≤ length o) where
  fits : write_number (length d) (length o) ≡ 0
  fits = sym (number-good [] d (length o) (omega arith) (omega arith) (omega arith))

  pub written-length : (w : Written) → w ≡ write_result d (length o) → w.len ≡ length (frame_of a end d)
  unfolding write_result
  written-length w e = rw (e, fits) (sym (length-frame a end d))

  pub written_out : (o' : List ℕ) → o' ≡ write_out a end d o → o' ≡ front (frame_of a end d) o
  unfolding write_out
  written_out o' e = rw fits at e

-- A frame of some data within bounds goes out, or does not fit

module _ (a : Addresses) (end : End) (d o : List ℕ) (some : 0 < length d) (most : length d ≤ 255) where
  number-sends : write_number (length d) (length o) ≡ send_number (frame_of a end d) (length o)
  unfolding write_number send_number
  number-sends = rw (lt-ltb 0 (length d) some, le-leb (length d) 255 most, length-frame a end d)

  pub written-sends : (w : Written) → w ≡ write_result d (length o) → w ≡ send_result (frame_of a end d) (length o)
  unfolding write_result send_result
  written-sends w e = rw (← number-sends, length-frame a end d) e

  pub written-sent : (o' : List ℕ) → o' ≡ write_out a end d o → o' ≡ send_out (frame_of a end d) o
  unfolding write_out send_out
  written-sent o' e = rw (← number-sends) e

-- and one that fits
module _ (f o : List ℕ) (fits : length f ≤ length o) where
  pub sent-whole : (w : Written) → w ≡ send_result f (length o) → w.len ≡ length f
  unfolding send_result send_number
  sent-whole w e = rw (e, le-leb (length f) (length o) fits)

  pub sent_front : (o' : List ℕ) → o' ≡ send_out f o → o' ≡ front f o
  unfolding send_out send_number
  sent_front o' e = rw (le-leb (length f) (length o) fits) at e

-- four stores at the front are the header
pub header_is : (o : List ℕ) (a b c d : ℕ) → 4 ≤ length o → set (set (set (set o 0 a) 1 b) 2 c) 3 d ≡ front (a ∷ b ∷ c ∷ d ∷ []) o
header_is o a b c d h = stores-front (a ∷ b ∷ c ∷ d ∷ []) o (omega arith)

-- a store of one byte
pub put_one : (at x y : ℕ) (o : List ℕ) → at < length o → x ≡ y → set o at x ≡ put at (y ∷ []) o
put_one at x y o h e = rw (← e) (stores-put at (x ∷ []) o (omega arith))

-- header, both parts of the data and the checksum, one behind the other, are the frame
module _ (a : Addresses) (end : End) (p r o o₁ o₂ o₃ o₄ : List ℕ) (t s : ℕ) (z : length p + length r ≡ 0 → ⊥) (l : length p + length r ≤ 255)
    (h : length p + length r + 5 ≤ length o) where
  pub framed : t ≡ target a end → s ≡ source a end → o₁ ≡ front (0x80 ∷ t ∷ s ∷ (length p + length r) ∷ []) o → o₂ ≡ put 4 p o₁ → o₃ ≡ put (length p + 4) r o₂
      → o₄ ≡ put (length p + length r + 4) (checksum_of (take (length p + length r + 4) o₃) ∷ []) o₃
      → o₄ ≡ changed_by (write_number (length (p ++ r)) (length o)) (front (frame_of a end (p ++ r)) o) o
  unfolding frame_of closed
  framed et es e₁ e₂ e₃ e₄ =
      let e = length-append p r in
      let b : List ℕ = 0x80 ∷ target a end ∷ source a end ∷ length (p ++ r) ∷ (p ++ r) in
      let q : List ℕ = 0x80 ∷ target a end ∷ source a end ∷ length (p ++ r) ∷ [] in
      let k : length b ≡ length p + length r + 4 = omega arith in
      let f₁ : o₁ ≡ front q o = rw (e, ← et, ← es) e₁ in
      let f₂ : o₂ ≡ front (q ++ p) o = e₂ ∙ ap (put 4 p) f₁ ∙ put_front 4 q p o refl in
      let f₃ : o₃ ≡ front b o = e₃ ∙ ap (put (length p + 4) r) f₂ ∙ put_front (length p + 4) (q ++ p) r o (omega arith) in
      let f₄ : o₄ ≡ front (b ++ (checksum_of b ∷ [])) o =
      rw (e₄, f₃, take-front (length p + length r + 4) b o k) (put_front (length p + length r + 4) b _ o k) in
      changed _ o₄ (front (b ++ (checksum_of b ∷ [])) o) o (number-good p r (length o) z l h) f₄

-- the five-byte start: a buffer that is too short for it, or its bytes f, which are copied
module _ (a : Addresses) (o : List ℕ) where
  pub start-short : length o < 5 → (◌≡◌ {A = Written} (record { number = 4; len = 0 }) (send_result (start_frame a) (length o))) × (o ≡ send_out (start_frame a) o)
  unfolding closed send_number send_result send_out
  start-short h = rw (lt-leb 5 (length o) h) (refl, refl)

  pub start-written : (f o' : List ℕ) → 5 ≤ length o → f ≡ start_frame a → o' ≡ copied f o
      → (◌≡◌ {A = Written} (record { number = 0; len = 5 }) (send_result (start_frame a) (length o))) × (o' ≡ send_out (start_frame a) o)
  unfolding closed send_number send_result send_out
  start-written f o' h q e = rw (le-leb 5 (length o) h) (refl, e ∙ ap (λ (g : List ℕ). copied g o) q ∙ copied-fits (start_frame a) o (omega arith))

pub start_is : (a : Addresses) (sum : ℕ) → sum ≡ checksum_of (0x81 ∷ a.unit ∷ a.tool ∷ 0x81 ∷ []) → 0x81 ∷ a.unit ∷ a.tool ∷ 0x81 ∷ sum ∷ [] ≡ start_frame a
unfolding closed
start_is a sum e = rw e

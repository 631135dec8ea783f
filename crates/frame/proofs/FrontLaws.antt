-- The length of the frame at the front, from the tests of the code, and of every good frame.
use Prim.Native.Nat.{ℕ, zero, suc, ◌+◌, ◌<◌, ◌≤◌}
use mathlib.Core.Bool.{Bool, true, false, ◌||◌}
use mathlib.Core.List.{List, [], ◌++◌, append-nil}
use mathlib.Core.Logic.{◌⊎◌, inl, inr, ⊎_elim}
use mathlib.Core.Path.{◌≡◌, refl, sym, ◌∙◌}
use native.Mathlib.Omega.{arith}
use native.Mathlib.Decide.{dec_lt}
use lib.Dec.{eqb}
use lib.ListN.{length, get_or, take, length-append, get_or-append}
use lib.Seq.{length-take-le, get_or-take, take_all}
use borrow.Author.Tests.{le-leb, lt-leb, eq-eqb, ne_eqb, eqb-true}
use Rattle.octets.proofs.Tests.{never}
use Rattle.frame.specs.declared.End.{End}
use Rattle.frame.specs.declared.Addresses.{Addresses}
use Rattle.frame.specs.Frame.{judged}
use Rattle.frame.specs.Front.{frame_length}
use Rattle.frame.proofs.CheckLaws.{good, count-start, count-general}

module _ (s : List ℕ) where
  pub front-none : length s ≡ 0 → 0 ≡ frame_length s
  unfolding frame_length
  front-none e = rw e

  module _ (some : length s ≡ 0 → ⊥) where
    pub front-start : get_or s 0 0 ≡ 0x81 → 5 ≡ frame_length s
    unfolding frame_length
    front-start e = rw (ne_eqb (length s) 0 some, e)

    module _ (general : get_or s 0 0 ≡ 0x80) where
      pub front-few : length s < 4 → 0 ≡ frame_length s
      unfolding frame_length
      front-few l = rw (ne_eqb (length s) 0 some, general, lt-leb 4 (length s) l)

      pub front_long : (n : ℕ) → 4 ≤ length s → n ≡ get_or s 3 0 → n + 5 ≡ frame_length s
      unfolding frame_length
      front_long n l e = rw (ne_eqb (length s) 0 some, general, le-leb 4 (length s) l, e)

-- Every good frame: its first bytes tell its length, whatever stands behind it

module _ (a : Addresses) (end : End) (f : List ℕ) (right : judged a end f ≡ 0) (s : List ℕ) (first : get_or s 0 0 ≡ get_or f 0 0) (some : length s ≡ 0 → ⊥) where
  told-start : get_or f 0 0 ≡ 0x81 → frame_length s ≡ length f
  told-start e = sym (front-start s some (first ∙ e)) ∙ sym (count-start f (good a end f right).count (eq-eqb (get_or f 0 0) 0x81 e))

  told-len : get_or f 0 0 ≡ 0x80 → 4 ≤ length s → get_or s 3 0 ≡ get_or f 3 0 → frame_length s ≡ length f
  told-len e l q =
      sym (front_long s some (first ∙ e) (get_or f 3 0) l (sym q))
      ∙ sym (count-general f (good a end f right).count (ne_eqb (get_or f 0 0) 0x81 (λ z. omega arith)))

  not-told : get_or f 0 0 ≡ 0x80 → length s < 4 → frame_length s ≡ 0
  not-told e l = sym (front-few s some (first ∙ e) l)

module _ (a : Addresses) (end : End) (f : List ℕ) (right : judged a end f ≡ 0) where
  long : 5 ≤ length f
  long = (good a end f right).five

  first_byte : (get_or f 0 0 ≡ 0x81) ⊎ (get_or f 0 0 ≡ 0x80)
  first_byte = go (eqb (get_or f 0 0) 0x80) (eqb (get_or f 0 0) 0x81) refl refl (good a end f right).format
    where
      go : (x y : Bool) → eqb (get_or f 0 0) 0x80 ≡ x → eqb (get_or f 0 0) 0x81 ≡ y → (x || y) ≡ true → (get_or f 0 0 ≡ 0x81) ⊎ (get_or f 0 0 ≡ 0x80)
      go true y p q h = inr (eqb-true _ _ p)
      go false true p q h = inl (eqb-true _ _ q)
      go false false p q h = never (cc)

  pub front-whole : (rest : List ℕ) → frame_length (f ++ rest) ≡ length f
  front-whole rest =
      let l = long in
      let n : length (f ++ rest) ≡ length f + length rest = length-append f rest in
      let byte : (i : ℕ) → i < 5 → get_or (f ++ rest) i 0 ≡ get_or f i 0 = λ i h. get_or-append f rest 0 i (omega arith) in
      ⊎_elim
      (λ e. told-start a end f right (f ++ rest) (byte 0 (omega arith)) (λ z. omega arith) e)
      (λ e. told-len a end f right (f ++ rest) (byte 0 (omega arith)) (λ z. omega arith) e (omega arith) (byte 3 (omega arith)))
      first_byte

  -- of its first n bytes it is told, or not told yet
  front-some : (n : ℕ) → 0 < n → n ≤ length f → (frame_length (take n f) ≡ 0) ⊎ (frame_length (take n f) ≡ length f)
  front-some n some h =
      let k : length (take n f) ≡ n = length-take-le n f h in
      let first : get_or (take n f) 0 0 ≡ get_or f 0 0 = get_or-take n f 0 0 some in
      ⊎_elim
      (λ e. inr (told-start a end f right (take n f) first (λ z. omega arith) e))
      (λ e.
      elim (dec_lt n 4) as (λ _. (frame_length (take n f) ≡ 0) ⊎ (frame_length (take n f) ≡ length f)) [
        | yes l ↦ inl (not-told a end f right (take n f) first (λ z. omega arith) e (omega arith))
        | no l ↦ inr (told-len a end f right (take n f) first (λ z. omega arith) e (omega arith) (get_or-take n f 3 0 (omega arith)))
      ])
      first_byte

  pub front-part : (n : ℕ) → (frame_length (take n f) ≡ 0) ⊎ (frame_length (take n f) ≡ length f)
  front-part zero = inl (sym (front-none [] refl))
  front-part (suc n) =
      elim (dec_lt (length f) (suc n)) as (λ _. (frame_length (take (suc n) f) ≡ 0) ⊎ (frame_length (take (suc n) f) ≡ length f)) [
        | yes l ↦ inr (rw (take_all (suc n) f (omega arith)) (rw (append-nil f) at (front-whole [])))
        | no l ↦ front-some (suc n) (omega arith) (omega arith)
      ]

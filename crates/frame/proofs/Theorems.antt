-- What holds of every frame: written ones are good at the other end and read back, one changed byte is refused, and so is a frame cut short.
use Prim.Native.Nat.{ℕ, ◌+◌, ◌-◌, ◌<◌, ◌≤◌}
use mathlib.Core.Bool.{Bool, true, false}
use mathlib.Core.List.{List, [], ◌∷◌, ◌++◌}
use mathlib.Core.Logic.{◌≢◌}
use mathlib.Core.Path.{◌≡◌, refl, sym, ap, ◌∙◌}
use native.Mathlib.Omega.{arith}
use native.Mathlib.Decide.{dec_lt}
use lib.Dec.{eqb}
use lib.ListN.{length, get_or, take, set, length-append, length-set, length-take}
use lib.Seq.{take-append_seam, get_or-append_seam, take-set-lt, take-set-le, get_or-set_same, get_or-set_other, get_or-take, length-take-le}
use borrow.Author.Tests.{lt-ltb, le-leb, eq-eqb, eqb-true}
use Rattle.octets.specs.Sum.{checksum_of}
use Rattle.octets.proofs.SumLaws.{total-set}
use Rattle.octets.proofs.Tests.{and_left, and_right}
use Rattle.frame.specs.Frame.{is_start, target, source, closed, frame_of, count_right, start_right, addressed, checksum_right, judged, data_place, data_of}
use Rattle.frame.specs.Messages.{start_frame}
use Rattle.frame.specs.declared.End.{End}
use Rattle.frame.specs.declared.End.TheVariants as ends
use Rattle.frame.specs.declared.Addresses.{Addresses}
use Rattle.frame.proofs.WriteLaws.{length-frame}
use Rattle.frame.proofs.CheckLaws.{Good, good, good-sum, count-start, count-general}

-- the last byte is compared with the sum of those before it
pub sum_is : (b : List ℕ) (last : ℕ) → checksum_right (b ++ (last ∷ [])) ≡ eqb (checksum_of b) last
unfolding checksum_right
sum_is b last =
    let n : length (b ++ (last ∷ [])) - 1 ≡ length b = simp length-append (omega arith) in
    rw (n, take-append_seam, get_or-append_seam)

pub closed-sum : (b : List ℕ) → checksum_right (closed b) ≡ true
unfolding closed
closed-sum b = sum_is b (checksum_of b) ∙ eq-eqb (checksum_of b) _ refl

module _ (a : Addresses) (end : End) (d : List ℕ) (some : 0 < length d) (most : length d ≤ 255) where
  -- a written frame is judged 0 at the end that it goes to
  pub write-then-check : judged a end (frame_of a end d) ≡ 0
  unfolding judged count_right addressed frame_of closed
  write-then-check =
      let f : List ℕ = frame_of a end d in
      simp (
        le-leb 5 (length f) (omega (arith, length-frame a end d)),
        lt-ltb 0 (length d) some,
        eq-eqb (length f) (length d + 5) (length-frame a end d),
        eq-eqb (target a end) (target a end) refl,
        eq-eqb (source a end) (source a end) refl,
        closed-sum (0x80 ∷ target a end ∷ source a end ∷ length d ∷ d),
      )

  -- and its data reads back
  pub data-reads-back : data_of a end (frame_of a end d) ≡ d
  unfolding data_of data_place frame_of closed
  data-reads-back = rw write-then-check (take-append_seam d _)

-- the start frame is good at the unit, for any two addresses, and carries its SID
pub start-good : (a : Addresses) → judged a ends.Unit (start_frame a) ≡ 0
unfolding judged count_right addressed start_right closed
start-good a = simp (eq-eqb a.unit a.unit refl, eq-eqb a.tool a.tool refl, closed-sum (0x81 ∷ a.unit ∷ a.tool ∷ 0x81 ∷ []))

pub start-data : (a : Addresses) → data_of a ends.Unit (start_frame a) ≡ 0x81 ∷ []
unfolding data_of data_place closed
start-data a = rw start-good

-- "One changed byte .. is always refused"
module _ (a : Addresses) (end : End) (f : List ℕ) (right : judged a end f ≡ 0) (i b : ℕ) (inside : i < length f) (byte : b < 256)
    (was : get_or f i 0 < 256) (other : b ≢ get_or f i 0) where
  pub changed-refused : judged a end (set f i b) ≢ 0
  changed-refused again =
      let n = length f - 1 in
      let e₁ = good-sum a end f right in
      let e₂ : checksum_of (take n (set f i b)) ≡ get_or (set f i b) n 0 = simp length-set at (good-sum a end (set f i b) again) in
      elim (dec_lt i n) as (λ _. ⊥) [
        | yes h ↦
            let g : get_or (take n f) i 0 ≡ get_or f i 0 = get_or-take n f i 0 h in
            let k : get_or (set f i b) n 0 ≡ get_or f n 0 = get_or-set_other f i n b 0 (omega arith) in
            let z : checksum_of (set (take n f) i b) ≡ get_or f n 0 = rw (take-set-lt n f i b h, k) at e₂ in
            omega (arith, total-set (take n f) i b (simp length-take (omega arith)))
        | no h ↦
            let q : i ≡ n = omega arith in
            let s : get_or (set f i b) n 0 ≡ b = ap (λ (j : ℕ). get_or (set f i b) j 0) (sym q) ∙ get_or-set_same f i b 0 inside in
            let z : checksum_of (take n f) ≡ b = rw (take-set-le n f i b (omega arith)) at e₂ ∙ s in
            omega (arith, ap (λ (j : ℕ). get_or f j 0) q)
      ]

-- "or bytes cut off the end, is always refused": the five-byte start frame included
module _ (a : Addresses) (end : End) (f : List ℕ) (right : judged a end f ≡ 0) (n : ℕ) (short : n < length f) where
  pub cut-refused : judged a end (take n f) ≢ 0
  cut-refused again =
      let g = good a end f right in
      let h = good a end (take n f) again in
      let m : length (take n f) ≡ n = length-take-le n f (omega arith) in
      let five : 5 ≤ n = omega (arith, h.five) in
      let zero : get_or (take n f) 0 0 ≡ get_or f 0 0 = get_or-take n f 0 0 (omega arith) in
      let three : get_or (take n f) 3 0 ≡ get_or f 3 0 = get_or-take n f 3 0 (omega arith) in
      go (is_start f) refl g h m zero three
    where
      go : (t : Bool) → is_start f ≡ t → Good a end f → Good a end (take n f) → length (take n f) ≡ n → get_or (take n f) 0 0 ≡ get_or f 0 0
          → get_or (take n f) 3 0 ≡ get_or f 3 0 → ⊥
      go true e g h m zero three =
          let s : is_start (take n f) ≡ true = rw zero e in
          omega (arith, count-start f g.count e, count-start (take n f) h.count s)
      go false e g h m zero three =
          let s : is_start (take n f) ≡ false = rw zero e in
          omega (arith, count-general f g.count e, count-general (take n f) h.count s)

-- "Number 2 is then given when a frame's addresses are not those two in the right direction" (document 02, Req 05): a good frame is 2 wherever another target
-- or another source is right
module _ (a b : Addresses) (end end' : End) (f : List ℕ) (right : judged a end f ≡ 0)
    (other : target b end' ≡ target a end → source b end' ≡ source a end → ⊥) where
  targets : (c : Addresses) (e : End) → addressed c e f ≡ true → get_or f 1 0 ≡ target c e
  unfolding addressed
  targets c e h = eqb-true _ _ (and_left (eqb (get_or f 1 0) (target c e)) _ h)

  sources : (c : Addresses) (e : End) → addressed c e f ≡ true → get_or f 2 0 ≡ source c e
  unfolding addressed
  sources c e h = eqb-true _ _ (and_left (eqb (get_or f 2 0) (source c e)) _ (and_right (eqb (get_or f 1 0) (target c e)) _ h))

  not-addressed : addressed b end' f ≡ false
  not-addressed = go (addressed b end' f) refl (good a end f right).address
    where
      go : (t : Bool) → addressed b end' f ≡ t → addressed a end f ≡ true → addressed b end' f ≡ false
      go true e h = absurd (other (sym (targets b end' e) ∙ targets a end h) (sym (sources b end' e) ∙ sources a end h))
      go false e h = e

  elsewhere : judged b end' f ≡ 2
  unfolding judged
  elsewhere =
      let g = good a end f right in
      rw (le-leb 5 (length f) g.five, g.format, g.count, not-addressed)

-- at any other two addresses
module _ (a b : Addresses) where
  not-both : (end : End) → (b.unit ≡ a.unit → b.tool ≡ a.tool → ⊥) → target b end ≡ target a end → source b end ≡ source a end → ⊥
  not-both ends.Unit n t s = n t s
  not-both ends.Tool n t s = n s t

  pub others-refused : (end : End) (f : List ℕ) → judged a end f ≡ 0 → (b.unit ≡ a.unit → b.tool ≡ a.tool → ⊥) → judged b end f ≡ 2
  others-refused end f right n = elsewhere a b end end f right (not-both end n)

-- and at the other end
module _ (a : Addresses) (n : a.unit ≢ a.tool) (f : List ℕ) where
  pub to-unit-refused : judged a ends.Unit f ≡ 0 → judged a ends.Tool f ≡ 2
  to-unit-refused right = elsewhere a a ends.Unit ends.Tool f right (λ t s. n (sym t))

  pub to-tool-refused : judged a ends.Tool f ≡ 0 → judged a ends.Unit f ≡ 2
  to-tool-refused right = elsewhere a a ends.Tool ends.Unit f right (λ t s. n t)

-- A string at other addresses: its number and its data are those of the string that it comes from, and a written frame becomes the one written there.
use Prim.Native.Nat.{ℕ, ◌+◌, ◌-◌, ◌%◌, ◌<◌, ◌≤◌}
use mathlib.Core.Bool.{Bool, true, false, cond}
use mathlib.Core.List.{List, [], ◌∷◌, ◌++◌}
use mathlib.Core.Path.{◌≡◌, refl, sym, ap, ◌∙◌}
use native.Mathlib.Omega.{arith}
use native.Mathlib.Decide.{dec_lt}
use lib.Dec.{eqb, leb}
use lib.ListN.{length, get_or, take, length-append}
use lib.Seq.{take-append_seam}
use borrow.Author.Tests.{le-leb, lt-leb, eq-eqb, ne_eqb, eqb-true, eqb-false}
use Rattle.octets.specs.Sum.{checksum_of}
use Rattle.octets.specs.Buffer.{part_at}
use Rattle.frame.specs.declared.End.{End}
use Rattle.frame.specs.declared.End.TheVariants as ends
use Rattle.frame.specs.declared.Addresses.{Addresses}
use Rattle.frame.specs.Frame.{target, source, closed, frame_of, count_right, start_right, addressed, checksum_right, judged}
use Rattle.frame.specs.Frame.{data_place, data_of}
use Rattle.frame.specs.Messages.{start_frame}
use Rattle.frame.specs.Readdressed.{exchanged, closed_as, readdressed}
use Rattle.frame.proofs.CheckLaws.{good, count-general}
use Rattle.frame.proofs.Theorems.{sum_is}

-- five bytes or more: the first four, some more, and CS
record Whole (s : List ℕ) : Type 0 where
  pub first : ℕ
  pub second : ℕ
  pub third : ℕ
  pub fourth : ℕ
  pub inner : List ℕ
  pub last : ℕ
  pub is : s ≡ first ∷ second ∷ third ∷ fourth ∷ (inner ++ (last ∷ []))

record Ended (t : List ℕ) : Type 0 where
  pub inner : List ℕ
  pub last : ℕ
  pub is : t ≡ inner ++ (last ∷ [])

ended : (t : List ℕ) → 0 < length t → Ended t
ended [] h = absurd (omega arith)
ended (x ∷ []) h = record { inner = []; last = x; is = refl }
ended (x ∷ y ∷ t) h =
    let e = ended (y ∷ t) (omega arith) in
    record { inner = x ∷ e.inner; last = e.last; is = ap (λ (r : List ℕ). x ∷ r) e.is }

whole : (s : List ℕ) → 5 ≤ length s → Whole s
whole [] h = absurd (omega arith)
whole (p ∷ []) h = absurd (omega arith)
whole (p ∷ q ∷ []) h = absurd (omega arith)
whole (p ∷ q ∷ r ∷ []) h = absurd (omega arith)
whole (p ∷ q ∷ r ∷ t ∷ s) h =
    let e = ended s (omega arith) in
    record { first = p; second = q; third = r; fourth = t; inner = e.inner; last = e.last; is = ap (λ (l : List ℕ). p ∷ q ∷ r ∷ t ∷ l) e.is }

-- an address is the one exchanged for it, and another stays another
exchanged-is : (p q x : ℕ) → eqb (exchanged p q x) q ≡ eqb x p
unfolding exchanged
exchanged-is p q x = go (eqb x p) refl (eqb x q) refl
  where
    go : (t : Bool) → eqb x p ≡ t → (u : Bool) → eqb x q ≡ u → eqb (cond t q (cond u p x)) q ≡ t
    go true e u f = eq-eqb q q refl
    go false e true f =
        let x-is-q = eqb-true x q f in
        ap (λ (y : ℕ). eqb p y) (sym x-is-q) ∙ ne_eqb p x (λ k. eqb-false x p e (sym k))
    go false e false f = f

exchanged-here : (p q : ℕ) → exchanged p q p ≡ q
unfolding exchanged
exchanged-here p q = rw (eq-eqb p p refl)

exchanged-back : (p q x : ℕ) → exchanged p q (exchanged q p x) ≡ x
unfolding exchanged
exchanged-back p q x = go (eqb x q) refl (eqb x p) refl
  where
    go : (t : Bool) → eqb x q ≡ t → (u : Bool) → eqb x p ≡ u
        → cond (eqb (cond t p (cond u q x)) p) q (cond (eqb (cond t p (cond u q x)) q) p (cond t p (cond u q x))) ≡ x
    go true e u f = rw (eq-eqb p p refl) (sym (eqb-true x q e))
    go false e true f =
        let x-is-p = eqb-true x p f in
        rw (ne_eqb q p (λ k. eqb-false x q e (x-is-p ∙ sym k)), eq-eqb q q refl) (sym x-is-p)
    go false e false f = rw (f, e)

-- CS is right where it was to be
closed-as : (right : Bool) (body : List ℕ) → checksum_right (closed_as right body) ≡ right
unfolding closed_as
closed-as right body = sum_is body _ ∙ go right
  where
    go : (t : Bool) → eqb (checksum_of body) (cond t (checksum_of body) ((checksum_of body + 1) % 256)) ≡ t
    go true = eq-eqb (checksum_of body) _ refl
    go false = ne_eqb (checksum_of body) _ (λ e. omega arith)

-- the rule of the start looks at the SID alone
start-same : (end : End) (x₀ p q r t x₃ : ℕ) (l l' : List ℕ) → start_right end (x₀ ∷ p ∷ q ∷ x₃ ∷ l) ≡ start_right end (x₀ ∷ r ∷ t ∷ x₃ ∷ l')
unfolding start_right
start-same ends.Unit x₀ p q r t x₃ l l' = refl
start-same ends.Tool x₀ p q r t x₃ l l' = refl

-- A string of five bytes or more, in its parts; z is its CS
module _ (a b : Addresses) (end : End) (x₀ x₁ x₂ x₃ : ℕ) (m : List ℕ) where
  to : ℕ
  to = exchanged (target a end) (target b end) x₁

  from : ℕ
  from = exchanged (source a end) (source b end) x₂

  readdressed-is : (z : ℕ)
      → readdressed a b end (x₀ ∷ x₁ ∷ x₂ ∷ x₃ ∷ (m ++ (z ∷ []))) ≡ closed_as (eqb (checksum_of (x₀ ∷ x₁ ∷ x₂ ∷ x₃ ∷ m)) z) (x₀ ∷ to ∷ from ∷ x₃ ∷ m)
  unfolding readdressed to from
  readdressed-is z =
      let s : List ℕ = (x₀ ∷ x₁ ∷ x₂ ∷ x₃ ∷ m) ++ (z ∷ []) in
      let n : length s - 1 ≡ length (x₀ ∷ x₁ ∷ x₂ ∷ x₃ ∷ m) = simp length-append (omega arith) in
      let k : take (length s - 1) s ≡ x₀ ∷ x₁ ∷ x₂ ∷ x₃ ∷ m = rw n (take-append_seam (x₀ ∷ x₁ ∷ x₂ ∷ x₃ ∷ m) _) in
      let five : leb 5 (length s) ≡ true = le-leb 5 (length s) (simp length-append (omega arith)) in
      rw (five, sum_is (x₀ ∷ x₁ ∷ x₂ ∷ x₃ ∷ m) z, k)

  -- with another CS c at b
  module _ (z c : ℕ) where
    length-same : length (x₀ ∷ to ∷ from ∷ x₃ ∷ (m ++ (c ∷ []))) ≡ length (x₀ ∷ x₁ ∷ x₂ ∷ x₃ ∷ (m ++ (z ∷ [])))
    length-same = simp length-append

    count_same : count_right (x₀ ∷ to ∷ from ∷ x₃ ∷ (m ++ (c ∷ []))) ≡ count_right (x₀ ∷ x₁ ∷ x₂ ∷ x₃ ∷ (m ++ (z ∷ [])))
    unfolding count_right
    count_same = rw length-same

    addressed-same : addressed b end (x₀ ∷ to ∷ from ∷ x₃ ∷ (m ++ (c ∷ []))) ≡ addressed a end (x₀ ∷ x₁ ∷ x₂ ∷ x₃ ∷ (m ++ (z ∷ [])))
    unfolding addressed to from
    addressed-same =
        rw (
          exchanged-is (target a end) (target b end) x₁,
          exchanged-is (source a end) (source b end) x₂,
          start-same end x₀ to from x₁ x₂ x₃ (m ++ (c ∷ [])) (m ++ (z ∷ [])),
        )

    judged-same : checksum_right (x₀ ∷ to ∷ from ∷ x₃ ∷ (m ++ (c ∷ []))) ≡ checksum_right (x₀ ∷ x₁ ∷ x₂ ∷ x₃ ∷ (m ++ (z ∷ [])))
        → judged b end (x₀ ∷ to ∷ from ∷ x₃ ∷ (m ++ (c ∷ []))) ≡ judged a end (x₀ ∷ x₁ ∷ x₂ ∷ x₃ ∷ (m ++ (z ∷ [])))
    unfolding judged
    judged-same e = rw (length-same, count_same, addressed-same, e)

    good-same : (t : Bool) → eqb x₀ 0x81 ≡ t → count_right (x₀ ∷ x₁ ∷ x₂ ∷ x₃ ∷ (m ++ (z ∷ []))) ≡ true
        → part_at (cond t 3 4) (cond t 1 x₃) (x₀ ∷ to ∷ from ∷ x₃ ∷ (m ++ (c ∷ [])))
        ≡ part_at (cond t 3 4) (cond t 1 x₃) (x₀ ∷ x₁ ∷ x₂ ∷ x₃ ∷ (m ++ (z ∷ [])))
    good-same true e h = refl
    good-same false e h =
        let n : length m ≡ x₃ = omega (arith, count-general (x₀ ∷ x₁ ∷ x₂ ∷ x₃ ∷ (m ++ (z ∷ []))) h e, length-append m (z ∷ [])) in
        rw (← n) (take-append_seam m _ ∙ sym (take-append_seam m _))

    -- the data lies at the same place, and CS is not in it
    data-same : judged b end (x₀ ∷ to ∷ from ∷ x₃ ∷ (m ++ (c ∷ []))) ≡ judged a end (x₀ ∷ x₁ ∷ x₂ ∷ x₃ ∷ (m ++ (z ∷ [])))
        → data_of b end (x₀ ∷ to ∷ from ∷ x₃ ∷ (m ++ (c ∷ []))) ≡ data_of a end (x₀ ∷ x₁ ∷ x₂ ∷ x₃ ∷ (m ++ (z ∷ [])))
    unfolding data_of data_place
    data-same e = rw e (go (eqb (judged a end (x₀ ∷ x₁ ∷ x₂ ∷ x₃ ∷ (m ++ (z ∷ [])))) 0) refl)
      where
        go : (t : Bool) → eqb (judged a end (x₀ ∷ x₁ ∷ x₂ ∷ x₃ ∷ (m ++ (z ∷ [])))) 0 ≡ t
            → part_at (cond t (cond (eqb x₀ 0x81) 3 4) 0) (cond t (cond (eqb x₀ 0x81) 1 x₃) 0) (x₀ ∷ to ∷ from ∷ x₃ ∷ (m ++ (c ∷ [])))
            ≡ part_at (cond t (cond (eqb x₀ 0x81) 3 4) 0) (cond t (cond (eqb x₀ 0x81) 1 x₃) 0) (x₀ ∷ x₁ ∷ x₂ ∷ x₃ ∷ (m ++ (z ∷ [])))
        go true e = good-same (eqb x₀ 0x81) refl (good a end _ (eqb-true _ 0 e)).count
        go false e = refl

-- Every string

module _ (a b : Addresses) (end : End) where
  -- under five bytes: as it was, and refused at any two addresses
  short-stays : (s : List ℕ) → length s < 5 → readdressed a b end s ≡ s
  unfolding readdressed
  short-stays s h = rw (lt-leb 5 (length s) h)

  short-number : (c : Addresses) (s : List ℕ) → length s < 5 → judged c end s ≡ 1
  unfolding judged
  short-number c s h = rw (lt-leb 5 (length s) h)

  short-data : (c : Addresses) (s : List ℕ) → length s < 5 → data_of c end s ≡ []
  unfolding data_of data_place
  short-data c s h = rw (short-number c s h)

  -- in its parts
  whole-number : (x₀ x₁ x₂ x₃ : ℕ) (m : List ℕ) (z : ℕ)
      → judged b end (readdressed a b end (x₀ ∷ x₁ ∷ x₂ ∷ x₃ ∷ (m ++ (z ∷ [])))) ≡ judged a end (x₀ ∷ x₁ ∷ x₂ ∷ x₃ ∷ (m ++ (z ∷ [])))
  unfolding closed_as
  whole-number x₀ x₁ x₂ x₃ m z =
      ap (judged b end) (readdressed-is a b end x₀ x₁ x₂ x₃ m z)
      ∙ judged-same a b end x₀ x₁ x₂ x₃ m z _
      (closed-as _ (x₀ ∷ to a b end x₀ x₁ x₂ x₃ m ∷ from a b end x₀ x₁ x₂ x₃ m ∷ x₃ ∷ m) ∙ sym (sum_is (x₀ ∷ x₁ ∷ x₂ ∷ x₃ ∷ m) z))

  whole-data : (x₀ x₁ x₂ x₃ : ℕ) (m : List ℕ) (z : ℕ)
      → data_of b end (readdressed a b end (x₀ ∷ x₁ ∷ x₂ ∷ x₃ ∷ (m ++ (z ∷ [])))) ≡ data_of a end (x₀ ∷ x₁ ∷ x₂ ∷ x₃ ∷ (m ++ (z ∷ [])))
  unfolding closed_as
  whole-data x₀ x₁ x₂ x₃ m z =
      let r = readdressed-is a b end x₀ x₁ x₂ x₃ m z in
      ap (data_of b end) r ∙ data-same a b end x₀ x₁ x₂ x₃ m z _ (sym (ap (judged b end) r) ∙ whole-number x₀ x₁ x₂ x₃ m z)

  -- the first byte, which tells the form
  whole-first : (x₀ x₁ x₂ x₃ : ℕ) (m : List ℕ) (z : ℕ) → get_or (readdressed a b end (x₀ ∷ x₁ ∷ x₂ ∷ x₃ ∷ (m ++ (z ∷ [])))) 0 0 ≡ x₀
  unfolding closed_as
  whole-first x₀ x₁ x₂ x₃ m z = ap (λ (r : List ℕ). get_or r 0 0) (readdressed-is a b end x₀ x₁ x₂ x₃ m z)

  whole_length : (x₀ x₁ x₂ x₃ : ℕ) (m : List ℕ) (z : ℕ)
      → length (readdressed a b end (x₀ ∷ x₁ ∷ x₂ ∷ x₃ ∷ (m ++ (z ∷ [])))) ≡ length (x₀ ∷ x₁ ∷ x₂ ∷ x₃ ∷ (m ++ (z ∷ [])))
  unfolding closed_as
  whole_length x₀ x₁ x₂ x₃ m z = ap length (readdressed-is a b end x₀ x₁ x₂ x₃ m z) ∙ length-same a b end x₀ x₁ x₂ x₃ m z _

  module _ (s : List ℕ) where
    pub readdressed-number : judged b end (readdressed a b end s) ≡ judged a end s
    readdressed-number = elim (dec_lt (length s) 5) as (λ _. judged b end (readdressed a b end s) ≡ judged a end s) [
      | yes h ↦ rw (short-stays s h) (short-number b s h ∙ sym (short-number a s h))
      | no h ↦ let w = whole s (omega arith) in rw w.is (whole-number w.first w.second w.third w.fourth w.inner w.last)
    ]

    pub readdressed-data : data_of b end (readdressed a b end s) ≡ data_of a end s
    readdressed-data = elim (dec_lt (length s) 5) as (λ _. data_of b end (readdressed a b end s) ≡ data_of a end s) [
      | yes h ↦ rw (short-stays s h) (short-data b s h ∙ sym (short-data a s h))
      | no h ↦ let w = whole s (omega arith) in rw w.is (whole-data w.first w.second w.third w.fourth w.inner w.last)
    ]

    pub readdressed-first : get_or (readdressed a b end s) 0 0 ≡ get_or s 0 0
    readdressed-first = elim (dec_lt (length s) 5) as (λ _. get_or (readdressed a b end s) 0 0 ≡ get_or s 0 0) [
      | yes h ↦ rw (short-stays s h)
      | no h ↦ let w = whole s (omega arith) in rw w.is (whole-first w.first w.second w.third w.fourth w.inner w.last)
    ]

    pub readdressed-length : length (readdressed a b end s) ≡ length s
    readdressed-length = elim (dec_lt (length s) 5) as (λ _. length (readdressed a b end s) ≡ length s) [
      | yes h ↦ rw (short-stays s h)
      | no h ↦ let w = whole s (omega arith) in rw w.is (whole_length w.first w.second w.third w.fourth w.inner w.last)
    ]

  pub readdressed-none : readdressed a b end [] ≡ []
  readdressed-none = short-stays [] (omega arith)

  -- a written frame becomes the one written at b
  pub readdressed-frame : (d : List ℕ) → readdressed a b end (frame_of a end d) ≡ frame_of b end d
  unfolding frame_of closed closed_as to from
  readdressed-frame d =
      let sum = checksum_of (0x80 ∷ target a end ∷ source a end ∷ length d ∷ d) in
      readdressed-is a b end 0x80 (target a end) (source a end) (length d) d sum
      ∙ rw (eq-eqb sum sum refl, exchanged-here (target a end) (target b end), exchanged-here (source a end) (source b end))

pub readdressed-start : (a b : Addresses) → readdressed a b ends.Unit (start_frame a) ≡ start_frame b
unfolding closed closed_as to from
readdressed-start a b =
    let sum = checksum_of (0x81 ∷ a.unit ∷ a.tool ∷ 0x81 ∷ []) in
    readdressed-is a b ends.Unit 0x81 a.unit a.tool 0x81 [] sum
    ∙ rw (eq-eqb sum sum refl, exchanged-here a.unit b.unit, exchanged-here a.tool b.tool)

-- a good string at b is one that comes from a
module _ (a b : Addresses) (end : End) where
  back-parts : (x₀ x₁ x₂ x₃ : ℕ) (m : List ℕ) (z : ℕ) → eqb (checksum_of (x₀ ∷ x₁ ∷ x₂ ∷ x₃ ∷ m)) z ≡ true
      → readdressed a b end (readdressed b a end (x₀ ∷ x₁ ∷ x₂ ∷ x₃ ∷ (m ++ (z ∷ [])))) ≡ x₀ ∷ x₁ ∷ x₂ ∷ x₃ ∷ (m ++ (z ∷ []))
  unfolding closed_as to from
  back-parts x₀ x₁ x₂ x₃ m z right =
      let y₁ = exchanged (target b end) (target a end) x₁ in
      let y₂ = exchanged (source b end) (source a end) x₂ in
      let sum = checksum_of (x₀ ∷ y₁ ∷ y₂ ∷ x₃ ∷ m) in
      let there : readdressed b a end (x₀ ∷ x₁ ∷ x₂ ∷ x₃ ∷ (m ++ (z ∷ []))) ≡ x₀ ∷ y₁ ∷ y₂ ∷ x₃ ∷ (m ++ (sum ∷ [])) =
      readdressed-is b a end x₀ x₁ x₂ x₃ m z ∙ rw right in
      ap (readdressed a b end) there
      ∙ readdressed-is a b end x₀ y₁ y₂ x₃ m sum
      ∙ rw (eq-eqb sum sum refl, exchanged-back (target a end) (target b end) x₁, exchanged-back (source a end) (source b end) x₂, eqb-true _ z right)

  pub readdressed-back : (f : List ℕ) → judged b end f ≡ 0 → readdressed a b end (readdressed b a end f) ≡ f
  readdressed-back f h =
      let w = whole f (good b end f h).five in
      let s : checksum_right f ≡ true = (good b end f h).sum in
      rw w.is (back-parts w.first w.second w.third w.fourth w.inner w.last
      (sym (sum_is (w.first ∷ w.second ∷ w.third ∷ w.fourth ∷ w.inner) w.last) ∙ (rw (← w.is) s)))

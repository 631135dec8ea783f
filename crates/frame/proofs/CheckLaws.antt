-- Judging a frame: the flat laws of the code's returns, and what a caller learns from number 0.
use Prim.Native.Nat.{ℕ, ◌+◌, ◌-◌, ◌≤◌}
use mathlib.Core.Bool.{Bool, true, false, not, and-true}
use mathlib.Core.List.{List}
use mathlib.Core.Path.{◌≡◌, refl, sym, ap, ◌∙◌}
use native.Mathlib.Omega.{arith}
use lib.Dec.{leb, ltb, eqb}
use lib.ListN.{length, get_or, take, drop}
use borrow.Author.Tests.{lt-ltb, le-ltb, eq-eqb, ne_eqb, leb-true, eqb-true}
use Rattle.octets.proofs.CallLaws.{part_of}
use Rattle.octets.proofs.BufferLaws.{part-whole}
use Rattle.octets.proofs.OrderLaws.{unless-is, unless-most}
use Rattle.octets.proofs.Tests.{and-f, and-false, and_right, flag-nt, flag-nf, eq-given, ne-given}
use Rattle.octets.proofs.CallLaws.{place-refused}
use Rattle.octets.specs.Numbers.{place_by, refused_place}
use Rattle.octets.specs.Buffer.{part_at}
use Rattle.octets.specs.Sum.{checksum_of}
use Rattle.octets.specs.declared.Place.{Place}
use Rattle.frame.specs.Frame.{is_start, target, source, known_format, count_right, start_right, form_right, addressed, checksum_right, judged}
use Rattle.frame.specs.Frame.{data_start, data_length, data_place, data_of}
use Rattle.frame.specs.declared.End.{End}
use Rattle.frame.specs.declared.End.TheVariants as ends
use Rattle.frame.specs.declared.Addresses.{Addresses}

pub start-at-unit : (end : End) (s : List ℕ) (r : Bool) → end ≡ ends.Unit → r ≡ eqb (get_or s 3 0) 0x81 → r ≡ start_right end s
unfolding start_right
start-at-unit end s r e q = rw e q

pub start-at-tool : (end : End) (s : List ℕ) → end ≡ ends.Tool → false ≡ start_right end s
unfolding start_right
start-at-tool end s e = rw e

-- The returns of `count_right`; n is LEN as a length
module _ (s : List ℕ) where
  pub count-without : get_or s 0 0 ≡ 0x81 → eqb (length s) 5 ≡ count_right s
  unfolding count_right
  count-without h = rw (eq-eqb _ _ h)

  module _ (general : get_or s 0 0 ≡ 0x81 → ⊥) where
    pub count-zero : get_or s 3 0 ≡ 0 → false ≡ count_right s
    unfolding count_right
    count-zero z = rw (ne_eqb _ _ general, le-ltb 0 (get_or s 3 0) (omega arith))

    pub count-by-len : (n : ℕ) → (get_or s 3 0 ≡ 0 → ⊥) → n ≡ get_or s 3 0 → eqb (length s) (n + 5) ≡ count_right s
    unfolding count_right
    count-by-len n z e = rw (ne_eqb _ _ general, lt-ltb 0 (get_or s 3 0) (omega arith), e)

-- The returns of `addressed_to`: f is whether the form is right, t and r are the addresses that the frame must have
module _ (a : Addresses) (end : End) (s : List ℕ) (f : Bool) (form : f ≡ form_right end s) where
  pub address-form : not f ≡ true → false ≡ addressed a end s
  unfolding addressed
  address-form h = sym (and-false (eqb (get_or s 1 0) (target a end)) _ (and-false (eqb (get_or s 2 0) (source a end)) _ (flag-nf form h)))

  pub address-target : (t : ℕ) → (get_or s 1 0 ≡ t → ⊥) → t ≡ target a end → false ≡ addressed a end s
  unfolding addressed
  address-target t h e = and-f _ _ (ne-given _ t _ h e)

  pub address-source : (t r : ℕ) → not f ≡ false → get_or s 1 0 ≡ t → t ≡ target a end → r ≡ source a end → eqb (get_or s 2 0) r ≡ addressed a end s
  unfolding addressed
  address-source t r h q e g = rw (eq-given _ t _ q e, flag-nt form h, g, and-true (eqb (get_or s 2 0) (source a end)))

-- Everything that number 0 says
pub record Good (a : Addresses) (end : End) (s : List ℕ) : Type 0 where
  pub five : 5 ≤ length s
  pub format : known_format (get_or s 0 0) ≡ true
  pub count : count_right s ≡ true
  pub address : addressed a end s ≡ true
  pub sum : checksum_right s ≡ true

pub good : (a : Addresses) (end : End) (s : List ℕ) → judged a end s ≡ 0 → Good a end s
unfolding judged
good a end s e =
    let f = unless-is (leb 5 (length s)) 1 _ 0 refl e in
    let k = unless-is (known_format (get_or s 0 0)) 2 _ 0 refl f.rest in
    let c = unless-is (count_right s) 1 _ 0 refl k.rest in
    let a = unless-is (addressed a end s) 2 _ 0 refl c.rest in
    let m = unless-is (checksum_right s) 3 _ 0 refl a.rest in
    record { five = leb-true 5 (length s) f.first; format = k.first; count = c.first; address = a.first; sum = m.first }

-- a good frame carries the checksum of the bytes before it
pub good-sum : (a : Addresses) (end : End) (s : List ℕ) → judged a end s ≡ 0 → checksum_of (take (length s - 1) s) ≡ get_or s (length s - 1) 0
unfolding checksum_right
good-sum a end s e = eqb-true _ _ (good a end s e).sum

-- the frame's numbers are 0 to 3
pub judged-most : (a : Addresses) (end : End) (s : List ℕ) → judged a end s ≤ 3
unfolding judged
judged-most a end s =
    unless-most (leb 5 (length s)) 1 _ 3 (omega arith)
    (unless-most (known_format (get_or s 0 0)) 2 _ 3 (omega arith)
    (unless-most (count_right s) 1 _ 3 (omega arith)
    (unless-most (addressed a end s) 2 _ 3 (omega arith)
    (unless-most (checksum_right s) 3 0 3 (omega arith)
    (omega arith)))))

-- its length is LEN + 5, or 5 in the form without LEN
pub count-start : (s : List ℕ) → count_right s ≡ true → is_start s ≡ true → length s ≡ 5
unfolding count_right
count-start s c e = eqb-true _ _ (rw e at c)

pub count-general : (s : List ℕ) → count_right s ≡ true → is_start s ≡ false → length s ≡ get_or s 3 0 + 5
unfolding count_right
count-general s c e = eqb-true _ _ (and_right (ltb 0 (get_or s 3 0)) _ (rw e at c))

-- Where the data lies

-- from the form
pub place-start : (s : List ℕ) → get_or s 0 0 ≡ 0x81 → ◌≡◌ {A = Place} (record { number = 0; start = 3; len = 1 }) (place_by 0 (data_start s) (data_length s))
place-start s h = rw (eq-eqb _ _ h)

pub place-general : (s : List ℕ) (n : ℕ) → (get_or s 0 0 ≡ 0x81 → ⊥) → n ≡ get_or s 3 0
    → ◌≡◌ {A = Place} (record { number = 0; start = 4; len = n }) (place_by 0 (data_start s) (data_length s))
place-general s n h e = rw (ne_eqb _ _ h, e)

-- from the number r that `judge` gave
module _ (a : Addresses) (end : End) (s : List ℕ) (r : ℕ) (e : r ≡ judged a end s) where
  pub good-five : r ≡ 0 → 5 ≤ length s
  good-five z = (good a end s (sym e ∙ z)).five

  pub place_none : (place : Place) → (r ≡ 0 → ⊥) → place ≡ refused_place r → place ≡ data_place a end s
  unfolding data_place
  place_none place n q = place-refused r _ _ _ place e n q

  pub place-good : (place : Place) → r ≡ 0 → place ≡ place_by 0 (data_start s) (data_length s) → place ≡ data_place a end s
  unfolding data_place
  place-good place z q = rw (← e, z) q

-- from the place itself, for the callers of `locate`
module _ (a : Addresses) (end : End) (s : List ℕ) (place : Place) (located : place ≡ data_place a end s) where
  pub place-number : place.number ≡ judged a end s
  unfolding data_place
  place-number = ap (λ (p : Place). p.number) located

  -- it lies in the frame, so the data is a part of it
  pub place-within : place.start + place.len ≤ length s
  unfolding data_place
  place-within = rw located (go (eqb (judged a end s) 0) refl (is_start s) refl)
    where
      go : (b : Bool) → eqb (judged a end s) 0 ≡ b → (t : Bool) → is_start s ≡ t → (data_place a end s).start + (data_place a end s).len ≤ length s
      go false n t i = rw n (omega arith)
      go true z true i = let g = good a end s (eqb-true _ _ z) in let five = g.five in rw (z, i) (omega arith)
      go true z false i = let g = good a end s (eqb-true _ _ z) in let l = count-general s g.count i in rw (z, i) (omega arith)

  pub place-data : take (place.start + place.len - place.start) (drop place.start s) ≡ data_of a end s
  unfolding data_of
  place-data = part-whole s place.start place.len ∙ ap (λ (p : Place). part_at p.start p.len s) located

  -- the part that is found there is the data
  pub found-data : (d : List ℕ) → d ≡ part_at place.start place.len s → d ≡ data_of a end s
  unfolding data_of
  found-data d e = part_of place (data_place a end s) s d located e

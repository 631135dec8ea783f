-- Counting, cutting and writing sub messages.
use Rattle.std.proofs.Common.{◌≡◌, ℕ, ◌+◌, ◌-◌, ◌*◌, ◌/◌, ◌%◌, ◌<◌, ◌≤◌, min, Bool, true, false, not, leb, List, [], ◌∷◌, ◌++◌, length, get_or, take, drop, sym, refl, ap, ◌∙◌, arith, length-drop, length-take, take_all, ltb-false, ltb-true, le-ltb, lt-ltb, ne_eqb, le-leb, leb-true}
use native.Mathlib.Decide.{dec_le}
use Rattle.std.specs.Int.{w16, to_be_bytes}
use lib.Seq.{take-length}
use borrow.Author.Tests.{lt-leb}
use Rattle.octets.specs.Numbers.{refused_place}
use Rattle.octets.specs.Buffer.{part_at}
use Rattle.octets.specs.declared.Written.{Written}
use Rattle.octets.specs.declared.Place.{Place}
use Rattle.octets.specs.declared.Counted.{Counted}
use Rattle.octets.proofs.Tests.{flag-nt, flag-nf}
use Rattle.octets.proofs.OrderLaws.{unless-is}
use Rattle.octets.proofs.CallLaws.{written_is, place-refused, kept_by}
use Rattle.frame.specs.declared.Addresses.{Addresses}
use Rattle.frame.specs.declared.End.TheVariants as ends
use Rattle.frame.specs.Frame.{write_number, write_result, write_out}
use Rattle.split.specs.declared.SubMessage.{SubMessage}
use Rattle.split.specs.Codes.{code, next_of, acknowledge_of}
use Rattle.split.specs.Split.{data_most, single_most, piece_size, is_split, count_of, sub_messages, carries, piece_number, piece_place, sub_field}
use Rattle.split.specs.Split.{sub_frame, sub_number, sub_result, sub_out}

-- the code that acknowledges a sub message, from the number behind it
pub code-of-next : (last next : SubMessage) → next ≡ next_of last → code next.0 ≡ acknowledge_of last
code-of-next last next e = ap (λ (k : SubMessage). code k.0) e

-- whether n data bytes are split, from the test of the code
pub single-length : (n : ℕ) {t : Bool} → t ≡ is_split n → not t ≡ true → n ≤ single_most
single-length n e f = ltb-false _ _ (flag-nf e f)

pub split-length : (n : ℕ) {t : Bool} → t ≡ is_split n → not t ≡ false → single_most < n
split-length n e f = ltb-true _ _ (flag-nt e f)

-- Pieces

-- the number of a piece, from the tests of the code; c is the count that it computed
module _ (n k : ℕ) where
  pub number-long : data_most < n → 8 ≡ piece_number n k
  unfolding piece_number
  number-long h = rw (lt-leb n data_most h)

  pub number-zero : n ≤ data_most → k < 1 → 10 ≡ piece_number n k
  unfolding piece_number
  number-zero h z = rw (le-leb n data_most h, lt-leb 1 k z)

  pub number_past : (c : ℕ) → n ≤ data_most → 1 ≤ k → c ≡ count_of n → c < k → 10 ≡ piece_number n k
  unfolding piece_number
  number_past c h f e l = rw (le-leb n data_most h, le-leb 1 k f, lt-leb k (count_of n) (omega arith))

  pub number-such : (c : ℕ) → n ≤ data_most → 1 ≤ k → c ≡ count_of n → k ≤ c → 0 ≡ piece_number n k
  unfolding piece_number
  number-such c h f e l = rw (le-leb n data_most h, le-leb 1 k f, le-leb k (count_of n) (omega arith))

pub messages-long : (n : ℕ) → data_most < n → ◌≡◌ {A = Counted} (record { number = 8; count = 0 }) (sub_messages n)
unfolding sub_messages
messages-long n h = rw (lt-leb n data_most h)

pub messages-such : (n c : ℕ) → n ≤ data_most → c ≡ count_of n → ◌≡◌ {A = Counted} (record { number = 0; count = c }) (sub_messages n)
unfolding sub_messages
messages-such n c h e = rw (le-leb n data_most h, e)

-- what number 0 says of sub message k of n data bytes
pub record Piece (n k : ℕ) : Type 0 where
  pub most : n ≤ data_most
  pub first : 1 ≤ k
  pub last : k ≤ count_of n

pub piece-good : (n k : ℕ) → piece_number n k ≡ 0 → Piece n k
unfolding piece_number
piece-good n k e =
    let m = unless-is (leb n data_most) 8 _ 0 refl e in
    let f = unless-is (leb 1 k) 10 _ 0 refl m.rest in
    let l = unless-is (leb k (count_of n)) 10 0 0 refl f.rest in
    record { most = leb-true _ _ m.first; first = leb-true _ _ f.first; last = leb-true _ _ l.first }

pub piece-zero : (n k : ℕ) → n ≤ data_most → 1 ≤ k → k ≤ count_of n → piece_number n k ≡ 0
unfolding piece_number
piece-zero n k m f l = rw (le-leb n data_most m, le-leb 1 k f, le-leb k (count_of n) l)

-- a sub message of a split answer starts in it, or right behind it
pub start-in : (n k : ℕ) → single_most < n → k ≤ count_of n → (k - 1) * piece_size ≤ n
unfolding count_of
start-in n k h l = let q : k ≤ n / piece_size + 1 = rw (lt-ltb single_most n h) at l in omega arith

-- the same from the number r that the code tested
module _ (n k r : ℕ) (e : r ≡ piece_number n k) (z : r ≡ 0) where
  pub piece-first : 1 ≤ k
  piece-first = (piece-good n k (sym e ∙ z)).first

  pub piece-start : single_most < n → (k - 1) * piece_size ≤ n
  piece-start h = start-in n k h (piece-good n k (sym e ∙ z)).last

  pub place-one : n ≤ single_most → ◌≡◌ {A = Place} (record { number = 0; start = 0; len = n }) (piece_place n k)
  unfolding piece_place
  place-one h = rw (← e, z, le-ltb single_most n h)

  pub place-last : single_most < n → n - (k - 1) * piece_size < piece_size
      → ◌≡◌ {A = Place} (record { number = 0; start = (k - 1) * piece_size; len = n - (k - 1) * piece_size }) (piece_place n k)
  unfolding piece_place
  place-last h l =
      let m : min piece_size (n - (k - 1) * piece_size) ≡ n - (k - 1) * piece_size = omega arith in
      rw (← e, z, lt-ltb single_most n h, m)

  pub place-full : single_most < n → piece_size ≤ n - (k - 1) * piece_size
      → ◌≡◌ {A = Place} (record { number = 0; start = (k - 1) * piece_size; len = piece_size }) (piece_place n k)
  unfolding piece_place
  place-full h l =
      let m : min piece_size (n - (k - 1) * piece_size) ≡ piece_size = omega arith in
      rw (← e, z, lt-ltb single_most n h, m)

pub place_none : (n k r : ℕ) (place : Place) → r ≡ piece_number n k → (r ≡ 0 → ⊥) → place ≡ refused_place r → place ≡ piece_place n k
unfolding piece_place
place_none n k r place e z q = place-refused r _ _ _ place e z q

-- the number of the place is that of the piece
pub place-number : (n k : ℕ) → (piece_place n k).number ≡ piece_number n k
unfolding piece_place
place-number n k = refl

take_min : (m : ℕ) (l : List ℕ) (n : ℕ) → length l ≡ n → take (min m n) l ≡ take m l
take_min m l n e =
    elim (dec_le m n) [
      | yes h ↦ let q : min m n ≡ m = omega arith in rw q
      | no h ↦ let q : min m n ≡ n = omega arith in rw q (take_all n l (omega arith) ∙ sym (take_all m l (omega arith)))
    ]

-- the part at that place is what the sub message carries
pub piece-carries : (k : ℕ) (d : List ℕ) → piece_number (length d) k ≡ 0 → part_at (piece_place (length d) k).start (piece_place (length d) k).len d ≡ carries k d
unfolding piece_place carries
piece-carries k d z =
    let s : ℕ = (k - 1) * piece_size in
    let r : length (drop s d) ≡ length d - s = length-drop s d in
    elim (dec_le (length d) single_most) [
      | yes h ↦ rw (z, le-ltb single_most (length d) h) (take-length d)
      | no h ↦ rw (z, lt-ltb single_most (length d) (omega arith)) (take_min piece_size (drop s d) (length d - s) r)
    ]

pub carries-split : (k : ℕ) (d : List ℕ) → single_most < length d → carries k d ≡ take piece_size (drop ((k - 1) * piece_size) d)
unfolding carries
carries-split k d h = rw (lt-ltb single_most (length d) h)

-- Fields

module _ (trep k : ℕ) (d : List ℕ) where
  pub field-whole : length d ≤ single_most → 0x76 ∷ trep ∷ d ≡ sub_field trep k d
  unfolding sub_field carries
  field-whole h = rw (le-ltb single_most (length d) h)

  pub field-split : single_most < length d → 0x76 ∷ trep ∷ k / 256 % 256 ∷ k % 256 ∷ take piece_size (drop ((k - 1) * piece_size) d) ≡ sub_field trep k d
  unfolding sub_field carries
  field-split h = rw (lt-ltb single_most (length d) h)

  pub length-field : length (sub_field trep k d) ≤ 255
  length-field =
      elim (dec_le (length d) single_most) [
        | yes h ↦ rw (← field-whole h) (omega arith)
        | no h ↦ rw (← field-split (omega arith)) (simp length-take (omega arith))
      ]

  pub field-some : 2 ≤ length (sub_field trep k d)
  unfolding sub_field
  field-some = omega arith

-- Writing

module _ (trep k : ℕ) (d : List ℕ) (room : ℕ) where
  sub-refused-is : (r : ℕ) → r ≡ piece_number (length d) k → (r ≡ 0 → ⊥) → r ≡ sub_number trep k d room
  unfolding sub_number
  sub-refused-is r e z = rw (← e, ne_eqb r 0 z)

  -- where there is such a sub message, the number is that of writing its frame
  pub sub-writes : piece_number (length d) k ≡ 0 → write_number (length (sub_field trep k d)) room ≡ sub_number trep k d room
  unfolding sub_number write_number
  sub-writes z =
      let f : ℕ = length (sub_field trep k d) in
      rw (z, lt-ltb 0 f (omega (arith, field-some trep k d)), le-leb f 255 (length-field trep k d))

-- the returns of the code: refused by the place's number r, one frame, or header and piece p
module _ (a : Addresses) (trep k : ℕ) (d : List ℕ) (place : Place) (is : place ≡ piece_place (length d) k) where
  number-of-place : place.number ≡ piece_number (length d) k
  number-of-place = ap (λ (p : Place). p.number) is ∙ place-number (length d) k

  pub sub-refused : (o : List ℕ) (r : ℕ) → r ≡ place.number → (r ≡ 0 → ⊥) → ◌≡◌ {A = Written} (record { number = r; len = 0 }) (sub_result trep k d (length o))
  unfolding sub_result
  sub-refused o r q z = let e = sub-refused-is trep k d (length o) r (q ∙ number-of-place) z in written_is r 0 _ _ e (kept_by r _ _ 0 e z)

  pub sub-kept : (o : List ℕ) (r : ℕ) → r ≡ place.number → (r ≡ 0 → ⊥) → o ≡ sub_out a trep k d o
  unfolding sub_out
  sub-kept o r q z = let e = sub-refused-is trep k d (length o) r (q ∙ number-of-place) z in kept_by r _ _ o e z

  module _ (z : place.number ≡ 0) (f : List ℕ) (is_field : f ≡ sub_field trep k d) (o o' : List ℕ) (r : Written) where
    written-sub : r ≡ write_result f (length o) → o' ≡ write_out a ends.Tool f o → (r ≡ sub_result trep k d (length o)) × (o' ≡ sub_out a trep k d o)
    unfolding sub_frame sub_result sub_out write_result write_out
    written-sub w v =
        let n = sub-writes trep k d (length o) (sym number-of-place ∙ z) in
        (rw (is_field, n) at w, rw (is_field, n) at v)

  pub sub-whole : (o o' : List ℕ) (r : Written) → place.number ≡ 0 → length d ≤ single_most → r ≡ write_result ((0x76 ∷ trep ∷ []) ++ d) (length o)
      → o' ≡ write_out a ends.Tool ((0x76 ∷ trep ∷ []) ++ d) o → (r ≡ sub_result trep k d (length o)) × (o' ≡ sub_out a trep k d o)
  sub-whole o o' r z h w v = written-sub z _ (field-whole trep k d h) o o' r w v

  pub sub-piece : (b p o o' : List ℕ) (r : Written) → b ≡ to_be_bytes w16 k → place.number ≡ 0 → single_most < length d → p ≡ part_at place.start place.len d
      → r ≡ write_result ((0x76 ∷ trep ∷ get_or b 0 0 ∷ get_or b 1 0 ∷ []) ++ p) (length o)
      → o' ≡ write_out a ends.Tool ((0x76 ∷ trep ∷ get_or b 0 0 ∷ get_or b 1 0 ∷ []) ++ p) o → (r ≡ sub_result trep k d (length o)) × (o' ≡ sub_out a trep k d o)
  sub-piece b p o o' r e z h q w v =
      let c : p ≡ carries k d = q ∙ ap (λ (x : Place). part_at x.start x.len d) is ∙ piece-carries k d (sym number-of-place ∙ z) in
      let t : carries k d ≡ take piece_size (drop ((k - 1) * piece_size) d) = carries-split k d h in
      written-sub z _
      (ap (λ (l : List ℕ). 0x76 ∷ trep ∷ get_or l 0 0 ∷ get_or l 1 0 ∷ p) e
      ∙ ap (λ (l : List ℕ). 0x76 ∷ trep ∷ k / 256 % 256 ∷ k % 256 ∷ l) (c ∙ t) ∙ field-split trep k d h) o o' r w v

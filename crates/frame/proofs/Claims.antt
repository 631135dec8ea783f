-- The claims of specs/Claims.antt, each from its theorem.
use mathlib.Core.Path.{◌≡◌, refl, sym, ◌∙◌}
use mathlib.Core.Bool.{Bool, true, false, ◌&&◌}
use mathlib.Core.List.{List, [], ◌∷◌}
use mathlib.Core.Logic.{◌≢◌}
use Prim.Native.Nat.{ℕ, ◌+◌, ◌<◌, ◌≤◌}
use native.Mathlib.Omega.{arith}
use lib.Dec.{ltb, leb}
use lib.ListN.{length, get_or, take, set}
use borrow.Author.Tests.{ltb-true, leb-true}
use Rattle.octets.specs.Order.{unless}
use Rattle.octets.specs.Buffer.{front}
use Rattle.octets.proofs.OrderLaws.{unless-is}
use Rattle.octets.proofs.Tests.{and_left, and_right}
use Rattle.octets.proofs.BufferLaws.{take-front}
use Rattle.frame.proofs.WriteLaws.{length-frame}
use Rattle.frame.specs.Given.{refused_write}
use Rattle.frame.specs.Frame.{judged, frame_of, write_number, write_result, write_out}
use Rattle.frame.specs.Frame.{lab, closed, data_of}
use Rattle.frame.specs.Messages.{start_frame}
use Rattle.frame.specs.Claims.{FrameClaims, Equal, Different, GivenClaims}
use Rattle.frame.specs.declared.Addresses.{Addresses}
use Rattle.frame.specs.declared.End.{End}
use Rattle.frame.specs.Given.{different, judged_given, data_place_given, data_given, write_result_given, write_out_given}
use Rattle.frame.proofs.GivenLaws.{equal-ones, different-ones, at-equal, at-different}
use Rattle.frame.proofs.Readdressed.{readdressed-number, readdressed-data, readdressed-frame, readdressed-start, readdressed-back}
use Rattle.frame.proofs.FrontLaws.{front-whole, front-part}
use Rattle.frame.proofs.Theorems.{write-then-check, data-reads-back, start-good, start-data, changed-refused, cut-refused}
use Rattle.frame.proofs.Theorems.{others-refused, to-unit-refused, to-tool-refused}

start-bytes : start_frame lab ≡ 0x81 ∷ 0xEE ∷ 0xF0 ∷ 0x81 ∷ 0xE0 ∷ []
unfolding closed
start-bytes = refl

pub claims : FrameClaims
claims =
    record {
      written = write-then-check;
      data_back = data-reads-back;
      start = start-bytes;
      start_good = start-good;
      start_data = start-data;
      changed_byte = changed-refused;
      cut_short = cut-refused;
      front_whole = front-whole;
      front_part = front-part;
    }

equal : (a : Addresses) (end : End) → different a ≡ false → Equal a end
unfolding judged_given data_place_given data_given write_result_given write_out_given
equal a end e =
    record {
      check = λ s. at-equal a _ _ e;
      place = λ s. at-equal a _ _ e;
      read = λ s. rw e;
      write = λ d out_len. at-equal a _ _ e;
      out = λ d out. at-equal a _ _ e;
    }

two-different : (a : Addresses) (end : End) → different a ≡ true → Different a end
unfolding judged_given data_place_given data_given data_of write_result_given write_out_given
two-different a end e =
    record {
      check = λ s. at-different a _ _ e;
      place = λ s. at-different a _ _ e;
      read = λ s. rw e;
      write = λ d out_len. at-different a _ _ e;
      out = λ d out. at-different a _ _ e;
    }

-- demand 1 of the calls, at any two addresses
module _ (a : Addresses) (end : End) where
  given-good : (f : List ℕ) → judged_given a end f ≡ 0 → (different a ≡ true) × (judged a end f ≡ 0)
  unfolding judged_given
  given-good f e = let u = unless-is (different a) 2 _ 0 refl e in (u.first, u.rest)

  call-changed : (f : List ℕ) → judged_given a end f ≡ 0
      → (i b : ℕ) → i < length f → b < 256 → get_or f i 0 < 256 → b ≢ get_or f i 0 → judged_given a end (set f i b) ≢ 0
  unfolding judged_given
  call-changed f e i b l m o n z =
      let g = given-good f e in
      changed-refused a end f g.1 i b l m o n (sym (at-different a _ _ g.0) ∙ z)

  call-cut : (f : List ℕ) → judged_given a end f ≡ 0 → (n : ℕ) → n < length f → judged_given a end (take n f) ≢ 0
  unfolding judged_given
  call-cut f e n l z =
      let g = given-good f e in
      cut-refused a end f g.1 n l (sym (at-different a _ _ g.0) ∙ z)

  call_back_lem : (d out : List ℕ) → (write_result_given a d (length out)).number ≡ 0
      → (judged_given a end (take (length d + 5) (write_out_given a end d out)) ≡ 0)
      × (data_given a end (take (length d + 5) (write_out_given a end d out)) ≡ d)
  unfolding judged_given data_given data_place_given data_of write_result_given write_out_given write_result write_out write_number
  call_back_lem d out e = go (different a) refl e
    where
      go : (t : Bool) → different a ≡ t → (unless t refused_write (write_result d (length out))).number ≡ 0
          → (judged_given a end (take (length d + 5) (write_out_given a end d out)) ≡ 0)
          × (data_given a end (take (length d + 5) (write_out_given a end d out)) ≡ d)
      go false q z = absurd (omega (arith, z))
      go true q z =
          let u = unless-is (ltb 0 (length d) && leb (length d) 255) 1 _ 0 refl z in
          let some : 0 < length d = ltb-true 0 (length d) (and_left _ _ u.first) in
          let most : length d ≤ 255 = leb-true (length d) 255 (and_right (ltb 0 (length d)) _ u.first) in
          let k : take (length d + 5) (front (frame_of a end d) out) ≡ frame_of a end d =
          take-front (length d + 5) (frame_of a end d) out (length-frame a end d) in
          rw (q, z, k) (write-then-check a end d some most, data-reads-back a end d some most)

pub given-claims : GivenClaims
given-claims =
    record {
      equal = λ a e end. equal a end (equal-ones a e);
      different = λ a n end. two-different a end (different-ones a n);
      other_addresses = others-refused;
      other_end = λ a n f. (to-unit-refused a n f, to-tool-refused a n f);
      call_back = call_back_lem;
      call_changed = call-changed;
      call_cut = call-cut;
      same_number = readdressed-number;
      same_data = readdressed-data;
      same_frame = readdressed-frame;
      same_start = readdressed-start;
      back = readdressed-back;
    }

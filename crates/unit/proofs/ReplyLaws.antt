-- Replies: what is written for each reaction, and that a reply has 6 to 260 bytes.
use Prim.Native.Nat.{ℕ, ◌+◌, ◌-◌, ◌<◌, ◌≤◌}
use mathlib.Core.Bool.{Bool, true, false, cond, ◌&&◌}
use mathlib.Core.List.{List, [], ◌∷◌}
use mathlib.Core.Path.{◌≡◌, refl, sym, ap, ◌∙◌}
use native.Mathlib.Omega.{arith}
use lib.Dec.{eqb, leb}
use lib.ListN.{length, take, drop, length-drop}
use lib.Seq.{take_all}
use borrow.Author.Tests.{le-leb, leb-true}
use Rattle.octets.specs.Buffer.{part_at, front}
use Rattle.octets.specs.declared.Part.{Part}
use Rattle.octets.proofs.OrderLaws.{unless-is}
use Rattle.octets.proofs.Tests.{and_left, and_right}
use Rattle.octets.proofs.BufferLaws.{length_part}
use Rattle.octets.proofs.PartLaws.{part_in}
use Rattle.octets.specs.declared.Written.{Written}
use Rattle.frame.specs.declared.Addresses.{Addresses}
use Rattle.frame.specs.declared.End.TheVariants as ends
use Rattle.frame.specs.Frame.{frame_most, frame_of, write_result, write_out}
use Rattle.frame.proofs.WriteLaws.{length-frame, written-length, written_out}
use Rattle.catalog.specs.declared.AnswerName.{AnswerName}
use Rattle.split.specs.Split.{piece_number, sub_field, sub_frame, sub_number, sub_result, sub_out}
use Rattle.split.specs.declared.SubMessage.{SubMessage}
use Rattle.split.proofs.SplitLaws.{field-some, length-field}
use Rattle.services.specs.declared.UnitState.{UnitState}
use Rattle.services.specs.declared.Reaction.{Reaction}
use Rattle.services.specs.declared.Reaction.TheVariants.{Ignored, CommunicationStarted, SessionOpened, RateOffered, RateChanged, UploadGranted}
use Rattle.services.specs.declared.Reaction.TheVariants.{AnswerSent, AnswerStopped, TransferExited, CommunicationStopped, Negative}
use Rattle.unit.specs.Call.{reaction_to, data_in, reply_data, reply_to, unit_number, unit_reply}
use Rattle.unit.specs.Piece.{piece_at, piece_sent}

-- some data goes out as a frame
pub reply-is : (a : Addresses) (d : List ℕ) → 0 < length d → reply_to a d ≡ frame_of a ends.Tool d
unfolding reply_to
reply-is a [] h = absurd (omega arith)
reply-is a (x ∷ d) h = refl

-- A frame written in a buffer of 260 bytes
module _ (a : Addresses) (d o : List ℕ) (some : 0 < length d) (most : length d ≤ 255) (room : frame_most ≤ length o) where
  pub sent-length : (w : Written) → w ≡ write_result d (length o) → w.len ≡ length (reply_to a d)
  sent-length w e = rw (reply-is a d some) (written-length a ends.Tool d o some most room w e)

  pub sent-out : (o' : List ℕ) → o' ≡ write_out a ends.Tool d o → o' ≡ front (reply_to a d) o
  sent-out o' e = rw (reply-is a d some) (written_out a ends.Tool d o some most room o' e)

-- A sub message written there
module _ (a : Addresses) (trep k : ℕ) (d o : List ℕ) (such : piece_number (length d) k ≡ 0) (room : 260 ≤ length o) where
  sub-fits : sub_number trep k d (length o) ≡ 0
  unfolding sub_number
  sub-fits =
      let n : length (sub_field trep k d) ≤ 255 = length-field trep k d in
      rw (such, le-leb (length (sub_field trep k d) + 5) (length o) (omega arith))

  sub-some : 0 < length (sub_field trep k d)
  sub-some = omega (arith, field-some trep k d)

  sub-length : (w : Written) → w ≡ sub_result trep k d (length o) → w.len ≡ length (reply_to a (sub_field trep k d))
  unfolding sub_result
  sub-length w e = rw (e, sub-fits, reply-is a (sub_field trep k d) sub-some) (sym (length-frame a ends.Tool (sub_field trep k d)))

  sub_out_lem : (o' : List ℕ) → o' ≡ sub_out a trep k d o → o' ≡ front (reply_to a (sub_field trep k d)) o
  unfolding sub_out sub_frame
  sub_out_lem o' e = rw (e, sub-fits, reply-is a (sub_field trep k d) sub-some)

-- the same with the data of the answer that lies at a place of the store, behind 76 and TREP
pub record PieceAt (s : List ℕ) (k : ℕ) (place : Part) : Type 0 where
  pub two : 2 ≤ place.len
  pub inside : place.start + place.len ≤ length s
  pub such : piece_number (place.len - 2) k ≡ 0

pub piece-at : (s : List ℕ) (k : ℕ) (place : Part) → piece_at s k place ≡ 0 → PieceAt s k place
unfolding piece_at
piece-at s k place z =
    let h = unless-is (leb 2 place.len && leb (place.start + place.len) (length s)) 6 _ 0 refl z in
    record {
      two = leb-true _ _ (and_left (leb 2 place.len) _ h.first);
      inside = leb-true _ _ (and_right (leb 2 place.len) _ h.first);
      such = h.rest;
    }

module _ (a : Addresses) (trep k : ℕ) (place : Part) (s d o : List ℕ)
    (part : d ≡ take (place.start + place.len - (place.start + 2)) (drop (place.start + 2) s)) (at : piece_at s k place ≡ 0) (room : 260 ≤ length o) where
  there : PieceAt s k place
  there = piece-at s k place at

  answer-size : length (part_at place.start place.len s) ≡ place.len
  answer-size = length_part s place.start place.len there.inside

  data-size : length (data_in s place) ≡ place.len - 2
  data-size = length-drop 2 (part_at place.start place.len s) ∙ ap (λ (n : ℕ). n - 2) answer-size

  is-data : d ≡ data_in s place
  is-data =
      let n : place.start + place.len - (place.start + 2) ≡ place.len - 2 = omega arith in
      part ∙ rw n (part_in place.start place.len 2 (place.len - 2) s (omega (arith, there.two)) there.inside)
      ∙ take_all (place.len - 2) (data_in s place) (omega (arith, data-size))

  piece-such : piece_number (length (data_in s place)) k ≡ 0
  piece-such = rw data-size there.such

  pub answer-length : (w : Written) → w ≡ sub_result trep k d (length o) → w.len ≡ length (reply_to a (sub_field trep k (data_in s place)))
  answer-length w e = sub-length a trep k _ o piece-such room w (rw is-data at e)

  pub answer-out : (o' : List ℕ) → o' ≡ sub_out a trep k d o → o' ≡ front (reply_to a (sub_field trep k (data_in s place))) o
  answer-out o' e = sub_out_lem a trep k _ o piece-such room o' (rw is-data at e)

-- The reply to a reaction x, which is y
module _ (a : Addresses) (s : List ℕ) (x y : Reaction) (is : x ≡ y) where
  pub reply-length : (n : ℕ) → n ≡ length (reply_to a (reply_data s y)) → n ≡ length (reply_to a (reply_data s x))
  reply-length n q = rw is q

  pub reply-out : (o o' : List ℕ) → o' ≡ front (reply_to a (reply_data s y)) o → o' ≡ front (reply_to a (reply_data s x)) o
  reply-out o o' q = rw is q

pub piece-there : (s : List ℕ) (x : Reaction) (name : AnswerName) (k : SubMessage) (place : Part) → x ≡ AnswerSent name k place → piece_sent s x ≡ 0
    → piece_at s k.0 place ≡ 0
unfolding piece_sent
piece-there s x name k place e z = rw e at z

-- "a frame has 6 to 260 bytes": so has every reply but silence

data-most : (s : List ℕ) (x : Reaction) → length (reply_data s x) ≤ 255
unfolding reply_data
data-most s Ignored = omega arith
data-most s CommunicationStarted = omega arith
data-most s SessionOpened = omega arith
data-most s (RateOffered r) = omega arith
data-most s RateChanged = omega arith
data-most s UploadGranted = omega arith
data-most s (AnswerSent name k place) = length-field name.trep k.0 (data_in s place)
data-most s AnswerStopped = omega arith
data-most s TransferExited = omega arith
data-most s CommunicationStopped = omega arith
data-most s (Negative sid code) = omega arith

module _ (a : Addresses) where
  pub reply-some : (d : List ℕ) → 0 < length d → 6 ≤ length (reply_to a d)
  reply-some d h = rw (reply-is a d h) (omega (arith, length-frame a ends.Tool d))

  frame-most : (d : List ℕ) → length d ≤ 255 → length (reply_to a d) ≤ 260
  unfolding reply_to
  frame-most [] h = omega arith
  frame-most (y ∷ d) h = omega (arith, length-frame a ends.Tool (y ∷ d))

  -- the reply of a call fits the buffer that it asks for
  pub reply-fits : (s : List ℕ) (room : ℕ) (u : UnitState) (b : List ℕ) → length (unit_reply a s room u b) ≤ 260
  unfolding unit_reply
  reply-fits s room u b = go (eqb (unit_number a s room u b) 0)
    where
      go : (t : Bool) → length (cond t (reply_to a (reply_data s (reaction_to a s u b))) []) ≤ 260
      go true = frame-most (reply_data s (reaction_to a s u b)) (data-most s (reaction_to a s u b))
      go false = omega arith

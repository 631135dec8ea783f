-- What holds of every reaction of a unit, and from it: every sub message that a reaction sends is there.
use Prim.Native.Nat.{ℕ, ◌+◌, ◌-◌, ◌≤◌}
use mathlib.Core.Bool.{Bool, true, false, cond, ◌&&◌}
use mathlib.Core.List.{List}
use mathlib.Core.Path.{◌≡◌, refl}
use native.Mathlib.Omega.{arith}
use lib.Dec.{eqb, ltb, leb}
use lib.ListN.{length}
use borrow.Author.Tests.{le-leb, eqb-true}
use Rattle.octets.specs.declared.Place.{Place}
use Rattle.octets.specs.declared.Part.{Part}
use Rattle.octets.specs.Numbers.{part_of_place}
use Rattle.octets.proofs.Tests.{and_right, never}
use Rattle.frame.specs.declared.Addresses.{Addresses}
use Rattle.frame.specs.declared.End.TheVariants as ends
use Rattle.frame.specs.Frame.{is_start, data_of}
use Rattle.catalog.specs.declared.AnswerName.{AnswerName}
use Rattle.split.specs.Split.{data_most, count_of}
use Rattle.split.specs.Codes.{sub, next_of}
use Rattle.split.specs.declared.SubMessage.{SubMessage}
use Rattle.split.proofs.SplitLaws.{piece-zero}
use Rattle.split.proofs.Theorems.{count-some, count_most_lem}
use Rattle.store.specs.Layout.{narrow}
use Rattle.store.specs.Read.{lookup_place}
use Rattle.services.specs.declared.Phase.{Phase}
use Rattle.services.specs.declared.Phase.TheVariants.{Sending}
use Rattle.services.specs.declared.UnitState.{UnitState}
use Rattle.services.specs.declared.Reaction.{Reaction}
use Rattle.services.specs.declared.Reaction.TheVariants.{Ignored, CommunicationStarted, SessionOpened, RateOffered, RateChanged, UploadGranted}
use Rattle.services.specs.declared.Reaction.TheVariants.{AnswerSent, AnswerStopped, TransferExited, CommunicationStopped, Negative}
use Rattle.services.specs.State.{is_closed, name_sent, data_length_at, sendable, phase_possible, possible_at}
use Rattle.services.specs.Services.{request_name, name_asked, answer_from}
use Rattle.services.proofs.StateLaws.{Sendable, sendable-says}
use Rattle.services.proofs.ReactionLaws.{sends_answer, either, every-service}
use Rattle.unit.specs.State.{place_sent, possible}
use Rattle.unit.specs.Call.{place_asked, reaction_at, reaction_to}
use Rattle.unit.specs.Piece.{piece_at, piece_sent}
use Rattle.unit.proofs.StoreFacts.{InStore, found_in}

-- What holds of every reaction: of those that send no answer, of the first sub message of the answer that is asked for, and of what follows
-- from a code
module _ (P : Reaction → Type 0) (plain : (x : Reaction) → sends_answer x ≡ false → P x) where
  pub every-reaction : (a : Addresses) (sent asked : Place) (u : UnitState) (b : List ℕ) → P (answer_from (request_name (data_of a ends.Unit b)) (sub 1) asked)
      → ((name : AnswerName) (last : SubMessage) → u.phase ≡ Sending name last → P (AnswerSent name last (part_of_place sent)))
      → ((name : AnswerName) (last : SubMessage) → u.phase ≡ Sending name last → last.0 + 1 ≤ count_of (data_length_at sent)
      → P (AnswerSent name (next_of last) (part_of_place sent)))
      → P (reaction_at a sent asked u b)
  unfolding reaction_at
  every-reaction a sent asked u b first again next =
      either P (is_start b) (plain CommunicationStarted refl)
      (either P (is_closed u.phase) (plain Ignored refl)
      (every-service P plain sent asked u (data_of a ends.Unit b) first again next))

-- Sub messages

sending-sendable : (place : Place) (phase : Phase) (name : AnswerName) (last : SubMessage) → phase ≡ Sending name last → phase_possible place phase ≡ true
    → sendable place last ≡ true
unfolding phase_possible
sending-sendable place phase name last e h = rw e at h

module _ (s : List ℕ) where
  -- its data is within the bound of splitting
  data-most : {start n : ℕ} → InStore s start n → n - 2 ≤ data_most
  data-most i = omega (arith, i.most)

  -- a sub message of an answer that lies in the store
  piece-in : (part : Part) (k : ℕ) → InStore s part.start part.len → 1 ≤ k → k ≤ count_of (part.len - 2) → piece_at s k part ≡ 0
  unfolding piece_at
  piece-in part k i f l =
      rw (le-leb 2 part.len i.two, le-leb (part.start + part.len) (length s) i.inside)
      (piece-zero (part.len - 2) k (data-most i) f l)

  no-piece : (x : Reaction) → sends_answer x ≡ false → piece_sent s x ≡ 0
  unfolding piece_sent
  no-piece Ignored e = refl
  no-piece CommunicationStarted e = refl
  no-piece SessionOpened e = refl
  no-piece (RateOffered r) e = refl
  no-piece RateChanged e = refl
  no-piece UploadGranted e = refl
  no-piece (AnswerSent name k place) e = never (cc)
  no-piece AnswerStopped e = refl
  no-piece TransferExited e = refl
  no-piece CommunicationStopped e = refl
  no-piece (Negative sid code) e = refl

  -- the first sub message of the answer that was looked up, if it is held
  first-sent : (name asked : AnswerName) → piece_sent s (answer_from name (sub 1) (lookup_place narrow asked s)) ≡ 0
  unfolding piece_sent answer_from
  first-sent name asked = go (eqb (lookup_place narrow asked s).number 0) refl
    where
      go : (t : Bool) → eqb (lookup_place narrow asked s).number 0 ≡ t
          → piece_sent s (cond t (AnswerSent name (sub 1) (part_of_place (lookup_place narrow asked s))) (Negative 0x36 0xFA)) ≡ 0
      go true e =
          piece-in (part_of_place (lookup_place narrow asked s)) 1 (found_in s asked (eqb-true _ _ e)) (omega arith) (count-some _)
      go false e = refl

  -- what is known of the answer that is being sent
  module _ (u : UnitState) (name : AnswerName) (last : SubMessage) (is : u.phase ≡ Sending name last)
      (h : phase_possible (place_sent s u.phase) u.phase ≡ true) where
    sendable-now : Sendable (place_sent s u.phase) last.0
    sendable-now = sendable-says (place_sent s u.phase) last (sending-sendable (place_sent s u.phase) u.phase name last is h)

    sent-in : InStore s (place_sent s u.phase).start (place_sent s u.phase).len
    sent-in = found_in s (name_sent u.phase) sendable-now.held

    sent_piece : (k : SubMessage) → 1 ≤ k.0 → k.0 ≤ count_of (data_length_at (place_sent s u.phase))
        → piece_sent s (AnswerSent name k (part_of_place (place_sent s u.phase))) ≡ 0
    unfolding piece_sent
    sent_piece k f l = piece-in (part_of_place (place_sent s u.phase)) k.0 sent-in f l

    -- a number among the sub messages goes on without wrapping
    next-is : last.0 + 1 ≤ count_of (data_length_at (place_sent s u.phase)) → (next_of last).0 ≡ last.0 + 1
    next-is l = omega (arith, count_most_lem (data_length_at (place_sent s u.phase)) (data-most sent-in))

  -- whatever a unit in a possible state sends is there
  pub sends-what-is : (a : Addresses) (u : UnitState) (b : List ℕ) → possible s u ≡ true → piece_sent s (reaction_to a s u b) ≡ 0
  unfolding reaction_to possible possible_at
  sends-what-is a u b h =
      let q = and_right (ltb u.kind 3) _ h in
      let r = and_right (leb 1 u.rate && leb u.rate 5) _ q in
      let p : phase_possible (place_sent s u.phase) u.phase ≡ true = and_right (leb u.pending 5) _ r in
      every-reaction (λ x. piece_sent s x ≡ 0) no-piece a (place_sent s u.phase) (place_asked s (data_of a ends.Unit b)) u b
      (first-sent (request_name (data_of a ends.Unit b)) (name_asked (data_of a ends.Unit b)))
      (λ name last e. let t = sendable-now u name last e p in sent_piece u name last e p last t.first t.last)
      (λ name last e l. let n = next-is u name last e p l in sent_piece u name last e p (next_of last) (omega arith) (omega arith))

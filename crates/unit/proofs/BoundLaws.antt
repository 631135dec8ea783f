-- What a unit sends fits its fields: a call whose frame consists of bytes keeps the day below 2^32 and the number below 65,536, as packing needs.
use Prim.Native.Nat.{ℕ, ◌<◌}
use mathlib.Core.Bool.{Bool, true, false, cond}
use mathlib.Core.List.{List}
use mathlib.Core.Path.{◌≡◌, refl}
use native.Mathlib.Omega.{arith}
use lib.Dec.{eqb}
use Rattle.octets.specs.Buffer.{Bytes}
use Rattle.octets.specs.declared.Place.{Place}
use Rattle.octets.specs.declared.Part.{Part}
use Rattle.octets.specs.Numbers.{part_of_place}
use Rattle.fields.proofs.NumberLaws.{number_fits}
use Rattle.octets.proofs.PartLaws.{bytes-part}
use Rattle.octets.proofs.Tests.{never}
use Rattle.frame.specs.declared.Addresses.{Addresses}
use Rattle.frame.specs.declared.End.TheVariants as ends
use Rattle.frame.specs.Frame.{data_place, data_of}
use Rattle.catalog.specs.declared.AnswerName.{AnswerName}
use Rattle.split.specs.Split.{is_split}
use Rattle.split.specs.Codes.{sub, next_of}
use Rattle.split.specs.declared.SubMessage.{SubMessage}
use Rattle.services.specs.declared.Phase.{Phase}
use Rattle.services.specs.declared.Phase.TheVariants.{Closed, Started, Session, Granted, Sending}
use Rattle.services.specs.declared.UnitState.{UnitState}
use Rattle.services.specs.declared.Reaction.{Reaction}
use Rattle.services.specs.declared.Reaction.TheVariants.{Ignored, CommunicationStarted, SessionOpened, RateOffered, RateChanged, UploadGranted}
use Rattle.services.specs.declared.Reaction.TheVariants.{AnswerSent, AnswerStopped, TransferExited, CommunicationStopped, Negative}
use Rattle.services.specs.State.{data_length}
use Rattle.services.specs.Services.{request_name, answer_from}
use Rattle.services.specs.After.{state_after}
use Rattle.services.proofs.ReactionLaws.{sends_answer}
use Rattle.unit.specs.State.{place_sent}
use Rattle.unit.specs.Call.{place_asked, reaction_to, unit_number, unit_state}
use Rattle.unit.proofs.SentLaws.{every-reaction}

-- the name and the number that a unit in this phase is sending fit their fields
abbrev pub Fits : Phase → Type 0
Fits Closed = Unit {0}
Fits Started = Unit {0}
Fits Session = Unit {0}
Fits Granted = Unit {0}
Fits (Sending name last) = (name.day < 4294967296) × (last.0 < 65536)

sending-fits : (phase : Phase) (name : AnswerName) (last : SubMessage) → phase ≡ Sending name last → Fits phase → Fits (Sending name last)
sending-fits phase name last e f = rw e at f

module _ (u : UnitState) (fits : Fits u.phase) where
  abbrev After : Reaction → Type 0
  After x = Fits (state_after u x).phase

  plain : (x : Reaction) → sends_answer x ≡ false → After x
  unfolding state_after
  plain Ignored e = fits
  plain CommunicationStarted e = tt
  plain SessionOpened e = tt
  plain (RateOffered r) e = fits
  plain RateChanged e = fits
  plain UploadGranted e = tt
  plain (AnswerSent name k place) e = never (cc)
  plain AnswerStopped e = tt
  plain TransferExited e = tt
  plain CommunicationStopped e = tt
  plain (Negative sid code) e = fits

  sends : (name : AnswerName) (k : SubMessage) (part : Part) → name.day < 4294967296 → k.0 < 65536 → After (AnswerSent name k part)
  unfolding state_after
  sends name k part d l = go (is_split (data_length part))
    where
      go : (t : Bool) → Fits (cond t (Sending name k) Granted)
      go true = (d, l)
      go false = tt

  module _ (s : List ℕ) (a : Addresses) (b : List ℕ) (bytes : Bytes b) where
    asked-day : (d : List ℕ) → Bytes d → (request_name d).day < 4294967296
    unfolding request_name
    asked-day d h = number_fits 4 2 d h

    heard-bytes : Bytes (data_of a ends.Unit b)
    unfolding data_of
    heard-bytes = bytes-part (data_place a ends.Unit b).start (data_place a ends.Unit b).len b bytes

    first : (place : Place) → After (answer_from (request_name (data_of a ends.Unit b)) (sub 1) place)
    unfolding answer_from
    first place = go (eqb place.number 0)
      where
        go : (t : Bool) → After (cond t (AnswerSent (request_name (data_of a ends.Unit b)) (sub 1) (part_of_place place)) (Negative 0x36 0xFA))
        go true = sends (request_name (data_of a ends.Unit b)) (sub 1) (part_of_place place) (asked-day (data_of a ends.Unit b) heard-bytes) (omega arith)
        go false = plain (Negative 0x36 0xFA) refl

    reaction-fits : After (reaction_to a s u b)
    unfolding reaction_to
    reaction-fits =
        every-reaction After plain a (place_sent s u.phase) (place_asked s (data_of a ends.Unit b)) u b (first (place_asked s (data_of a ends.Unit b)))
        (λ name last e. let f = sending-fits u.phase name last e fits in sends name last (part_of_place (place_sent s u.phase)) f.0 f.1)
        (λ name last e l. let f = sending-fits u.phase name last e fits in sends name (next_of last) (part_of_place (place_sent s u.phase)) f.0 (omega arith))

    pub step_fits : (room : ℕ) → Fits (unit_state a s room u b).phase
    unfolding unit_state
    step_fits room = go (eqb (unit_number a s room u b) 0)
      where
        go : (t : Bool) → Fits (cond t (state_after u (reaction_to a s u b)) u).phase
        go true = reaction-fits
        go false = fits

-- The unit's call: what a frame asks for, the reply that follows, and the refusals in order.
use Rattle.std.specs.Prelude.{ℕ, Bool, cond, List, [], ◌∷◌, length, drop, leb}
use Rattle.octets.specs.Order.{unless, or_else}
use Rattle.octets.specs.Numbers.{done, format_or_address, buffer_short, out_of_turn, changed_by}
use Rattle.octets.specs.Buffer.{part_at, front}
use Rattle.octets.specs.declared.Place.{Place}
use Rattle.octets.specs.declared.Part.{Part}
use Rattle.octets.specs.declared.refusal.Refusal.{Refusal}
use Rattle.octets.specs.Numbers.{number}
use Rattle.std.specs.Prelude.{Result, Ok, Err}
use Rattle.frame.specs.declared.Addresses.{Addresses}
use Rattle.frame.specs.declared.End.TheVariants as ends
use Rattle.frame.specs.Frame.{frame_most, frame_of, is_start, judged, data_of}
use Rattle.frame.specs.Given.{different}
use Rattle.frame.specs.Messages.{start_reply, session_reply, rate_reply, upload_reply, exit_reply, stop_reply}
use Rattle.split.specs.Split.{sub_field}
use Rattle.store.specs.Layout.{narrow}
use Rattle.store.specs.Check.{store_number}
use Rattle.store.specs.Read.{lookup_place}
use Rattle.services.specs.declared.UnitState.{UnitState}
use Rattle.services.specs.declared.Reaction.{Reaction}
use Rattle.services.specs.declared.Reaction.TheVariants.{Ignored, CommunicationStarted, SessionOpened, RateOffered}
use Rattle.services.specs.declared.Reaction.TheVariants.{RateChanged, UploadGranted, AnswerSent, AnswerStopped}
use Rattle.services.specs.declared.Reaction.TheVariants.{TransferExited, CommunicationStopped, Negative}
use Rattle.services.specs.State.{is_closed}
use Rattle.services.specs.Services.{name_asked, on_data}
use Rattle.services.specs.After.{state_after}
use Rattle.octets.specs.declared.Step.{Step}
use Rattle.unit.specs.State.{place_sent, possible}

-- where the answer lies that a frame's data asks for
abbrev pub place_asked : List ℕ → List ℕ → Place
place_asked store d = lookup_place narrow (name_asked d) store

-- a good frame: "81 (five-byte frame) | any (house)"; "Closed: only 81 is heard; other good frames meet silence and
-- change nothing"; sent and asked are the places of the answer that is being sent and of the one that is asked for
unfoldable pub reaction_at : Addresses → Place → Place → UnitState → List ℕ → Reaction
reaction_at a sent asked u b =
    cond (is_start b) CommunicationStarted
    (cond (is_closed u.phase) Ignored
    (on_data sent asked u (data_of a ends.Unit b)))

unfoldable pub reaction_to : Addresses → List ℕ → UnitState → List ℕ → Reaction
reaction_to a store u b =
    reaction_at a (place_sent store u.phase) (place_asked store (data_of a ends.Unit b)) u b

-- the data of the answer that is this part of the store, behind 76 and TREP
abbrev pub data_in : List ℕ → Part → List ℕ
data_in store part = drop 2 (part_at part.start part.len store)

-- the column "Reply": the data of the reply, none for silence
unfoldable pub reply_data : List ℕ → Reaction → List ℕ
reply_data store Ignored = []
reply_data store CommunicationStarted = start_reply
reply_data store SessionOpened = session_reply
reply_data store (RateOffered r) = rate_reply
reply_data store RateChanged = []
reply_data store UploadGranted = upload_reply
reply_data store (AnswerSent name k part) = sub_field name.trep k.0 (data_in store part)
reply_data store AnswerStopped = []
reply_data store TransferExited = exit_reply
reply_data store CommunicationStopped = stop_reply
reply_data store (Negative sid code) = 0x7F ∷ sid ∷ code ∷ []

-- the bytes that go to the tool
unfoldable pub reply_to : Addresses → List ℕ → List ℕ
reply_to a [] = []
reply_to a (x ∷ d) = frame_of a ends.Tool (x ∷ d)

-- "5, 11, 4 (reply buffer under 260)", with the number of the store's fault for 5 (document 02, Req 06)
unfoldable pub number_before : ℕ → Bool → ℕ → ℕ
number_before broken is_possible out_len =
    or_else broken
    (unless is_possible out_of_turn
    (unless (leb frame_most out_len) buffer_short
    done))

-- "Unit call: 5, 11, 4 (reply buffer under 260), then frame numbers", with the number of the store's fault for 5
unfoldable pub unit_number : Addresses → List ℕ → ℕ → UnitState → List ℕ → ℕ
unit_number a store out_len u b =
    or_else (number_before (store_number narrow store) (possible store u) out_len)
    (judged a ends.Unit b)

-- the next state, and the reply where nothing is refused
unfoldable pub unit_state : Addresses → List ℕ → ℕ → UnitState → List ℕ → UnitState
unit_state a store out_len u b =
    changed_by (unit_number a store out_len u b) (state_after u (reaction_to a store u b)) u

unfoldable pub unit_reply : Addresses → List ℕ → ℕ → UnitState → List ℕ → List ℕ
unit_reply a store out_len u b =
    changed_by (unit_number a store out_len u b) (reply_to a (reply_data store (reaction_to a store u b))) []

-- what the call hands back: "Each returns its number with the state as handed in"
pub record UnitReply : Type 0 where
  pub number : ℕ
  pub state : UnitState
  pub len : ℕ

-- the same as the code has it, for the state handed in
abbrev pub stepped : UnitState → Result (Step UnitState) Refusal → UnitReply
stepped u (Ok step) = record { number = done; state = step.state; len = step.len }
stepped u (Err refusal) = record { number = number refusal; state = u; len = 0 }

-- and the reply buffer at exit: "A reply of m bytes changes only the first m of its buffer;
-- silence changes none"
unfoldable pub unit_result : Addresses → List ℕ → ℕ → UnitState → List ℕ → UnitReply
unit_result a store out_len u b =
    record {
      number = unit_number a store out_len u b;
      state = unit_state a store out_len u b;
      len = length (unit_reply a store out_len u b);
    }

unfoldable pub unit_out : Addresses → List ℕ → UnitState → List ℕ → List ℕ → List ℕ
unit_out a store u b out = front (unit_reply a store (length out) u b) out

-- the call with both addresses as given: "two equal ones are 2 .., before any other check" (document 02, Req 05)
unfoldable pub unit_result_given : Addresses → List ℕ → ℕ → UnitState → List ℕ → UnitReply
unit_result_given a store out_len u b =
    unless (different a) (record { number = format_or_address; state = u; len = 0 })
    (unit_result a store out_len u b)

unfoldable pub unit_out_given : Addresses → List ℕ → UnitState → List ℕ → List ℕ → List ℕ
unit_out_given a store u b out = unless (different a) out (unit_out a store u b out)

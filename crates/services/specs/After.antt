-- What becomes of the state at a good frame: the column "new phase" of document 01's table.
use Rattle.std.specs.Prelude.{ℕ, cond}
use Rattle.octets.specs.declared.Part.{Part}
use Rattle.catalog.specs.declared.AnswerName.{AnswerName}
use Rattle.split.specs.declared.SubMessage.{SubMessage}
use Rattle.split.specs.Split.{is_split}
use Rattle.services.specs.declared.Phase.{Phase}
use Rattle.services.specs.declared.Phase.TheVariants.{Closed, Started, Session, Granted, Sending}
use Rattle.services.specs.declared.UnitState.{UnitState}
use Rattle.services.specs.declared.Reaction.{Reaction}
use Rattle.services.specs.declared.Reaction.TheVariants.{Ignored, CommunicationStarted, SessionOpened}
use Rattle.services.specs.declared.Reaction.TheVariants.{RateOffered, RateChanged, UploadGranted, AnswerSent}
use Rattle.services.specs.declared.Reaction.TheVariants.{AnswerStopped, TransferExited, CommunicationStopped}
use Rattle.services.specs.declared.Reaction.TheVariants.{Negative}
use Rattle.services.specs.State.{data_length}

abbrev pub with_rate : UnitState → ℕ → ℕ → Phase → UnitState
with_rate u rate pending phase = record { kind = u.kind; rate = rate; pending = pending; phase = phase }

-- "Every good frame heard clears a pending rate, except the one that sets it"
abbrev pub with_phase : UnitState → Phase → UnitState
with_phase u phase = with_rate u u.rate 0 phase

-- "unsplit answer, granted; or sub message 1, sending"
abbrev pub phase_after : AnswerName → SubMessage → Part → Phase
phase_after name k part = cond (is_split (data_length part)) (Sending name k) Granted

-- a refusal by wire code: "the phase stays"
unfoldable pub state_after : UnitState → Reaction → UnitState
state_after u Ignored = u
state_after u CommunicationStarted = with_rate u 1 0 Started
state_after u SessionOpened = with_phase u Session
state_after u (RateOffered r) = with_rate u u.rate r u.phase
state_after u RateChanged = with_rate u u.pending 0 u.phase
state_after u UploadGranted = with_phase u Granted
state_after u (AnswerSent name k part) = with_phase u (phase_after name k part)
state_after u AnswerStopped = with_phase u Granted
state_after u TransferExited = with_phase u Session
state_after u CommunicationStopped = with_rate u 1 0 Closed
state_after u (Negative sid code) = with_phase u u.phase

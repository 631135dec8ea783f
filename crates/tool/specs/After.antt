-- What follows from an event, by what it means: the next state, the frame that goes out and the room.
use Rattle.std.specs.Prelude.{ℕ, ◌+◌, cond, List, [], leb}
use Rattle.octets.specs.Buffer.{put}
use Rattle.frame.specs.declared.Addresses.{Addresses}
use Rattle.frame.specs.declared.End.TheVariants as ends
use Rattle.frame.specs.Frame.{frame_of}
use Rattle.split.specs.Codes.{stop_code}
use Rattle.progress.specs.declared.Outcome.TheVariants.{Done, NoRoom, Refused}
use Rattle.progress.specs.declared.ToolState.{ToolState}
use Rattle.arrival.specs.declared.Meaning.{Meaning}
use Rattle.arrival.specs.declared.Meaning.TheVariants.{Ignored, FailedWait, Confirmed, WholeAnswer, SubMessageTaken}
use Rattle.arrival.specs.declared.Meaning.TheVariants.{LastTaken, NoRoomForAnswer, NoRoomForSubMessage, RefusedBy}
use Rattle.arrival.specs.Meaning.{takes}
use Rattle.progress.specs.Next.{ended, waits, after_failed_wait}
use Rattle.requests.specs.Sent.{acknowledgement, frame_sent}

-- the next state; n new bytes
unfoldable pub state_after : ToolState → Meaning → ℕ → ToolState
state_after t Ignored n = t
state_after t FailedWait n = after_failed_wait t
state_after t Confirmed n = ended t Done t.held
state_after t WholeAnswer n = ended t Done (t.held + n)
state_after t SubMessageTaken n = waits t 1 (t.expected.0 + 1) (t.held + n)
state_after t LastTaken n = ended t Done (t.held + n)
state_after t NoRoomForAnswer n = ended t NoRoom t.held
state_after t NoRoomForSubMessage n = ended t NoRoom t.held
state_after t (RefusedBy code) n = ended t (Refused code) t.held

-- the frame that goes out, none for none: "expect the next, send the acknowledgement with that number";
-- "for a sub message, code FFFF is sent"
unfoldable pub sent_after : Addresses → ToolState → Meaning → List ℕ
sent_after a t Ignored = []
sent_after a t FailedWait = cond (leb 3 t.sendings) [] (frame_sent a t.request t.name t.expected.0)
sent_after a t Confirmed = []
sent_after a t WholeAnswer = []
sent_after a t SubMessageTaken = frame_sent a t.request t.name (t.expected.0 + 1)
sent_after a t LastTaken = []
sent_after a t NoRoomForAnswer = []
sent_after a t NoRoomForSubMessage = frame_of a ends.Unit (acknowledgement stop_code)
sent_after a t (RefusedBy code) = []

-- "New bytes go into the lent room right behind those already held"; "'no room', the room unchanged"
unfoldable pub room_after : ToolState → Meaning → List ℕ → List ℕ → List ℕ
room_after t m new room = cond (takes m) (put t.held new room) room

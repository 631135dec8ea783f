-- The tool's calls: begin, arrival and wait's end, with the refusals in order.
use Rattle.std.specs.Prelude.{ℕ, cond, not, ◌&&◌, List, [], length, eqb, leb}
use Rattle.frame.specs.Frame.{frame_most}
use Rattle.frame.specs.Given.{different}
use Rattle.octets.specs.Order.{unless, or_else}
use Rattle.octets.specs.Numbers.{done, format_or_address, buffer_short, out_of_turn, not_in_table, changed_by}
use Rattle.octets.specs.Buffer.{front}
use Rattle.frame.specs.declared.Addresses.{Addresses}
use Rattle.catalog.specs.Name.{name_number}
use Rattle.catalog.specs.declared.AnswerName.{AnswerName}
use Rattle.split.specs.Codes.{sub}
use Rattle.progress.specs.declared.Request.{Request}
use Rattle.progress.specs.declared.Outcome.TheVariants.{Waiting}
use Rattle.progress.specs.declared.ToolState.{ToolState}
use Rattle.octets.specs.Numbers.{number}
use Rattle.octets.specs.declared.refusal.Refusal.{Refusal}
use Rattle.std.specs.Prelude.{Result, Ok, Err}
use Rattle.octets.specs.declared.Step.{Step}
use Rattle.arrival.specs.declared.Meaning.{Meaning}
use Rattle.arrival.specs.declared.Meaning.TheVariants.{FailedWait}
use Rattle.progress.specs.State.{is_transfer, is_waiting, possible}
use Rattle.requests.specs.Sent.{frame_sent}
use Rattle.arrival.specs.Meaning.{arrival_meaning, arrival_bytes}
use Rattle.tool.specs.After.{state_after, sent_after, room_after}

-- what a call hands back: "Each returns its number with the state as handed in"
pub record ToolStep : Type 0 where
  pub number : ℕ
  pub state : ToolState
  pub len : ℕ

-- the same as the code has it, for the state handed in
abbrev pub stepped : ToolState → Result (Step ToolState) Refusal → ToolStep
stepped t (Ok step) = record { number = done; state = step.state; len = step.len }
stepped t (Err refusal) = record { number = number refusal; state = t; len = 0 }

-- Begin

-- "12: answer or request not in the table .."; beside a fixed request TREP and day are 0
unfoldable pub request_number : Request → AnswerName → ℕ
request_number request name =
    cond (is_transfer request) (name_number name) (unless (eqb name.trep 0 && eqb name.day 0) not_in_table done)

-- "Tool begin: 12, 11 (already waiting or state impossible), 4 (under 260)";
-- a state that does not wait is possible in any room
unfoldable pub begin_number : ToolState → Request → AnswerName → ℕ → ℕ
begin_number t request name out_len =
    or_else (request_number request name)
    (unless (not (is_waiting t.outcome)) out_of_turn
    (unless (leb frame_most out_len) buffer_short
    done))

-- "It sends the frame, sets sendings 1, expected 1, held 0 .., then waits"
abbrev pub begun : Request → AnswerName → ToolState
begun request name =
    record { request = request; outcome = Waiting; name = name; sendings = 1; expected = sub 1; held = 0 }

unfoldable pub begin_state : ToolState → Request → AnswerName → ℕ → ToolState
begin_state t request name out_len = changed_by (begin_number t request name out_len) (begun request name) t

unfoldable pub begin_sent : Addresses → ToolState → Request → AnswerName → ℕ → List ℕ
begin_sent a t request name out_len = changed_by (begin_number t request name out_len) (frame_sent a request name 1) []

unfoldable pub begin_result : Addresses → ToolState → Request → AnswerName → ℕ → ToolStep
begin_result a t request name out_len =
    record {
      number = begin_number t request name out_len;
      state = begin_state t request name out_len;
      len = length (begin_sent a t request name out_len);
    }

unfoldable pub begin_out : Addresses → ToolState → Request → AnswerName → List ℕ → List ℕ
begin_out a t request name out = front (begin_sent a t request name (length out)) out

-- Events

-- "Tool event: 11 (not waiting or state impossible), 4 (output under 260)"
unfoldable pub event_number : ToolState → ℕ → ℕ → ℕ
event_number t room_len out_len =
    unless (is_waiting t.outcome && possible room_len t) out_of_turn
    (unless (leb frame_most out_len) buffer_short
    done)

-- an event that means m and adds n bytes: the next state and the frame sent need no more of the room than its length
unfoldable pub event_state : ToolState → Meaning → ℕ → ℕ → ℕ → ToolState
event_state t m n room_len out_len = changed_by (event_number t room_len out_len) (state_after t m n) t

unfoldable pub event_sent : Addresses → ToolState → Meaning → ℕ → ℕ → List ℕ
event_sent a t m room_len out_len = changed_by (event_number t room_len out_len) (sent_after a t m) []

unfoldable pub event_result : Addresses → ToolState → Meaning → ℕ → ℕ → ℕ → ToolStep
event_result a t m n room_len out_len =
    record {
      number = event_number t room_len out_len;
      state = event_state t m n room_len out_len;
      len = length (event_sent a t m room_len out_len);
    }

unfoldable pub event_out : Addresses → ToolState → Meaning → ℕ → List ℕ → List ℕ
event_out a t m room_len out = front (event_sent a t m room_len (length out)) out

-- the room, with the new bytes
unfoldable pub event_room : ToolState → Meaning → List ℕ → ℕ → List ℕ → List ℕ
event_room t m new out_len room = changed_by (event_number t (length room) out_len) (room_after t m new room) room

-- a string arrives; the meaning looks at the room's length
abbrev pub arrival_result : Addresses → ToolState → List ℕ → ℕ → ℕ → ToolStep
arrival_result a t b room_len out_len =
    event_result a t (arrival_meaning a room_len t b) (length (arrival_bytes a t b)) room_len out_len

abbrev pub arrival_room : Addresses → ToolState → List ℕ → ℕ → List ℕ → List ℕ
arrival_room a t b out_len room = event_room t (arrival_meaning a (length room) t b) (arrival_bytes a t b) out_len room

abbrev pub arrival_out : Addresses → ToolState → List ℕ → ℕ → List ℕ → List ℕ
arrival_out a t b room_len out = event_out a t (arrival_meaning a room_len t b) room_len out

-- a wait ends
abbrev pub wait_result : Addresses → ToolState → ℕ → ℕ → ToolStep
wait_result a t room_len out_len = event_result a t FailedWait 0 room_len out_len

abbrev pub wait_out : Addresses → ToolState → ℕ → List ℕ → List ℕ
wait_out a t room_len out = event_out a t FailedWait room_len out

-- The calls with both addresses as given: "two equal ones are 2 in every call with them, before any other check"
-- (document 02, Req 05). The call is refused, so there is no event and no sending is counted.

abbrev pub refused_tool : ToolState → ToolStep
refused_tool t = record { number = format_or_address; state = t; len = 0 }

unfoldable pub begin_result_given : Addresses → ToolState → Request → AnswerName → ℕ → ToolStep
begin_result_given a t request name out_len =
    unless (different a) (refused_tool t) (begin_result a t request name out_len)

unfoldable pub begin_out_given : Addresses → ToolState → Request → AnswerName → List ℕ → List ℕ
begin_out_given a t request name out = unless (different a) out (begin_out a t request name out)

unfoldable pub event_result_given : Addresses → ToolState → Meaning → ℕ → ℕ → ℕ → ToolStep
event_result_given a t m n room_len out_len =
    unless (different a) (refused_tool t) (event_result a t m n room_len out_len)

unfoldable pub event_room_given : Addresses → ToolState → Meaning → List ℕ → ℕ → List ℕ → List ℕ
event_room_given a t m new out_len room = unless (different a) room (event_room t m new out_len room)

unfoldable pub event_out_given : Addresses → ToolState → Meaning → ℕ → List ℕ → List ℕ
event_out_given a t m room_len out = unless (different a) out (event_out a t m room_len out)

-- a string arrives
abbrev pub arrival_result_given : Addresses → ToolState → List ℕ → ℕ → ℕ → ToolStep
arrival_result_given a t b room_len out_len =
    event_result_given a t (arrival_meaning a room_len t b) (length (arrival_bytes a t b)) room_len out_len

abbrev pub arrival_room_given : Addresses → ToolState → List ℕ → ℕ → List ℕ → List ℕ
arrival_room_given a t b out_len room =
    event_room_given a t (arrival_meaning a (length room) t b) (arrival_bytes a t b) out_len room

abbrev pub arrival_out_given : Addresses → ToolState → List ℕ → ℕ → List ℕ → List ℕ
arrival_out_given a t b room_len out = event_out_given a t (arrival_meaning a room_len t b) room_len out

-- a wait ends
abbrev pub wait_result_given : Addresses → ToolState → ℕ → ℕ → ToolStep
wait_result_given a t room_len out_len = event_result_given a t FailedWait 0 room_len out_len

abbrev pub wait_out_given : Addresses → ToolState → ℕ → List ℕ → List ℕ
wait_out_given a t room_len out = event_out_given a t FailedWait room_len out

-- The unit's and the tool's calls on packed states: the state is unpacked, the call is made on it, and the next state
-- is packed only where nothing is refused ("Each returns its number with the state as handed in, and writes nothing").
-- They are over the addresses of both ends; packed states hold none.
use Rattle.std.specs.Prelude.{ℕ, List, length, ltb, leb}
use Rattle.octets.specs.Order.{unless}
use Rattle.octets.specs.Numbers.{done, buffer_short, out_of_turn, not_in_table, changed_by}
use Rattle.octets.specs.Buffer.{front}
use Rattle.octets.specs.declared.Written.{Written}
use Rattle.frame.specs.declared.Addresses.{Addresses}
use Rattle.frame.specs.Given.{different}
use Rattle.catalog.specs.declared.AnswerName.{AnswerName}
use Rattle.unit.specs.Call.{UnitReply}
use Rattle.services.specs.State.{fresh_unit}
use Rattle.unit.specs.Call.{unit_result_given, unit_out_given}
use Rattle.tool.specs.Call.{ToolStep}
use Rattle.progress.specs.State.{fresh_tool}
use Rattle.tool.specs.Call.{refused_tool, begin_result, begin_out, arrival_result_given, arrival_room_given}
use Rattle.tool.specs.Call.{arrival_out_given, wait_result_given, wait_out_given}
use Rattle.states.specs.Packed.{unit_size, packed_unit, unpacked_unit}
use Rattle.states.specs.Packed.{tool_size, request_from, packed_tool, unpacked_tool}

-- The unit

-- 11: kind out of range; 4: too short
unfoldable pub unit_fresh_number : ℕ → ℕ → ℕ
unit_fresh_number kind room =
    unless (ltb kind 3) out_of_turn
    (unless (leb unit_size room) buffer_short
    done)

-- it changes only the first bytes
unfoldable pub unit_fresh_state : ℕ → List ℕ → List ℕ
unit_fresh_state kind state =
    changed_by (unit_fresh_number kind (length state)) (front (packed_unit (fresh_unit kind)) state) state

-- what a step hands to the host, and the state bytes after it
unfoldable pub unit_handed : UnitReply → Written
unit_handed reply = record { number = reply.number; len = reply.len }

unfoldable pub unit_kept : UnitReply → List ℕ → List ℕ
unit_kept reply state = changed_by reply.number (packed_unit reply.state) state

-- the step on packed bytes, with a reply buffer of room bytes, and that buffer after it
abbrev pub unit_step : Addresses → List ℕ → List ℕ → ℕ → List ℕ → UnitReply
unit_step a state store room frame = unit_result_given a store room (unpacked_unit state) frame

abbrev pub unit_step_reply : Addresses → List ℕ → List ℕ → List ℕ → List ℕ → List ℕ
unit_step_reply a state store frame reply = unit_out_given a store (unpacked_unit state) frame reply

-- The tool

-- 4: too short
unfoldable pub tool_fresh_number : ℕ → ℕ
tool_fresh_number state_len = unless (leb tool_size state_len) buffer_short done

unfoldable pub tool_fresh_state : List ℕ → List ℕ
tool_fresh_state state = changed_by (tool_fresh_number (length state)) (front (packed_tool fresh_tool) state) state

unfoldable pub tool_handed : ToolStep → Written
tool_handed step = record { number = step.number; len = step.len }

unfoldable pub tool_kept : ToolStep → List ℕ → List ℕ
tool_kept step state = changed_by step.number (packed_tool step.state) state

-- "12: answer or request not in the table": a request above 5 is none; two equal addresses come before it
unfoldable pub tool_begin : Addresses → List ℕ → ℕ → AnswerName → ℕ → ToolStep
tool_begin a state request name out_len =
    unless (different a) (refused_tool (unpacked_tool state))
    (unless (leb request 5) (record { number = not_in_table; state = unpacked_tool state; len = 0 })
    (begin_result a (unpacked_tool state) (request_from request) name out_len))

unfoldable pub tool_begin_out : Addresses → List ℕ → ℕ → AnswerName → List ℕ → List ℕ
tool_begin_out a state request name out =
    unless (different a) out
    (unless (leb request 5) out
    (begin_out a (unpacked_tool state) (request_from request) name out))

-- events, with a room of room_len bytes and an output of out_len bytes
abbrev pub tool_arrival : Addresses → List ℕ → List ℕ → ℕ → ℕ → ToolStep
tool_arrival a state frame room_len out_len = arrival_result_given a (unpacked_tool state) frame room_len out_len

abbrev pub tool_arrival_room : Addresses → List ℕ → List ℕ → ℕ → List ℕ → List ℕ
tool_arrival_room a state frame out_len room = arrival_room_given a (unpacked_tool state) frame out_len room

abbrev pub tool_arrival_out : Addresses → List ℕ → List ℕ → ℕ → List ℕ → List ℕ
tool_arrival_out a state frame room_len out = arrival_out_given a (unpacked_tool state) frame room_len out

abbrev pub tool_wait : Addresses → List ℕ → ℕ → ℕ → ToolStep
tool_wait a state room_len out_len = wait_result_given a (unpacked_tool state) room_len out_len

abbrev pub tool_wait_out : Addresses → List ℕ → ℕ → List ℕ → List ℕ
tool_wait_out a state room_len out = wait_out_given a (unpacked_tool state) room_len out

-- The two cable ends as a C host drives them: packed states, room, store, frame and output are the byte slices that it
-- lends, and what a call leaves at the front of its output goes on the line. Each end is put together from the
-- definitions that the calls of tacho.h promise (specs/Calls.antt of host):
--   call                      its promise: result and state of a step, then the buffers at exit   here
--   tacho_unit_step_at        unit_handed and unit_kept of unit_step; unit_step_reply             unit_call
--   tacho_tool_begin_at       tool_handed and tool_kept of tool_begin; tool_begin_out             tool_begun
--   tacho_tool_arrived_at     tool_handed and tool_kept of tool_arrival;                          tool_arrival
--                             tool_arrival_room, tool_arrival_out
--   tacho_tool_wait_ended_at  tool_handed and tool_kept of tool_wait; tool_wait_out               tool_wait_end
-- The calls without the suffix _at promise the same of the lab's addresses.
use Rattle.std.specs.Prelude.{cond, List, ℕ, length, take, eqb}
use Rattle.std.proofs.Math.Option.{none, some}
use Rattle.octets.specs.declared.Written.{Written}
use Rattle.frame.specs.declared.Addresses.{Addresses}
use Rattle.catalog.specs.declared.AnswerName.{AnswerName}
use Rattle.unit.specs.Call.{UnitReply}
use Rattle.tool.specs.Call.{ToolStep}
use Rattle.host.specs.Calls as calls
use Rattle.host.specs.Calls.{unit_handed, unit_kept, unit_step, unit_step_reply, tool_handed, tool_kept, tool_begin}
use Rattle.host.specs.Calls.{tool_begin_out, tool_arrival_room, tool_arrival_out, tool_wait, tool_wait_out}
use Rattle.line.specs.Line.{Result, Ends}
use Rattle.download.specs.CableEnds.{strings}

-- What the calls are given

-- the unit's step: both addresses, the store and the reply buffer
pub record UnitGiven : Type 0 where
  pub addresses : Addresses
  pub store : List ℕ
  pub reply : List ℕ

-- an event of the tool: both addresses and the output
pub record ToolGiven : Type 0 where
  pub addresses : Addresses
  pub output : List ℕ

-- a begin: the request's number, TREP and day too
pub record BeginGiven : Type 0 where
  pub addresses : Addresses
  pub request : ℕ
  pub name : AnswerName
  pub output : List ℕ

-- the tool's state bytes beside the room that is lent to it at every event
pub record ToolBytes : Type 0 where
  pub state : List ℕ
  pub room : List ℕ

-- what a host puts on the line: the front len bytes of the output, nothing where len is 0
abbrev pub sent : Written → List ℕ → List (List ℕ)
sent written output = strings (take written.len output)

-- The two ends

abbrev pub unit_call : UnitGiven → List ℕ → List ℕ → Result (List ℕ) (List ℕ)
unit_call c state frame =
    let step : UnitReply = unit_step c.addresses state c.store (length c.reply) frame in
    record {
      next = unit_kept step state;
      out = sent (unit_handed step) (unit_step_reply c.addresses state c.store frame c.reply);
    }

abbrev pub tool_arrival : ToolGiven → ToolBytes → List ℕ → Result (List ℕ) ToolBytes
tool_arrival d t frame =
    let step : ToolStep =
    calls.tool_arrival d.addresses t.state frame (length t.room) (length d.output) in
    record {
      next = record {
        state = tool_kept step t.state;
        room = tool_arrival_room d.addresses t.state frame (length d.output) t.room;
      };
      out = sent (tool_handed step) (tool_arrival_out d.addresses t.state frame (length t.room) d.output);
    }

abbrev pub tool_wait_end : ToolGiven → ToolBytes → Result (List ℕ) ToolBytes
tool_wait_end d t =
    let step : ToolStep = tool_wait d.addresses t.state (length t.room) (length d.output) in
    record {
      next = record { state = tool_kept step t.state; room = t.room };
      out = sent (tool_handed step) (tool_wait_out d.addresses t.state (length t.room) d.output);
    }

abbrev pub begun_by : BeginGiven → ToolBytes → ToolStep
begun_by b t = tool_begin b.addresses t.state b.request b.name (length b.output)

abbrev pub tool_begun : BeginGiven → ToolBytes → Result (List ℕ) ToolBytes
tool_begun b t =
    record {
      next = record { state = tool_kept (begun_by b t) t.state; room = t.room };
      out = sent (tool_handed (begun_by b t))
          (tool_begin_out b.addresses t.state b.request b.name b.output);
    }

abbrev pub packed_ends : Ends
packed_ends =
    record {
      String = List ℕ;
      UnitState = List ℕ;
      ToolState = ToolBytes;
      UnitGiven = UnitGiven;
      ToolGiven = ToolGiven;
      BeginGiven = BeginGiven;
      HostGiven = ⊥;
      unit_call = unit_call;
      tool_arrival = tool_arrival;
      tool_wait_end = tool_wait_end;
      tool_begin = λ b t. cond (eqb (begun_by b t).number 0) (some (tool_begun b t)) none;
      host_sets = λ v u. u;
    }

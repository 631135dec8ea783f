-- The two cable ends, for the line (document 01, "The line and the book"). Each call is given both addresses
-- (document 02, Req 05), and each end is put together from the definitions that the calls promise, so that what is
-- claimed of the ends is claimed of the calls:
--   call                     its promise: result, output and room at exit                       here
--   unit::call::step         unit_result_given, unit_out_given                                  unit_call
--   tool::call::begin        begin_result_given, begin_out_given                                tool_begun
--   tool::call::arrived      arrival_result_given, arrival_out_given, arrival_room_given        tool_arrival
--   tool::call::wait_ended   wait_result_given, wait_out_given                                  tool_wait_end
-- The front `len` bytes of an output at exit are the string that is put out here (proofs/Calls.antt).
use Rattle.std.specs.Prelude.{Bool, cond, not, List, [], ◌∷◌, ℕ, length, eqb}
use Rattle.std.proofs.Math.Option.{none, some}
use Rattle.octets.specs.Order.{unless}
use Rattle.frame.specs.declared.Addresses.{Addresses}
use Rattle.frame.specs.declared.End.TheVariants as ends
use Rattle.frame.specs.Frame.{judged}
use Rattle.frame.specs.Given.{different}
use Rattle.catalog.specs.declared.AnswerName.{AnswerName}
use Rattle.services.specs.declared.UnitState.{UnitState}
use Rattle.unit.specs.Call.{unit_reply, unit_result_given}
use Rattle.progress.specs.declared.Request.{Request}
use Rattle.progress.specs.declared.ToolState.{ToolState}
use Rattle.arrival.specs.declared.Meaning.TheVariants.{FailedWait}
use Rattle.arrival.specs.Meaning.{arrival_meaning}
use Rattle.tool.specs.Call.{ToolStep}
use Rattle.tool.specs.Call.{begin_sent, event_sent, begin_result_given, arrival_result_given, arrival_room_given}
use Rattle.tool.specs.Call.{wait_result_given}
use Rattle.line.specs.Line.{Result, Ends, End, unit_end, tool_end}

-- What the calls are given

-- a unit's call: both addresses, the store's bytes and the length of the reply buffer
pub record UnitGiven : Type 0 where
  pub addresses : Addresses
  pub store : List ℕ
  pub reply : ℕ

-- a tool's event: both addresses and the length of the output
pub record ToolGiven : Type 0 where
  pub addresses : Addresses
  pub output : ℕ

-- a tool's begin: request and name too
pub record BeginGiven : Type 0 where
  pub addresses : Addresses
  pub request : Request
  pub name : AnswerName
  pub output : ℕ

-- the tool's state beside the room that is lent to it at every event
pub record ToolRoom : Type 0 where
  pub state : ToolState
  pub room : List ℕ

-- "The line is two queues of byte strings": a call that puts out no bytes puts out no string
abbrev pub strings : List ℕ → List (List ℕ)
strings [] = []
strings (x ∷ xs) = (x ∷ xs) ∷ []

-- The two cable ends

abbrev pub unit_call : UnitGiven → UnitState → List ℕ → Result (List ℕ) UnitState
unit_call c u b =
    record {
      next = (unit_result_given c.addresses c.store c.reply u b).state;
      out = strings (unless (different c.addresses) [] (unit_reply c.addresses c.store c.reply u b));
    }

abbrev pub tool_arrival : ToolGiven → ToolRoom → List ℕ → Result (List ℕ) ToolRoom
tool_arrival d t b =
    record {
      next = record {
        state = (arrival_result_given d.addresses t.state b (length t.room) d.output).state;
        room = arrival_room_given d.addresses t.state b d.output t.room;
      };
      out = strings
          (unless (different d.addresses) []
          (event_sent d.addresses t.state (arrival_meaning d.addresses (length t.room) t.state b)
          (length t.room) d.output));
    }

abbrev pub tool_wait_end : ToolGiven → ToolRoom → Result (List ℕ) ToolRoom
tool_wait_end d t =
    record {
      next = record {
        state = (wait_result_given d.addresses t.state (length t.room) d.output).state;
        room = t.room;
      };
      out = strings
          (unless (different d.addresses) []
          (event_sent d.addresses t.state FailedWait (length t.room) d.output));
    }

abbrev pub begun_by : BeginGiven → ToolRoom → ToolStep
begun_by b t = begin_result_given b.addresses t.state b.request b.name b.output

abbrev pub tool_begun : BeginGiven → ToolRoom → Result (List ℕ) ToolRoom
tool_begun b t =
    record {
      next = record { state = (begun_by b t).state; room = t.room };
      out = strings
          (unless (different b.addresses) []
          (begin_sent b.addresses t.state b.request b.name b.output));
    }

abbrev pub cable_ends : Ends
cable_ends =
    record {
      String = List ℕ;
      UnitState = UnitState;
      ToolState = ToolRoom;
      UnitGiven = UnitGiven;
      ToolGiven = ToolGiven;
      BeginGiven = BeginGiven;
      HostGiven = ⊥;
      unit_call = unit_call;
      tool_arrival = tool_arrival;
      tool_wait_end = tool_wait_end;
      tool_begin = λ b t. cond (eqb (begun_by b t).number 0) (some (tool_begun b t)) none;
      host_sets = λ v u. u;
    }

-- spoiled: the receiving end's frame rules refuse the string
abbrev pub refused : Addresses → End → List ℕ → Bool
refused a unit_end b = not (eqb (judged a ends.Unit b) 0)
refused a tool_end b = not (eqb (judged a ends.Tool b) 0)

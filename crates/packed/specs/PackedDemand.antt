-- DEMAND 3 for the calls that a C host links, at any two different addresses: the claim of crate download, of runs
-- whose ends are driven through packed bytes. The chain: a call of tacho.h → its promise → a definition
-- (specs/Calls.antt of host) → an end of the cable (PackedEnds.antt) → line, events and book (specs/ of line) → what
-- holds (Agrees and AgreesClean of download) of the states that the bytes are. proofs/Theorem.antt proves it.
use Rattle.std.specs.Prelude.{◌≡◌, List, ◌≢◌, ℕ, ◌≤◌, length, leb}
use Rattle.octets.specs.Buffer.{Bytes}
use Rattle.frame.specs.Frame.{frame_most}
use Rattle.frame.specs.declared.Addresses.{Addresses}
use Rattle.states.specs.Packed.{packed_unit, unpacked_unit, request_byte, packed_tool, unpacked_tool}
use Rattle.progress.specs.declared.Request.TheVariants as requests
use Rattle.line.specs.Line.{System, Event}
use Rattle.line.specs.Book as books
use Rattle.line.specs.Book.{Run, run, start}
use Rattle.line.specs.Premises.{AllAllowed, AllClean}
use Rattle.download.specs.CableEnds as cable
use Rattle.download.specs.CableEnds.{cable_ends}
use Rattle.download.specs.Demand.{Premises, StorePremise, transfer, Agrees, AgreesClean}
use Rattle.packed.specs.PackedEnds.{UnitGiven, ToolGiven, tool_begun, packed_ends}

-- The premises of demand 3, with the state bytes and the output that a host has at the begin: those of a fresh tool, or
-- of any other state that is possible
pub record StateBytes (given : Premises) : Type 0 where
  pub unit : List ℕ
  pub tool : List ℕ
  pub output : List ℕ
  pub unit_bytes : Bytes unit
  pub tool_bytes : Bytes tool
  pub unit_is : unpacked_unit unit ≡ given.unit
  pub tool_is : unpacked_tool tool ≡ given.tool
  pub output_is : length output ≡ given.output

-- what a call is given, as lengths
abbrev pub lengths : UnitGiven → cable.UnitGiven
lengths c = record { addresses = c.addresses; store = c.store; reply = length c.reply }

abbrev pub output_length : ToolGiven → cable.ToolGiven
output_length d = record { addresses = d.addresses; output = length d.output }

module _ (a : Addresses) (given : Premises) (bytes : StateBytes given) where
  -- The transfer is the same one: its frames, its premises on each call, and the begin on packed bytes
  abbrev pub packed_transfer : books.Transfer packed_ends
  packed_transfer =
      record {
        q = (transfer a given).q;
        frame = (transfer a given).frame;
        same = (transfer a given).same;
        refused = (transfer a given).refused;
        asks_time = (transfer a given).asks_time;
        time_most = (transfer a given).time_most;
        owed = (transfer a given).owed;
        unit_premise = λ state c. (c.addresses ≡ a) × StorePremise given (unpacked_unit state) c.store;
        tool_premise = λ d. (d.addresses ≡ a) × (frame_most ≤ length d.output);
        has_room = λ c. leb frame_most (length c.reply);
        unit = bytes.unit;
        begun = tool_begun
            (record {
              addresses = a;
              request = request_byte requests.Transfer;
              name = given.name;
              output = bytes.output;
            })
            (record { state = bytes.tool; room = given.room });
      }

-- the same system and run with the states that the bytes are
abbrev pub unpacked_system : System packed_ends → System cable_ends
unpacked_system s =
    record {
      to_unit = s.to_unit;
      to_tool = s.to_tool;
      unit = unpacked_unit s.unit;
      tool = record { state = unpacked_tool s.tool.state; room = s.tool.room };
      put_out = s.put_out;
      unit_arrivals = s.unit_arrivals;
      tool_arrivals = s.tool_arrivals;
    }

abbrev pub unpacked_run : Run packed_ends → Run cable_ends
unpacked_run r = record { system = unpacked_system r.system; book = r.book; put_out_before = r.put_out_before }

-- the bytes are what these states are packed as
pub record Packs (s : System packed_ends) : Type 0 where
  pub unit : s.unit ≡ packed_unit (unpacked_unit s.unit)
  pub tool : s.tool.state ≡ packed_tool (unpacked_tool s.tool.state)

module _ (a : Addresses) (given : Premises) (bytes : StateBytes given) where
  abbrev pub packed_start : Run packed_ends
  packed_start = start packed_ends (packed_transfer a given bytes)

  abbrev pub packed_run : List (Event packed_ends) → Run packed_ends
  packed_run events = run packed_ends (packed_transfer a given bytes) events packed_start

  pub record PackedClaim (events : List (Event packed_ends)) : Type 0 where
    -- what demand 3 says, of the states that the bytes are
    pub allowed : AllAllowed packed_ends (packed_transfer a given bytes) events packed_start.system
        → Agrees a given (unpacked_run (packed_run events))
    pub clean : AllClean packed_ends (packed_transfer a given bytes) events packed_start.system
        → AgreesClean a given (unpacked_run (packed_run events))
    -- the bytes say no more than these states
    pub packs : AllAllowed packed_ends (packed_transfer a given bytes) events packed_start.system
        → Packs (packed_run events).system

abbrev pub PackedDemand3 : Type 0
PackedDemand3 =
    (a : Addresses) → a.unit ≢ a.tool
    → (given : Premises) (bytes : StateBytes given) (events : List (Event packed_ends))
    → PackedClaim a given bytes events

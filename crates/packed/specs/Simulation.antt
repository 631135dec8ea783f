-- A packed call does what the Rattle call does: after it the state bytes are the packing of the state that the Rattle
-- call gives on the unpacked one, and unpacking gives that state back. So every call keeps the bounds that packing
-- needs.
-- A refused call leaves the bytes, and the Rattle call its state.
use Rattle.std.specs.Prelude.{true, List, ◌≡◌, ℕ, ◌<◌, ◌≤◌, length}
use Rattle.octets.specs.Buffer.{Bytes}
use Rattle.frame.specs.declared.Addresses.{Addresses}
use Rattle.catalog.specs.declared.AnswerName.{AnswerName}
use Rattle.services.specs.declared.UnitState.{UnitState}
use Rattle.services.specs.State.{fresh_unit}
use Rattle.unit.specs.Call.{unit_result_given}
use Rattle.progress.specs.declared.ToolState.{ToolState}
use Rattle.progress.specs.State.{fresh_tool}
use Rattle.tool.specs.Call.{begin_result_given, arrival_result_given, wait_result_given}
use Rattle.states.specs.Packed.{packed_unit, is_unit, unpacked_unit, request_from, packed_tool, is_tool, unpacked_tool}
use Rattle.host.specs.Calls.{unit_fresh_state, unit_kept, unit_step}
use Rattle.host.specs.Calls.{tool_fresh_state, tool_kept, tool_begin, tool_arrival, tool_wait}

-- the bytes are this state, packed, and are read as it
pub record UnitIs (bytes : List ℕ) (u : UnitState) : Type 0 where
  pub packed : bytes ≡ packed_unit u
  pub unpacked : unpacked_unit bytes ≡ u

pub record ToolIs (bytes : List ℕ) (t : ToolState) : Type 0 where
  pub packed : bytes ≡ packed_tool t
  pub unpacked : unpacked_tool bytes ≡ t

pub record Simulation : Type 0 where
  -- the fresh calls, on a slice of exactly the state's size
  pub unit_fresh : (kind : ℕ) (state : List ℕ) → kind < 3 → length state ≡ 11
      → UnitIs (unit_fresh_state kind state) (fresh_unit kind)
  pub tool_fresh : (state : List ℕ) → length state ≡ 15 → ToolIs (tool_fresh_state state) fresh_tool
  -- a step of the unit, whatever addresses it is given
  pub unit_step : (a : Addresses) (state store frame reply : List ℕ) → Bytes state → Bytes frame → is_unit state ≡ true
      → UnitIs (unit_kept (unit_step a state store (length reply) frame) state)
      (unit_result_given a store (length reply) (unpacked_unit state) frame).state
  -- a begin of the tool; the day is a u32
  pub tool_begin : (a : Addresses) (state : List ℕ) (request : ℕ) (name : AnswerName) (output : List ℕ) → Bytes state
      → is_tool state ≡ true → request ≤ 5 → name.day < 0x100000000
      → ToolIs (tool_kept (tool_begin a state request name (length output)) state)
      (begin_result_given a (unpacked_tool state) (request_from request) name (length output)).state
  -- an arrival and a wait's end
  pub tool_arrival : (a : Addresses) (state frame room output : List ℕ) → Bytes state → is_tool state ≡ true
      → ToolIs (tool_kept (tool_arrival a state frame (length room) (length output)) state)
      (arrival_result_given a (unpacked_tool state) frame (length room) (length output)).state
  pub tool_wait : (a : Addresses) (state room output : List ℕ) → Bytes state → is_tool state ≡ true
      → ToolIs (tool_kept (tool_wait a state (length room) (length output)) state)
      (wait_result_given a (unpacked_tool state) (length room) (length output)).state

-- What is claimed of packed states: packing and unpacking undo each other. proofs/Claims.antt proves it.
use Rattle.std.specs.Prelude.{ℕ, ◌<◌, true, List, ◌≡◌}
use Rattle.octets.specs.Buffer.{Bytes}
use Rattle.services.specs.declared.UnitState.{UnitState}
use Rattle.progress.specs.declared.ToolState.{ToolState}
use Rattle.states.specs.Packed.{name_packed, last_packed, packed_unit, is_unit, unpacked_unit}
use Rattle.states.specs.Packed.{packed_tool, is_tool, unpacked_tool}

pub record StateClaims : Type 0 where
  -- a state comes back from its packed bytes; its day, number and count of bytes held fit their fields
  pub unit_back : (u : UnitState) → (name_packed u.phase).day < 0x100000000 → (last_packed u.phase).0 < 0x10000
      → unpacked_unit (packed_unit u) ≡ u
  pub tool_back : (t : ToolState) → t.name.day < 0x100000000 → t.expected.0 < 0x10000 → t.held < 0x100000000
      → unpacked_tool (packed_tool t) ≡ t
  -- bytes that are a state come back from it
  pub unit_again : (state : List ℕ) → Bytes state → is_unit state ≡ true → packed_unit (unpacked_unit state) ≡ state
  pub tool_again : (state : List ℕ) → Bytes state → is_tool state ≡ true → packed_tool (unpacked_tool state) ≡ state

-- What a host reads of packed states.
use Rattle.std.specs.Prelude.{ℕ, cond, List}
use Rattle.services.specs.declared.UnitState.{UnitState}
use Rattle.progress.specs.declared.ToolState.{ToolState}
use Rattle.states.specs.declared.UnitReading.{UnitReading}
use Rattle.states.specs.declared.UnitReading.TheVariants as units
use Rattle.states.specs.declared.ToolReading.{ToolReading}
use Rattle.states.specs.declared.ToolReading.TheVariants as tools
use Rattle.states.specs.Packed.{phase_byte, is_unit, unpacked_unit, outcome_byte, code_byte, is_tool, unpacked_tool}

-- no number of a state: the largest of 64 bits
abbrev pub no_state : ℕ
no_state = 0xFFFFFFFFFFFFFFFF

-- kind, rate and phase of a unit: 0 closed, 1 started, 2 session, 3 granted, 4 sending
unfoldable pub unit_value : UnitReading → UnitState → ℕ
unit_value units.Kind u = u.kind
unit_value units.Rate u = u.rate
unit_value units.Phase u = phase_byte u.phase

unfoldable pub unit_read : UnitReading → List ℕ → ℕ
unit_read what b = cond (is_unit b) (unit_value what (unpacked_unit b)) no_state

-- outcome of a tool (0 fresh, 1 waiting, 2 done, 3 no answer, 4 no room, 5 ended with a wire code), that code, the
-- number expected and the bytes held
unfoldable pub tool_value : ToolReading → ToolState → ℕ
tool_value tools.Outcome t = outcome_byte t.outcome
tool_value tools.Code t = code_byte t.outcome
tool_value tools.Expected t = t.expected.0
tool_value tools.Held t = t.held

unfoldable pub tool_read : ToolReading → List ℕ → ℕ
tool_read what b = cond (is_tool b) (tool_value what (unpacked_tool b)) no_state

-- Ends and addresses as C hosts give them. at_tool and to_tool: true is the tool, false the unit.
use Rattle.std.specs.Prelude.{ℕ, Bool, true, false}
use Rattle.frame.specs.declared.End.{End}
use Rattle.frame.specs.declared.End.TheVariants as ends
use Rattle.frame.specs.declared.Addresses.{Addresses}

abbrev pub end_of : Bool → End
end_of true = ends.Tool
end_of false = ends.Unit

-- unit and tool, the first two of every call with the suffix _at; a call without it has those of the lab
abbrev pub given : ℕ → ℕ → Addresses
given unit tool = record { unit = unit; tool = tool }

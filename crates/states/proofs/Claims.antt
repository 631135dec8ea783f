-- The claims of specs/Claims.antt, each from its law.
use Rattle.states.specs.Claims.{StateClaims}
use Rattle.states.proofs.UnitLaws.{unit-back, unit-again}
use Rattle.states.proofs.ToolLaws.{tool-back, tool-again}

pub claims : StateClaims
claims = record { unit_back = unit-back; tool_back = tool-back; unit_again = unit-again; tool_again = tool-again }

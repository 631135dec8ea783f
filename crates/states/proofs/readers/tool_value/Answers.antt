-- One number for each reading.
use Rattle.states.specs.Readers.{tool_value}
use Rattle.std.proofs.Common.{rules}
use Rattle.states.proofs.readers.tool_value.Goals as goal

pub returns-in-Outcome : goal.returns-in-Outcome
unfolding tool_value
returns-in-Outcome c = search rules

pub returns-in-Code : goal.returns-in-Code
unfolding tool_value
returns-in-Code c = search rules

pub returns-in-Expected : goal.returns-in-Expected
unfolding tool_value
returns-in-Expected c = search rules

pub returns-in-Held : goal.returns-in-Held
unfolding tool_value
returns-in-Held c = search rules

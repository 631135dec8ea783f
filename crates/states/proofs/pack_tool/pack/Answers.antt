-- The bytes of the state.
use Rattle.states.proofs.ToolLaws.{tool-packed}
use Rattle.std.proofs.Common.{rules}
use Rattle.states.proofs.pack_tool.pack.Goals as goal

ruleset all = (rules, tool-packed)

pub returns : goal.returns
returns c = search all

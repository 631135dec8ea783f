-- Each field as it stands.
use Rattle.states.proofs.ToolLaws.{tool-some}
use Rattle.std.proofs.Common.{rules}
use Rattle.states.proofs.pack_tool.state_in.Goals as goal

ruleset all = (rules, tool-some)

pub returns : goal.returns
returns c = search all

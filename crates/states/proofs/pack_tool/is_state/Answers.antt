-- Each return is the first test that decides.
use Rattle.states.proofs.ToolLaws.{tool-length, tool-request, tool-outcome, tool-refused, tool-code}
use Rattle.std.proofs.Common.{rules}
use Rattle.states.proofs.pack_tool.is_state.Goals as goal

ruleset all = (rules, tool-length, tool-request, tool-outcome, tool-refused, tool-code)

pub returns-then-bytes-ne-SIZE : goal.returns-then-bytes-ne-SIZE
returns-then-bytes-ne-SIZE c = search all

pub returns-then-bytes-gt5 : goal.returns-then-bytes-gt5
returns-then-bytes-gt5 c = search all

pub returns-then-bytes-gt5-2 : goal.returns-then-bytes-gt5-2
returns-then-bytes-gt5-2 c = search all

pub returns-then-bytes-eq5 : goal.returns-then-bytes-eq5
returns-then-bytes-eq5 c = search all

pub returns : goal.returns
returns c = search all

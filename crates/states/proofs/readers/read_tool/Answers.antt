-- The number of the state, or that of none.
use Rattle.states.specs.Readers.{tool_value, tool_read}
use Rattle.states.proofs.ReaderLaws.{read-some, read-none}
use Rattle.states.proofs.readers.read_tool.Goals as goal

pub returns-in-Some : goal.returns-in-Some
unfolding tool_read
returns-in-Some c = read-some _ c.in-Some.tool _ (tool_value c.args.what) _ _ c.in-Some.ensures c.tool_value.ensures

pub returns-in-None : goal.returns-in-None
unfolding tool_read
returns-in-None c = read-none _ _ (tool_value c.args.what) _ c.in-None.ensures

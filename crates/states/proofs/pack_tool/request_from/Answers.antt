-- The conversion gives it, or, above 5, the transfer.
use Rattle.std.proofs.Common.{◌∙◌}
use Rattle.states.proofs.ToolLaws.{request-read}
use Rattle.states.proofs.pack_tool.request_from.Goals as goal

pub returns : goal.returns
returns c = c.unwrap_or.ensures ∙ request-read c.args.byte c.try_from.result c.try_from.ensures

-- Refused, or the state in front.
use Rattle.host.proofs.CallLaws.{tool-short, tool-short-kept, tool-good, tool-good-packed}
use Rattle.std.proofs.Common.{rules}
use Rattle.host.proofs.tool_calls.fresh.Goals as goal

ruleset all = (rules, tool-short, tool-short-kept, tool-good, tool-good-packed)

pub returns-then-state-lt-SIZE-clause-value : goal.returns-then-state-lt-SIZE-clause-value
returns-then-state-lt-SIZE-clause-value c = search all

pub returns-then-state-lt-SIZE-clause-state_after : goal.returns-then-state-lt-SIZE-clause-state_after
returns-then-state-lt-SIZE-clause-state_after c = search all

pub returns-clause-value : goal.returns-clause-value
returns-clause-value c = search all

pub returns-clause-state_after : goal.returns-clause-state_after
returns-clause-state_after c = search all

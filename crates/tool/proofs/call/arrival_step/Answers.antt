-- The step of what the string means.
use Rattle.tool.proofs.CallLaws.{arrival-transfer, arrival-most, arrival-result, arrival-out}
use Rattle.std.proofs.Common.{rules}
use Rattle.tool.proofs.call.arrival_step.Goals as goal

ruleset all = (rules, arrival-transfer, arrival-most, arrival-result, arrival-out)

pub event_step-requires-clause-request_value : goal.event_step-requires-clause-request_value
event_step-requires-clause-request_value c = arrival-transfer _ _ _ _ _ c.arrival_of-arrival.ensures

pub event_step-requires-clause-bound : goal.event_step-requires-clause-bound
event_step-requires-clause-bound c = arrival-most _ _ _ _ _ c.arrival_of-arrival.ensures

pub returns-clause-value : goal.returns-clause-value
returns-clause-value c = search all

pub returns-clause-out_after : goal.returns-clause-out_after
returns-clause-out_after c = search all

-- A failed wait takes nothing.
use Rattle.tool.proofs.AfterLaws.{failed-takes}
use Rattle.tool.proofs.call.wait_step.Goals as goal

pub event_step-requires-clause-request_value : goal.event_step-requires-clause-request_value
event_step-requires-clause-request_value c = failed-takes

pub event_step-requires-clause-bound : goal.event_step-requires-clause-bound
event_step-requires-clause-bound c = failed-takes

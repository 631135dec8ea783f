-- The refusals in order; then the state in front.
use Rattle.host.proofs.CallLaws.{fresh-kind, fresh-kind-kept, fresh-short, fresh-short-kept, fresh-good, fresh-good-packed}
use Rattle.std.proofs.Common.{rules}
use Rattle.host.proofs.unit_calls.fresh.Goals as goal

ruleset all = (rules, fresh-kind, fresh-kind-kept, fresh-short, fresh-short-kept, fresh-good, fresh-good-packed)

pub returns-in_err-try_from-clause-value : goal.returns-in_err-try_from-clause-value
returns-in_err-try_from-clause-value c = search all

pub returns-in_err-try_from-clause-state_after : goal.returns-in_err-try_from-clause-state_after
returns-in_err-try_from-clause-state_after c = search all

pub returns-then-state-lt-SIZE-clause-value : goal.returns-then-state-lt-SIZE-clause-value
returns-then-state-lt-SIZE-clause-value c = search all

pub returns-then-state-lt-SIZE-clause-state_after : goal.returns-then-state-lt-SIZE-clause-state_after
returns-then-state-lt-SIZE-clause-state_after c = search all

pub returns-clause-value : goal.returns-clause-value
returns-clause-value c = search all

pub returns-clause-state_after : goal.returns-clause-state_after
returns-clause-state_after c = search all

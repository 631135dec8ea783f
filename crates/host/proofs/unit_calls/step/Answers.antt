-- The call on the state that the bytes are.
use Rattle.std.proofs.Common.{refl, rules}
use Rattle.octets.proofs.CallLaws.{refused-number}
use Rattle.host.proofs.CallLaws.{step-handed, step-stays, step-moves, step-reply}
use Rattle.host.proofs.unit_calls.step.Goals as goal

pub returns-in_err-step-clause-value : goal.returns-in_err-step-clause-value
returns-in_err-step-clause-value c =
    let handed = step-handed _ _ _ c.unpack-was.ensures _ _ _ _ c.in_err-step.ensures.value _ refl in
    search rules

pub returns-in_err-step-clause-state_after : goal.returns-in_err-step-clause-state_after
returns-in_err-step-clause-state_after c =
    step-stays _ _ _ c.unpack-was.ensures _ _ _ _ c.in_err-step.ensures.value (refused-number _)

pub returns-in_err-step-clause-reply_after : goal.returns-in_err-step-clause-reply_after
returns-in_err-step-clause-reply_after c = search (rules, step-reply)

pub returns-clause-value : goal.returns-clause-value
returns-clause-value c = step-handed _ _ _ c.unpack-was.ensures _ _ _ _ c.in_ok-step.ensures.value _ refl

pub returns-clause-state_after : goal.returns-clause-state_after
returns-clause-state_after c =
    step-moves _ _ _ c.unpack-was.ensures _ _ _ _ c.in_ok-step.ensures.value _ _ refl c.pack.ensures c.copy_in.ensures

pub returns-clause-reply_after : goal.returns-clause-reply_after
returns-clause-reply_after c = search (rules, step-reply)

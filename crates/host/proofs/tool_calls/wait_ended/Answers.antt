-- The call on the state that the bytes are.
use Rattle.std.proofs.Common.{refl, rules}
use Rattle.octets.proofs.CallLaws.{refused-number}
use Rattle.host.proofs.CallLaws.{wait-state, tool-handed, tool-stays, tool-moves, wait-called, wait-out}
use Rattle.host.proofs.tool_calls.wait_ended.Goals as goal

pub returns-in_err-step-clause-value : goal.returns-in_err-step-clause-value
returns-in_err-step-clause-value c =
    let handed = tool-handed _ _ (wait-called _ _ _ c.unpack-was.ensures _ _ _ c.in_err-step.ensures.value) _ refl in
    search rules

pub returns-in_err-step-clause-state_after : goal.returns-in_err-step-clause-state_after
returns-in_err-step-clause-state_after c =
    tool-stays _ _ (wait-called _ _ _ c.unpack-was.ensures _ _ _ c.in_err-step.ensures.value) _ (refused-number _)

pub returns-clause-value : goal.returns-clause-value
returns-clause-value c = tool-handed _ _ (wait-called _ _ _ c.unpack-was.ensures _ _ _ c.in_ok-step.ensures.value) _ refl

pub returns-clause-state_after : goal.returns-clause-state_after
returns-clause-state_after c =
    tool-moves _ _ (wait-called _ _ _ c.unpack-was.ensures _ _ _ c.in_ok-step.ensures.value) _ _ _ (wait-state _ _ _ _ _ _ _ c.unpack-was.ensures c.in_ok-step.ensures.value c.pack.ensures) refl c.pack.ensures c.copy_in.ensures

pub returns-in_err-step-clause-out_after : goal.returns-in_err-step-clause-out_after
returns-in_err-step-clause-out_after c = search (rules, wait-out)

pub returns-clause-out_after : goal.returns-clause-out_after
returns-clause-out_after c = search (rules, wait-out)

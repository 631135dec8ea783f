-- Equal addresses, no such request, or the call on the state that the bytes are.
use Rattle.std.proofs.Common.{refl, rules, length}
use Rattle.octets.proofs.CallLaws.{refused-number}
use Rattle.host.proofs.CallLaws.{begin-equal, begin-equal-kept, begin-equal-out, begin-none, begin-none-kept, begin-none-out, begin-state, tool-handed, tool-stays, tool-moves, begin-called, begin-out}
use Rattle.host.proofs.tool_calls.begin.Goals as goal

pub returns-in_err-differ-clause-value : goal.returns-in_err-differ-clause-value
returns-in_err-differ-clause-value c =
    let equal = begin-equal _ c.args.state.now c.args.request c.args.name _ c.in_err-differ.ensures (refused-number _) (length c.args.out.now) in
    search rules

pub returns-in_err-differ-clause-state_after : goal.returns-in_err-differ-clause-state_after
returns-in_err-differ-clause-state_after c = begin-equal-kept _ _ _ _ _ c.in_err-differ.ensures (refused-number _) _

pub returns-in_err-differ-clause-out_after : goal.returns-in_err-differ-clause-out_after
returns-in_err-differ-clause-out_after c = begin-equal-out _ _ _ _ _ c.in_err-differ.ensures (refused-number _) _

pub returns-in_err-asked-clause-value : goal.returns-in_err-asked-clause-value
returns-in_err-asked-clause-value c =
    let none = begin-none _ c.args.state.now _ c.args.name c.in_ok-differ.ensures c.in_err-asked.ensures.1 (length c.args.out.now) in
    search rules

pub returns-in_err-asked-clause-state_after : goal.returns-in_err-asked-clause-state_after
returns-in_err-asked-clause-state_after c = begin-none-kept _ _ _ _ c.in_ok-differ.ensures c.in_err-asked.ensures.1 _

pub returns-in_err-asked-clause-out_after : goal.returns-in_err-asked-clause-out_after
returns-in_err-asked-clause-out_after c = begin-none-out _ _ _ _ c.in_ok-differ.ensures _ c.in_err-asked.ensures.1

pub returns-in_err-step-clause-value : goal.returns-in_err-step-clause-value
returns-in_err-step-clause-value c =
    let called = begin-called _ _ _ _ c.in_ok-differ.ensures _ _ c.unpack-was.ensures c.in_ok-asked.ensures _ _ c.in_err-step.ensures.value in
    let handed = tool-handed _ _ called _ refl in
    search rules

pub returns-in_err-step-clause-state_after : goal.returns-in_err-step-clause-state_after
returns-in_err-step-clause-state_after c =
    let called = begin-called _ _ _ _ c.in_ok-differ.ensures _ _ c.unpack-was.ensures c.in_ok-asked.ensures _ _ c.in_err-step.ensures.value in
    tool-stays _ _ called _ (refused-number _)

pub returns-in_err-step-clause-out_after : goal.returns-in_err-step-clause-out_after
returns-in_err-step-clause-out_after c =
    begin-out _ _ _ _ c.in_ok-differ.ensures _ _ c.unpack-was.ensures c.in_ok-asked.ensures _ _ c.begin.ensures.out_after

pub returns-clause-value : goal.returns-clause-value
returns-clause-value c =
    let called = begin-called _ _ _ _ c.in_ok-differ.ensures _ _ c.unpack-was.ensures c.in_ok-asked.ensures _ _ c.in_ok-step.ensures.value in
    tool-handed _ _ called _ refl

pub returns-clause-state_after : goal.returns-clause-state_after
returns-clause-state_after c =
    let called = begin-called _ _ _ _ c.in_ok-differ.ensures _ _ c.unpack-was.ensures c.in_ok-asked.ensures _ _ c.in_ok-step.ensures.value in
    tool-moves _ _ called _ _ _ (begin-state _ _ _ _ _ _ _ _ c.unpack-was.ensures c.in_ok-step.ensures.value c.pack.ensures) refl c.pack.ensures c.copy_in.ensures

pub returns-clause-out_after : goal.returns-clause-out_after
returns-clause-out_after c =
    begin-out _ _ _ _ c.in_ok-differ.ensures _ _ c.unpack-was.ensures c.in_ok-asked.ensures _ _ c.begin.ensures.out_after

-- The step of what the string means; where it is not refused the room takes the new bytes.
use Rattle.octets.proofs.CallLaws.{refused-number}
use Rattle.tool.proofs.CallLaws.{arrival-transfer, arrival-most, arrival-result, arrival-out, arrival-place, arrival-room, arrived-kept, arrived-taken}
use Rattle.frame.specs.declared.End.TheVariants as ends
use Rattle.frame.proofs.CheckLaws.{place-within, place-data}
use Rattle.std.proofs.Common.{refl, rules, ◌∙◌}
use Rattle.tool.proofs.call.arrived.Goals as goal

ruleset all = (rules, refused-number, arrival-transfer, arrival-most, arrival-result, arrival-out, arrival-place, arrival-room, arrived-kept, arrived-taken)

pub overflow_add-end : goal.overflow_add-end
overflow_add-end c =
    let within = place-within _ ends.Tool _ _ (c.from-place.ensures ∙ arrival-place _ _ _ _ _ c.arrival_of-arrival.ensures) in
    search rules

pub slice_bounds-data-end : goal.slice_bounds-data-end
slice_bounds-data-end c =
    let within = place-within _ ends.Tool _ _ (c.from-place.ensures ∙ arrival-place _ _ _ _ _ c.arrival_of-arrival.ensures) in
    search rules

pub take_in-requires : goal.take_in-requires
take_in-requires c =
    let arrived = c.arrival_of-arrival.ensures in
    arrival-room _ _ _ _ _ arrived _ (place-data _ ends.Tool _ _ (c.from-place.ensures ∙ arrival-place _ _ _ _ _ arrived))

pub event_step-requires-clause-request_value : goal.event_step-requires-clause-request_value
event_step-requires-clause-request_value c = arrival-transfer _ _ _ _ _ c.arrival_of-arrival.ensures

pub event_step-requires-clause-bound : goal.event_step-requires-clause-bound
event_step-requires-clause-bound c = arrival-most _ _ _ _ _ c.arrival_of-arrival.ensures

pub returns-in_err-step-clause-value : goal.returns-in_err-step-clause-value
returns-in_err-step-clause-value c = search all

pub returns-in_err-step-clause-room_after : goal.returns-in_err-step-clause-room_after
returns-in_err-step-clause-room_after c = search all

pub returns-in_err-step-clause-out_after : goal.returns-in_err-step-clause-out_after
returns-in_err-step-clause-out_after c = search all

pub returns-clause-value : goal.returns-clause-value
returns-clause-value c = search all

pub returns-clause-room_after : goal.returns-clause-room_after
returns-clause-room_after c =
    let arrived = c.arrival_of-arrival.ensures in
    arrived-taken _ _ _ _ _ _ arrived _ c.in_ok-step.ensures.value _ _ refl (place-data _ ends.Tool _ _ (c.from-place.ensures ∙ arrival-place _ _ _ _ _ arrived)) c.take_in.ensures

pub returns-clause-out_after : goal.returns-clause-out_after
returns-clause-out_after c = search all

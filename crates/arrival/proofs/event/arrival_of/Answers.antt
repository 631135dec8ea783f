-- Refused by the frame rules, or what its data means.
use Rattle.std.proofs.Common.{rules, ◌∙◌}
use Rattle.frame.specs.declared.End.TheVariants as ends
use Rattle.frame.proofs.CheckLaws.{place-within, place-data}
use Rattle.arrival.proofs.MeaningLaws.{arrival-refused, arrival-good}
use Rattle.arrival.proofs.event.arrival_of.Goals as goal

pub overflow_add-end : goal.overflow_add-end
overflow_add-end c = let within = place-within _ ends.Tool _ _ (c.from-place.ensures ∙ c.locate-located.ensures) in search rules

pub slice_bounds-data-end : goal.slice_bounds-data-end
slice_bounds-data-end c = let within = place-within _ ends.Tool _ _ (c.from-place.ensures ∙ c.locate-located.ensures) in search rules

pub returns-in-Ok : goal.returns-in-Ok
returns-in-Ok c =
    let data_is = place-data _ ends.Tool _ _ (c.from-place.ensures ∙ c.locate-located.ensures) in
    search arrival-good

pub returns-in-Err : goal.returns-in-Err
returns-in-Err c =
    let data_is = place-data _ ends.Tool _ _ (c.from-place.ensures ∙ c.locate-located.ensures) in
    search arrival-refused

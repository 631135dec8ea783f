-- Equal addresses; a broken store; 11 or 4; the frame's number; else the reaction says the rest.
use Rattle.std.proofs.Common.{rules, sym, refl, ◌∙◌, ℕ, ◌+◌, ◌-◌, List, take, drop}
use Rattle.octets.specs.declared.Place.{Place}
use Rattle.octets.proofs.CallLaws.{refused-number}
use Rattle.frame.specs.declared.End.TheVariants as ends
use Rattle.frame.proofs.CheckLaws.{place-number, place-within, place-data}
use Rattle.frame.proofs.GivenLaws.{given, passed-different}
use Rattle.unit.specs.Call.{unit_result_given, unit_out_given}
use Rattle.unit.proofs.CallLaws.{found-by, broken-before, accepted-room, before-result, before-out, frame-result, frame-out, done-piece, done-result, done-out}
use Rattle.unit.proofs.call.step.Goals as goal

-- the part of the frame that the code takes
abbrev part : Place → List ℕ → List ℕ
part place s = take (place.start + place.len - place.start) (drop place.start s)

ruleset equal = (rules, given, refused-number)

pub overflow_add-end : goal.overflow_add-end
overflow_add-end c = let within = place-within _ ends.Unit _ _ (c.from-place.ensures ∙ c.locate-located.ensures) in search rules

pub slice_bounds-data-end : goal.slice_bounds-data-end
slice_bounds-data-end c = let within = place-within _ ends.Unit _ _ (c.from-place.ensures ∙ c.locate-located.ensures) in search rules

pub returns-in_err-differ-clause-value : goal.returns-in_err-differ-clause-value
unfolding unit_result_given unit_out_given
returns-in_err-differ-clause-value c = search equal

pub returns-in_err-differ-clause-reply_after : goal.returns-in_err-differ-clause-reply_after
unfolding unit_result_given unit_out_given
returns-in_err-differ-clause-reply_after c = search equal

pub returns-in_err-held-clause-value : goal.returns-in_err-held-clause-value
returns-in_err-held-clause-value c =
    let apart = passed-different _ c.in_ok-differ.ensures in
    let looked = found-by _ _ _ _ c.args.state.phase (part c.from-place.result c.args.frame.now) c.in_err-held.ensures c.name_sent.ensures c.name_asked.ensures in
    let before = before-result c.args.addresses _ c.args.state c.args.frame.now (part c.from-place.result c.args.frame.now) _ looked apart c.args.reply.now _ (broken-before _ _ _ (refused-number _)) (refused-number _) in
    search rules

pub returns-in_err-held-clause-reply_after : goal.returns-in_err-held-clause-reply_after
returns-in_err-held-clause-reply_after c =
    let apart = passed-different _ c.in_ok-differ.ensures in
    let looked = found-by _ _ _ _ c.args.state.phase (part c.from-place.result c.args.frame.now) c.in_err-held.ensures c.name_sent.ensures c.name_asked.ensures in
    before-out c.args.addresses _ c.args.state c.args.frame.now (part c.from-place.result c.args.frame.now) _ looked apart c.args.reply.now _ (broken-before _ _ _ (refused-number _)) (refused-number _)

pub returns-in_err-check_before-clause-value : goal.returns-in_err-check_before-clause-value
returns-in_err-check_before-clause-value c =
    let apart = passed-different _ c.in_ok-differ.ensures in
    let looked = found-by _ _ _ _ c.args.state.phase (part c.from-place.result c.args.frame.now) c.in_ok-held.ensures c.name_sent.ensures c.name_asked.ensures in
    let before = before-result c.args.addresses _ c.args.state c.args.frame.now (part c.from-place.result c.args.frame.now) _ looked apart c.args.reply.now _ (rw c.place_of-sent.ensures at c.in_err-check_before.ensures) (refused-number _) in
    search rules

pub returns-in_err-check_before-clause-reply_after : goal.returns-in_err-check_before-clause-reply_after
returns-in_err-check_before-clause-reply_after c =
    let apart = passed-different _ c.in_ok-differ.ensures in
    let looked = found-by _ _ _ _ c.args.state.phase (part c.from-place.result c.args.frame.now) c.in_ok-held.ensures c.name_sent.ensures c.name_asked.ensures in
    before-out c.args.addresses _ c.args.state c.args.frame.now (part c.from-place.result c.args.frame.now) _ looked apart c.args.reply.now _ (rw c.place_of-sent.ensures at c.in_err-check_before.ensures) (refused-number _)

pub returns-in_err-located-clause-value : goal.returns-in_err-located-clause-value
returns-in_err-located-clause-value c =
    let apart = passed-different _ c.in_ok-differ.ensures in
    let looked = found-by _ _ _ _ c.args.state.phase (part c.from-place.result c.args.frame.now) c.in_ok-held.ensures c.name_sent.ensures c.name_asked.ensures in
    let data_is = place-data _ ends.Unit _ _ (c.from-place.ensures ∙ c.locate-located.ensures) in
    let judging = place-number _ ends.Unit _ _ c.in_err-located.ensures in
    let silent = frame-result c.args.addresses _ c.args.state c.args.frame.now (part c.from-place.result c.args.frame.now) _ looked apart c.args.reply.now (rw c.place_of-sent.ensures at c.in_ok-check_before.ensures) data_is _ judging (refused-number _) in
    search rules

pub returns-in_err-located-clause-reply_after : goal.returns-in_err-located-clause-reply_after
returns-in_err-located-clause-reply_after c =
    let apart = passed-different _ c.in_ok-differ.ensures in
    let looked = found-by _ _ _ _ c.args.state.phase (part c.from-place.result c.args.frame.now) c.in_ok-held.ensures c.name_sent.ensures c.name_asked.ensures in
    let data_is = place-data _ ends.Unit _ _ (c.from-place.ensures ∙ c.locate-located.ensures) in
    let judging = place-number _ ends.Unit _ _ c.in_err-located.ensures in
    frame-out c.args.addresses _ c.args.state c.args.frame.now (part c.from-place.result c.args.frame.now) _ looked apart c.args.reply.now (rw c.place_of-sent.ensures at c.in_ok-check_before.ensures) data_is _ judging (refused-number _)

pub on_good-reaction-requires-clause-frame_value : goal.on_good-reaction-requires-clause-frame_value
on_good-reaction-requires-clause-frame_value c = sym (place-number _ ends.Unit _ _ c.in_ok-located.ensures)

pub on_good-reaction-requires-clause-data_value : goal.on_good-reaction-requires-clause-data_value
on_good-reaction-requires-clause-data_value c = place-data _ ends.Unit _ _ (c.from-place.ensures ∙ c.locate-located.ensures)

pub write_reply-len-requires-clause-reaction_value : goal.write_reply-len-requires-clause-reaction_value
write_reply-len-requires-clause-reaction_value c =
    let apart = passed-different _ c.in_ok-differ.ensures in
    let looked = found-by _ _ _ _ c.args.state.phase (part c.from-place.result c.args.frame.now) c.in_ok-held.ensures c.name_sent.ensures c.name_asked.ensures in
    let data_is = place-data _ ends.Unit _ _ (c.from-place.ensures ∙ c.locate-located.ensures) in
    let judging = place-number _ ends.Unit _ _ c.in_ok-located.ensures in
    done-piece c.args.addresses _ c.args.state c.args.frame.now (part c.from-place.result c.args.frame.now) _ looked apart c.args.reply.now (rw c.place_of-sent.ensures at c.in_ok-check_before.ensures) data_is judging _ (rw (c.place_of-sent.ensures, c.place_of-asked.ensures) at c.on_good-reaction.ensures)

pub write_reply-len-requires-clause-frame_most_in_bounds : goal.write_reply-len-requires-clause-frame_most_in_bounds
write_reply-len-requires-clause-frame_most_in_bounds c =
    let looked = found-by _ _ _ _ c.args.state.phase (part c.from-place.result c.args.frame.now) c.in_ok-held.ensures c.name_sent.ensures c.name_asked.ensures in
    accepted-room c.args.addresses _ c.args.state c.args.frame.now (part c.from-place.result c.args.frame.now) _ looked _ _ (rw c.place_of-sent.ensures at c.in_ok-check_before.ensures) refl

pub returns-clause-value : goal.returns-clause-value
returns-clause-value c =
    let apart = passed-different _ c.in_ok-differ.ensures in
    let looked = found-by _ _ _ _ c.args.state.phase (part c.from-place.result c.args.frame.now) c.in_ok-held.ensures c.name_sent.ensures c.name_asked.ensures in
    let data_is = place-data _ ends.Unit _ _ (c.from-place.ensures ∙ c.locate-located.ensures) in
    let judging = place-number _ ends.Unit _ _ c.in_ok-located.ensures in
    done-result c.args.addresses _ c.args.state c.args.frame.now (part c.from-place.result c.args.frame.now) _ looked apart c.args.reply.now (rw c.place_of-sent.ensures at c.in_ok-check_before.ensures) data_is judging _ (rw (c.place_of-sent.ensures, c.place_of-asked.ensures) at c.on_good-reaction.ensures)
    _ _ c.state_after-after.ensures c.write_reply-len.ensures.value

pub returns-clause-reply_after : goal.returns-clause-reply_after
returns-clause-reply_after c =
    let apart = passed-different _ c.in_ok-differ.ensures in
    let looked = found-by _ _ _ _ c.args.state.phase (part c.from-place.result c.args.frame.now) c.in_ok-held.ensures c.name_sent.ensures c.name_asked.ensures in
    let data_is = place-data _ ends.Unit _ _ (c.from-place.ensures ∙ c.locate-located.ensures) in
    let judging = place-number _ ends.Unit _ _ c.in_ok-located.ensures in
    done-out c.args.addresses _ c.args.state c.args.frame.now (part c.from-place.result c.args.frame.now) _ looked apart c.args.reply.now (rw c.place_of-sent.ensures at c.in_ok-check_before.ensures) data_is judging _ (rw (c.place_of-sent.ensures, c.place_of-asked.ensures) at c.on_good-reaction.ensures)
    _ c.write_reply-len.ensures.reply_after

-- Equal addresses, refused by the number, or the state and the frame that follow.
use Rattle.octets.proofs.CallLaws.{kept_by, changed-by, zero-by, refused-number}
use Rattle.frame.proofs.GivenLaws.{given}
use Rattle.tool.specs.Call.{event_result_given, event_out_given, event_result, event_state, event_sent, event_out}
use Rattle.tool.proofs.CallLaws.{event-room, step-most, step-next, step_is, none-sent, none_written, some-sent, some_written}
use Rattle.std.proofs.Common.{rules}
use Rattle.tool.proofs.call.event_step.Goals as goal

ruleset all = (rules, refused-number, given, kept_by, changed-by, zero-by, event-room, step-most, step-next, step_is, none-sent, none_written, some-sent, some_written)

pub returns-in_err-differ-clause-value : goal.returns-in_err-differ-clause-value
unfolding event_result_given event_out_given event_result event_state event_sent event_out
returns-in_err-differ-clause-value c = search all

pub returns-in_err-differ-clause-out_after : goal.returns-in_err-differ-clause-out_after
unfolding event_result_given event_out_given event_result event_state event_sent event_out
returns-in_err-differ-clause-out_after c = search all

pub returns-in_err-check_event-clause-value : goal.returns-in_err-check_event-clause-value
unfolding event_result_given event_out_given event_result event_state event_sent event_out
returns-in_err-check_event-clause-value c = search all

pub returns-in_err-check_event-clause-out_after : goal.returns-in_err-check_event-clause-out_after
unfolding event_result_given event_out_given event_result event_state event_sent event_out
returns-in_err-check_event-clause-out_after c = search all

pub write_sent-len-requires-clause-expected_bound : goal.write_sent-len-requires-clause-expected_bound
unfolding event_result_given event_out_given event_result event_state event_sent event_out
write_sent-len-requires-clause-expected_bound c = λ k. search all

pub write_sent-len-requires-clause-frame_most_in_bounds : goal.write_sent-len-requires-clause-frame_most_in_bounds
unfolding event_result_given event_out_given event_result event_state event_sent event_out
write_sent-len-requires-clause-frame_most_in_bounds c = search all

pub state_after-requires-clause-expected_bound : goal.state_after-requires-clause-expected_bound
unfolding event_result_given event_out_given event_result event_state event_sent event_out
state_after-requires-clause-expected_bound c = λ k. search all

pub returns-clause-value : goal.returns-clause-value
unfolding event_result_given event_out_given event_result event_state event_sent event_out
returns-clause-value c = search all

pub returns-clause-out_after : goal.returns-clause-out_after
unfolding event_result_given event_out_given event_result event_state event_sent event_out
returns-clause-out_after c = search all

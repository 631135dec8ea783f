-- Equal addresses, refused by the number, or the frame and the waiting state.
use Rattle.octets.proofs.CallLaws.{kept_by, changed-by, zero-by, refused-number}
use Rattle.frame.proofs.GivenLaws.{given}
use Rattle.tool.specs.Call.{begin_result_given, begin_out_given, begin_result, begin_state, begin_sent, begin_out}
use Rattle.tool.proofs.CallLaws.{begin-room, step_is, none-sent, none_written, some-sent, some_written}
use Rattle.requests.proofs.SentLaws.{request-whole, request-front}
use Rattle.std.proofs.Common.{rules}
use Rattle.tool.proofs.call.begin.Goals as goal

ruleset all = (rules, refused-number, given, kept_by, changed-by, zero-by, begin-room, step_is, none-sent, none_written, some-sent, some_written, request-whole, request-front)

pub returns-in_err-differ-clause-value : goal.returns-in_err-differ-clause-value
unfolding begin_result_given begin_out_given begin_result begin_state begin_sent begin_out
returns-in_err-differ-clause-value c = search all

pub returns-in_err-differ-clause-out_after : goal.returns-in_err-differ-clause-out_after
unfolding begin_result_given begin_out_given begin_result begin_state begin_sent begin_out
returns-in_err-differ-clause-out_after c = search all

pub returns-in_err-check_begin-clause-value : goal.returns-in_err-check_begin-clause-value
unfolding begin_result_given begin_out_given begin_result begin_state begin_sent begin_out
returns-in_err-check_begin-clause-value c = search all

pub returns-in_err-check_begin-clause-out_after : goal.returns-in_err-check_begin-clause-out_after
unfolding begin_result_given begin_out_given begin_result begin_state begin_sent begin_out
returns-in_err-check_begin-clause-out_after c = search all

pub returns-clause-value : goal.returns-clause-value
unfolding begin_result_given begin_out_given begin_result begin_state begin_sent begin_out
returns-clause-value c = search all

pub returns-clause-out_after : goal.returns-clause-out_after
unfolding begin_result_given begin_out_given begin_result begin_state begin_sent begin_out
returns-clause-out_after c = search all

-- Equal addresses, or the call at two different ones.
use Rattle.frame.proofs.GivenLaws.{given}
use Rattle.split.specs.Split.{sub_result_given, sub_out_given}
use Rattle.std.proofs.Common.{rules}
use Rattle.split.proofs.call.write_sub_message.Goals as goal

ruleset all = (rules, given)

pub returns-in_err-differ-clause-value : goal.returns-in_err-differ-clause-value
unfolding sub_result_given sub_out_given
returns-in_err-differ-clause-value c = search all

pub returns-in_err-differ-clause-out_after : goal.returns-in_err-differ-clause-out_after
unfolding sub_result_given sub_out_given
returns-in_err-differ-clause-out_after c = search all

pub returns-clause-value : goal.returns-clause-value
unfolding sub_result_given sub_out_given
returns-clause-value c = search all

pub returns-clause-out_after : goal.returns-clause-out_after
unfolding sub_result_given sub_out_given
returns-clause-out_after c = search all

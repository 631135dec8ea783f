-- Equal addresses, or the call at two different ones.
use Rattle.frame.specs.Given.{write_result_given, write_out_given}
use Rattle.frame.proofs.GivenLaws.{given}
use Rattle.std.proofs.Common.{rules}
use Rattle.frame.proofs.call.write.Goals as goal

ruleset all = (rules, given)

pub returns-in_err-differ-clause-value : goal.returns-in_err-differ-clause-value
unfolding write_result_given write_out_given
returns-in_err-differ-clause-value c = search all

pub returns-in_err-differ-clause-out_after : goal.returns-in_err-differ-clause-out_after
unfolding write_result_given write_out_given
returns-in_err-differ-clause-out_after c = search all

pub returns-clause-value : goal.returns-clause-value
unfolding write_result_given write_out_given
returns-clause-value c = search all

pub returns-clause-out_after : goal.returns-clause-out_after
unfolding write_result_given write_out_given
returns-clause-out_after c = search all

-- The refusals in order; then header, both parts and checksum, one behind the other.
use Rattle.octets.proofs.CallLaws.{written_is}
use Rattle.frame.specs.Frame.{write_result, write_out}
use Rattle.frame.proofs.WriteLaws.{number-empty, number-long, number_short, number-good, kept-empty, kept-long, kept-short, length-good, framed}
use Rattle.std.proofs.Common.{rules}
use Rattle.frame.proofs.write.write_two.Goals as goal

ruleset all = (rules, written_is, number-empty, number-long, number_short, number-good, kept-empty, kept-long, kept-short, length-good, framed)

pub returns-then-len-eq0-clause-value : goal.returns-then-len-eq0-clause-value
unfolding write_result write_out
returns-then-len-eq0-clause-value c = search all

pub returns-then-len-eq0-clause-out_after : goal.returns-then-len-eq0-clause-out_after
unfolding write_result write_out
returns-then-len-eq0-clause-out_after c = search all

pub returns-then-len-gt255-clause-value : goal.returns-then-len-gt255-clause-value
unfolding write_result write_out
returns-then-len-gt255-clause-value c = search all

pub returns-then-len-gt255-clause-out_after : goal.returns-then-len-gt255-clause-out_after
unfolding write_result write_out
returns-then-len-gt255-clause-out_after c = search all

pub returns-then-out-len-clause-value : goal.returns-then-out-len-clause-value
unfolding write_result write_out
returns-then-out-len-clause-value c = search all

pub returns-then-out-len-clause-out_after : goal.returns-then-out-len-clause-out_after
unfolding write_result write_out
returns-then-out-len-clause-out_after c = search all

pub returns-clause-value : goal.returns-clause-value
unfolding write_result write_out
returns-clause-value c = search all

pub returns-clause-out_after : goal.returns-clause-out_after
unfolding write_result write_out
returns-clause-out_after c = search all

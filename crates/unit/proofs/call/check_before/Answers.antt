-- Each return is the first check that fails.
use Rattle.octets.proofs.Tests.{cond-t, cond-f, flag-nt, flag-nf}
use borrow.Author.Tests.{le-leb, lt-leb}
use Rattle.unit.specs.Call.{number_before}
use Rattle.unit.proofs.call.check_before.Goals as goal

ruleset all = (cond-t, cond-f, flag-nt, flag-nf, le-leb, lt-leb)

pub returns-then-not-possible_at : goal.returns-then-not-possible_at
unfolding number_before
returns-then-not-possible_at c = search all

pub returns-then-reply_len-lt-FRAME_MOST : goal.returns-then-reply_len-lt-FRAME_MOST
unfolding number_before
returns-then-reply_len-lt-FRAME_MOST c = search all

pub returns : goal.returns
unfolding number_before
returns c = search all

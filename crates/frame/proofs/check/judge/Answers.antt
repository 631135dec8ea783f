-- Each return is the first check that fails.
use Rattle.octets.proofs.Tests.{cond-t, cond-f, flag-nt, flag-nf}
use borrow.Author.Tests.{le-leb, lt-leb}
use Rattle.frame.specs.Frame.{judged}
use Rattle.frame.proofs.check.judge.Goals as goal

pub returns-then-frame-lt5 : goal.returns-then-frame-lt5
unfolding judged
returns-then-frame-lt5 c = search (cond-t, cond-f, le-leb, lt-leb, flag-nt, flag-nf) depth 9

pub returns-then-not-known_format : goal.returns-then-not-known_format
unfolding judged
returns-then-not-known_format c = search (cond-t, cond-f, le-leb, lt-leb, flag-nt, flag-nf) depth 9

pub returns-then-not-count_right : goal.returns-then-not-count_right
unfolding judged
returns-then-not-count_right c = search (cond-t, cond-f, le-leb, lt-leb, flag-nt, flag-nf) depth 9

pub returns-then-not-addressed_to : goal.returns-then-not-addressed_to
unfolding judged
returns-then-not-addressed_to c = search (cond-t, cond-f, le-leb, lt-leb, flag-nt, flag-nf) depth 9

pub returns-then-not-checksum_right : goal.returns-then-not-checksum_right
unfolding judged
returns-then-not-checksum_right c = search (cond-t, cond-f, le-leb, lt-leb, flag-nt, flag-nf) depth 9

pub returns : goal.returns
unfolding judged
returns c = search (cond-t, cond-f, le-leb, lt-leb, flag-nt, flag-nf) depth 9

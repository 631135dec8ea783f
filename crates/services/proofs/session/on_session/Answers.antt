-- Each return is the first check that fails.
use Rattle.octets.proofs.Tests.{cond-t, cond-f}
use borrow.Author.Tests.{le-leb, lt-leb, eq-eqb, ne_eqb}
use Rattle.services.specs.Services.{on_session}
use Rattle.services.proofs.ServiceLaws.{pair-t, pair-f}
use Rattle.services.proofs.session.on_session.Goals as goal

ruleset all = (cond-t, cond-f, le-leb, lt-leb, eq-eqb, ne_eqb, pair-t, pair-f)

pub returns-then-data-lt2 : goal.returns-then-data-lt2
unfolding on_session
returns-then-data-lt2 c = search all depth 9

pub returns-then-data : goal.returns-then-data
unfolding on_session
returns-then-data c = search all depth 9

pub returns-then-not-same : goal.returns-then-not-same
unfolding on_session
returns-then-not-same c = search all depth 9

pub returns : goal.returns
unfolding on_session
returns c = search all depth 9

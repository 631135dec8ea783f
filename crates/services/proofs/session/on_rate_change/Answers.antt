-- Each return is the first check that fails.
use Rattle.octets.proofs.Tests.{cond-t, cond-f, flag-nt, flag-nf}
use borrow.Author.Tests.{eq-eqb, ne_eqb}
use Rattle.services.specs.Services.{on_rate_change}
use Rattle.services.proofs.session.on_rate_change.Goals as goal

ruleset all = (cond-t, cond-f, eq-eqb, ne_eqb, flag-nt, flag-nf)

pub returns-then-data-ne3 : goal.returns-then-data-ne3
unfolding on_rate_change
returns-then-data-ne3 c = search all depth 9

pub returns-then-data-ne3-2 : goal.returns-then-data-ne3-2
unfolding on_rate_change
returns-then-data-ne3-2 c = search all depth 9

pub returns-then-not-may_change_rate : goal.returns-then-not-may_change_rate
unfolding on_rate_change
returns-then-not-may_change_rate c = search all depth 9

pub returns : goal.returns
unfolding on_rate_change
returns c = search all depth 9

-- Each return is the first check that fails.
use Rattle.octets.proofs.Tests.{cond-t, cond-f, flag-nt, flag-nf}
use borrow.Author.Tests.{eq-eqb, ne_eqb}
use Rattle.services.specs.Services.{on_rate_offer}
use Rattle.services.proofs.session.on_rate_offer.Goals as goal

ruleset all = (cond-t, cond-f, eq-eqb, ne_eqb, flag-nt, flag-nf)

pub returns-then-data-ne4 : goal.returns-then-data-ne4
unfolding on_rate_offer
returns-then-data-ne4 c = search all depth 9

pub returns-then-not-is_rate_offer : goal.returns-then-not-is_rate_offer
unfolding on_rate_offer
returns-then-not-is_rate_offer c = search all depth 9

pub returns-then-not-in_session : goal.returns-then-not-in_session
unfolding on_rate_offer
returns-then-not-in_session c = search all depth 9

pub returns : goal.returns
unfolding on_rate_offer
returns c = search all depth 9

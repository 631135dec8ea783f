-- Each return is the first check that fails.
use Rattle.octets.proofs.Tests.{cond-t, cond-f}
use borrow.Author.Tests.{eq-eqb, ne_eqb}
use Rattle.services.specs.Services.{on_acknowledge}
use Rattle.services.proofs.ServiceLaws.{code_read}
use Rattle.services.proofs.transfer.on_acknowledge.Goals as goal

ruleset all = (cond-t, cond-f, eq-eqb, ne_eqb, code_read)

pub returns-then-data-ne4 : goal.returns-then-data-ne4
unfolding on_acknowledge
returns-then-data-ne4 c = search all depth 9

pub returns-then-data-ne-ANSWER : goal.returns-then-data-ne-ANSWER
unfolding on_acknowledge
returns-then-data-ne-ANSWER c = search all depth 9

pub returns : goal.returns
unfolding on_acknowledge
returns c = search all depth 9

-- Held, or FA.
use Rattle.octets.proofs.Tests.{cond-t, cond-f}
use borrow.Author.Tests.{eq-eqb, ne_eqb}
use Rattle.services.specs.Services.{answer_from}
use Rattle.services.proofs.transfer.answer_from.Goals as goal

ruleset all = (cond-t, cond-f, eq-eqb, ne_eqb)

pub returns-then-place-ne0 : goal.returns-then-place-ne0
unfolding answer_from
returns-then-place-ne0 c = search all

pub returns : goal.returns
unfolding answer_from
returns c = search all

-- Code 78 or another.
use Rattle.octets.proofs.Tests.{cond-t, cond-f}
use borrow.Author.Tests.{eq-eqb, ne_eqb}
use Rattle.arrival.specs.Meaning.{refusal_meaning}
use Rattle.std.proofs.Common.{rules}
use Rattle.arrival.proofs.event.refusal_meaning.Goals as goal

ruleset all = (rules, cond-t, cond-f, eq-eqb, ne_eqb)

pub returns-then-code-eq-RESPONSE_PENDING : goal.returns-then-code-eq-RESPONSE_PENDING
unfolding refusal_meaning
returns-then-code-eq-RESPONSE_PENDING c = search all

pub returns : goal.returns
unfolding refusal_meaning
returns c = search all

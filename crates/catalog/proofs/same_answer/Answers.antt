-- TREP and day are compared.
use Rattle.catalog.specs.Name.{same_answer}
use Rattle.std.proofs.Common.{rules}
use Rattle.catalog.proofs.same_answer.Goals as goal

pub returns : goal.returns
unfolding same_answer
returns c = search rules

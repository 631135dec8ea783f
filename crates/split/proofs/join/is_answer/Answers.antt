-- 76 and TREP.
use Rattle.octets.proofs.Tests.{picks}
use Rattle.split.specs.Join.{is_answer}
use Rattle.std.proofs.Common.{rules}
use Rattle.split.proofs.join.is_answer.Goals as goal

ruleset all = (rules, picks)

pub returns-then-data-lt2 : goal.returns-then-data-lt2
unfolding is_answer
returns-then-data-lt2 c = search all

pub returns-then-data-ne-ANSWER : goal.returns-then-data-ne-ANSWER
unfolding is_answer
returns-then-data-ne-ANSWER c = search all

pub returns : goal.returns
unfolding is_answer
returns c = search all

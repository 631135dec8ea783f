-- Each return is the first check that fails.
use Rattle.store.proofs.AnswerLaws.{answer-short, answer-other, answer-named}
use Rattle.std.proofs.Common.{rules}
use Rattle.store.proofs.answer.check_answer.Goals as goal

ruleset all = (rules, answer-short, answer-other, answer-named)

pub returns-then-answer-lt2 : goal.returns-then-answer-lt2
returns-then-answer-lt2 c = search all

pub returns-then-answer-ne-ANSWER : goal.returns-then-answer-ne-ANSWER
returns-then-answer-ne-ANSWER c = search all

pub returns : goal.returns
returns c = search all

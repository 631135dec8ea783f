-- 76, then a name that an entry may have.
use Rattle.store.proofs.CheckLaws.{answer-other, answer-is}
use Rattle.std.proofs.Common.{rules}
use Rattle.store.proofs.layout.Entry.answer_right.Goals as goal

ruleset all = (rules, answer-other, answer-is)

pub returns-then-byte_at-ne-ANSWER : goal.returns-then-byte_at-ne-ANSWER
returns-then-byte_at-ne-ANSWER c = search all

pub returns : goal.returns
returns c = search all

-- The answer lies in the store, there is such a sub message, and its frame fits.
use Rattle.unit.proofs.ReplyLaws.{piece-at, answer-length, answer-out}
use Rattle.std.proofs.Common.{rules}
use Rattle.unit.proofs.reply.send_answer.Goals as goal

ruleset all = (rules, answer-length, answer-out)

pub overflow_add-first : goal.overflow_add-first
overflow_add-first c = let there = piece-at _ _ _ c.requires.answer_value in let two = there.two in let inside = there.inside in search rules

pub overflow_add-end : goal.overflow_add-end
overflow_add-end c = let there = piece-at _ _ _ c.requires.answer_value in let two = there.two in let inside = there.inside in search rules

pub slice_bounds-data-count : goal.slice_bounds-data-count
slice_bounds-data-count c = let there = piece-at _ _ _ c.requires.answer_value in let two = there.two in let inside = there.inside in search rules

pub slice_bounds-data-start : goal.slice_bounds-data-start
slice_bounds-data-start c = let there = piece-at _ _ _ c.requires.answer_value in let two = there.two in let inside = there.inside in search rules

pub slice_bounds-data-end : goal.slice_bounds-data-end
slice_bounds-data-end c = let there = piece-at _ _ _ c.requires.answer_value in let two = there.two in let inside = there.inside in search rules

pub returns-clause-value : goal.returns-clause-value
returns-clause-value c = search all

pub returns-clause-reply_after : goal.returns-clause-reply_after
returns-clause-reply_after c = search all

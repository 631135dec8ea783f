-- Both bounds.
use Rattle.store.proofs.CheckLaws.{counts-many, counts-is}
use Rattle.store.specs.Layout.{narrow}
use Rattle.std.proofs.Common.{rules}
use Rattle.store.proofs.check.counts_fit.Goals as goal

pub returns-then-answers-gt-ANSWERS_MOST : goal.returns-then-answers-gt-ANSWERS_MOST
returns-then-answers-gt-ANSWERS_MOST c = search (rules, counts-many narrow)

pub returns : goal.returns
returns c = search (rules, counts-is narrow)

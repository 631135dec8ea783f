-- Broken, not held, or found.
use Rattle.store.proofs.ReadLaws.{held-broken, held-missing, held_found}
use Rattle.store.proofs.CheckLaws.{whole-start}
use Rattle.std.proofs.Common.{rules}
use Rattle.store.proofs.read.held.Goals as goal

ruleset all = (rules, whole-start, held-broken, held-missing, held_found)

pub returns-in_err-check : goal.returns-in_err-check
returns-in_err-check c = search all

pub returns-then-answers-k : goal.returns-then-answers-k
returns-then-answers-k c = search all

pub invariant_of-at : goal.invariant_of-at
invariant_of-at c = record { inside = search all }

pub returns : goal.returns
returns c = search all

-- No TREP, not held, or found.
use Rattle.store.proofs.CheckLaws.{checked-start}
use Rattle.store.proofs.ReadLaws.{find_none, find-missing, find-found}
use Rattle.std.proofs.Common.{rules}
use Rattle.store.proofs.read.find.Goals as goal

pub returns-then-name-eq-ABSENT : goal.returns-then-name-eq-ABSENT
returns-then-name-eq-ABSENT c = search find_none

pub invariant_of-entries : goal.invariant_of-entries
invariant_of-entries c = record { inside = search (rules, checked-start) }

pub returns-then-n-i : goal.returns-then-n-i
returns-then-n-i c = search find-missing

pub returns : goal.returns
returns c =
    let start = rw (c.at-entry.ensures.0, c.at-entry.ensures.1) at c.answer_start.ensures.0 in
    let len = rw (c.at-entry.ensures.0, c.at-entry.ensures.1) at c.length.ensures.0 in
    search find-found

-- Broken, or what the two searches find.
use Rattle.store.proofs.ReadLaws.{both-broken, both_found}
use Rattle.std.proofs.Common.{rules}
use Rattle.store.proofs.read.locate_both.Goals as goal

ruleset all = (rules, both-broken, both_found)

pub returns-in_err-check : goal.returns-in_err-check
returns-in_err-check c = search all

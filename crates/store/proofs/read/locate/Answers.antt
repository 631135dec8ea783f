-- Broken, or what the search finds.
use Rattle.store.proofs.ReadLaws.{place-broken}
use Rattle.std.proofs.Common.{rules}
use Rattle.store.proofs.read.locate.Goals as goal

ruleset all = (rules, place-broken)

pub returns-in_err-check : goal.returns-in_err-check
returns-in_err-check c = search all

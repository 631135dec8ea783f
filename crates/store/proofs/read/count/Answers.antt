-- Broken, or the count.
use Rattle.octets.proofs.CallLaws.{calls}
use Rattle.store.specs.Read.{count_held}
use Rattle.std.proofs.Common.{rules}
use Rattle.store.proofs.read.count.Goals as goal

ruleset all = (rules, calls)

pub returns-in_err-check : goal.returns-in_err-check
unfolding count_held
returns-in_err-check c = search all

pub returns : goal.returns
unfolding count_held
returns c = search all

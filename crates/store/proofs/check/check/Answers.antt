-- The number of the fault.
use Rattle.store.proofs.CheckLaws.{number-of-fault}
use Rattle.std.proofs.Common.{rules}
use Rattle.store.proofs.check.check.Goals as goal

pub returns : goal.returns
returns c = let e = c.in_ok-fault.ensures in search number-of-fault

pub returns-in_err-fault : goal.returns-in_err-fault
returns-in_err-fault c = search (rules, number-of-fault)

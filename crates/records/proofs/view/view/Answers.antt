-- The array is found, and the view is put together of its records and the header's fields; all zero where it is not.
use Rattle.std.proofs.Common.{rules}
use Rattle.records.proofs.ViewTheorems.{shows-array}
use Rattle.records.proofs.view.view.Goals as goal

pub returns-in-Ok : goal.returns-in-Ok
returns-in-Ok c = search (rules, shows-array)

pub returns-in-Err : goal.returns-in-Err
returns-in-Err c = search (rules, shows-array)

-- The part at the place that `array_at` gives; none where it refuses.
use Rattle.records.proofs.array_records.Goals as goal
use Rattle.std.proofs.Common.{rules}
use Rattle.records.proofs.ViewTheorems.{records-part}

pub returns-in-Ok : goal.returns-in-Ok
returns-in-Ok c = search (rules, records-part)

pub returns-in-Err : goal.returns-in-Err
returns-in-Err c = search (rules, records-part)

-- Only the first frame has a header.
use Rattle.arrival.proofs.RoomLaws.{header-first, header-none}
use Rattle.std.proofs.Common.{rules}
use Rattle.arrival.proofs.room.header_length.Goals as goal

ruleset all = (rules, header-first, header-none)

pub returns-then-state-eq1 : goal.returns-then-state-eq1
returns-then-state-eq1 c = search all

pub returns-else-state-eq1 : goal.returns-else-state-eq1
returns-else-state-eq1 c = search all

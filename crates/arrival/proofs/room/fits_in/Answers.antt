-- The room, then the bound.
use Rattle.arrival.proofs.RoomLaws.{fits-held, fits-room, fits-most}
use Rattle.std.proofs.Common.{rules}
use Rattle.arrival.proofs.room.fits_in.Goals as goal

ruleset all = (rules, fits-held, fits-room, fits-most)

pub returns-then-room_len-held : goal.returns-then-room_len-held
returns-then-room_len-held c = search all

pub returns-then-room_len-held-2 : goal.returns-then-room_len-held-2
returns-then-room_len-held-2 c = search all

pub returns : goal.returns
returns c = search all

-- None, or two stores one behind the other.
use Rattle.tool.proofs.RoomLaws.{put-none, put-header}
use Rattle.std.proofs.Common.{rules}
use Rattle.tool.proofs.room.keep_header.Goals as goal

ruleset all = (rules, put-none, put-header)

pub returns-then-state-ne1 : goal.returns-then-state-ne1
returns-then-state-ne1 c = search all

pub returns : goal.returns
returns c = search all

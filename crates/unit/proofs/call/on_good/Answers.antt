-- The start by its first byte, silence, or the data.
use Rattle.frame.proofs.CheckLaws.{good}
use Rattle.unit.proofs.CallLaws.{reaction-start, reaction-ignored, reaction-data}
use Rattle.std.proofs.Common.{rules}
use Rattle.unit.proofs.call.on_good.Goals as goal

ruleset all = (rules, reaction-start, reaction-ignored, reaction-data)

pub bounds-frame-0 : goal.bounds-frame-0
bounds-frame-0 c = let five = (good _ _ _ c.requires.frame_value).five in search rules

pub returns-then-frame : goal.returns-then-frame
returns-then-frame c = search all

pub returns-then-is_closed : goal.returns-then-is_closed
returns-then-is_closed c = search all

pub returns : goal.returns
returns c = search all

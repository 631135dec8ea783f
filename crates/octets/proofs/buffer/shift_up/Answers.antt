use Rattle.std.proofs.Common.{rules}
use Rattle.octets.proofs.BufferLaws.{shift_none, shift-more, shift-done, shift-refused-order, shift-refused-room, shift-refused-end}
use Rattle.octets.proofs.buffer.shift_up.Goals as goal

ruleset all = (rules, shift_none, shift-done, shift-refused-order, shift-refused-room, shift-refused-end)

pub returns-then-end-start : goal.returns-then-end-start
returns-then-end-start c = search all

pub returns-then-n-end : goal.returns-then-n-end
returns-then-n-end c = search all

pub returns-then-n-end-2 : goal.returns-then-n-end-2
returns-then-n-end-2 c = search all

pub loop-i-init : goal.loop-i-init
loop-i-init c = search all

pub loop-i-preserved : goal.loop-i-preserved
loop-i-preserved c = (search rules, search (rules, shift-more))

pub returns : goal.returns
returns c = search all

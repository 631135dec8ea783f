use Rattle.std.proofs.Common.{rules}
use Rattle.octets.proofs.BufferLaws.{copy_more, copied_all, copied_none}
use Rattle.octets.proofs.buffer.copy_in.Goals as goal

pub returns-then-out-n : goal.returns-then-out-n
returns-then-out-n c = search (rules, copied_none)

pub loop-i-preserved : goal.loop-i-preserved
loop-i-preserved c = search (rules, copy_more)

pub returns : goal.returns
returns c = search (rules, copied_all)

-- The tail comes back from the copy with the bytes at its front.
use Rattle.octets.proofs.BufferLaws.{lent-copy}
use Rattle.std.proofs.Common.{rules}
use Rattle.frame.proofs.write.put_at.Goals as goal

ruleset all = (rules, lent-copy)

pub returns : goal.returns
returns c = search all

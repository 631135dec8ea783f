-- Four bytes and their checksum.
use Rattle.frame.proofs.WriteLaws.{start_is}
use Rattle.std.proofs.Common.{rules}
use Rattle.frame.proofs.write.start_frame.Goals as goal

ruleset all = (rules, start_is)

pub returns : goal.returns
returns c = search all

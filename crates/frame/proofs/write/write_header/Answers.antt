-- Four stores at the front.
use Rattle.frame.proofs.WriteLaws.{header_is}
use Rattle.std.proofs.Common.{rules}
use Rattle.frame.proofs.write.write_header.Goals as goal

ruleset all = (rules, header_is)

pub returns : goal.returns
returns c = search all

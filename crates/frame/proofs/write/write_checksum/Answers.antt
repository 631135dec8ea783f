-- One store behind the bytes summed.
use Rattle.frame.proofs.WriteLaws.{put_one}
use Rattle.std.proofs.Common.{rules}
use Rattle.frame.proofs.write.write_checksum.Goals as goal

ruleset all = (rules, put_one)

pub returns : goal.returns
returns c = search all

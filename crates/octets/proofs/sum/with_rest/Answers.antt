use Rattle.std.proofs.Common.{rules}
use Rattle.octets.proofs.SumLaws.{byte_more}
use Rattle.octets.proofs.sum.with_rest.Goals as goal

pub loop-byte-preserved : goal.loop-byte-preserved
loop-byte-preserved c = search (rules, byte_more)

use Rattle.octets.proofs.SumLaws.{turn_more, rest-done}
use Rattle.octets.proofs.sum.checksum.Goals as goal

pub loop-turn-preserved : goal.loop-turn-preserved
loop-turn-preserved c = search turn_more

pub returns : goal.returns
returns c = search rest-done

-- The eight wrapping sums make the whole sum modulo 256.
use Rattle.octets.proofs.SumLaws.{eight-done}
use Rattle.octets.proofs.sum.with_eight.Goals as goal

pub returns : goal.returns
returns c = search eight-done

-- The sum so far is that of the bytes in the turns passed, modulo 256.
use Rattle.std.proofs.Common.{◌≡◌, ◌*◌, ◌%◌, take}
use Rattle.octets.specs.Sum.{total}
use Rattle.octets.proofs.sum.checksum.Given as goal

abbrev pub invariant-loop-turn : goal.invariant-loop-turn
invariant-loop-turn l = l.sum ≡ total (take (l.turn * 8) l.bytes) % 256

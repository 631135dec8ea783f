-- The sum so far is that of `start` and the bytes passed, modulo 256.
use Rattle.std.proofs.Common.{◌≡◌, ◌+◌, ◌%◌, take}
use Rattle.octets.specs.Sum.{total}
use Rattle.octets.proofs.sum.with_rest.Given as goal

abbrev pub invariant-loop-byte : goal.invariant-loop-byte
invariant-loop-byte l = l.sum ≡ (l.start + total (take l.byte-index l.rest)) % 256

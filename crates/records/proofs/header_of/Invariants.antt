-- What is left to pass decides.
use Prim.Native.Nat.{◌-◌, ◌≤◌}
use mathlib.Core.Path.{◌≡◌}
use lib.ListN.{length}
use Rattle.records.specs.Arrays.{behind}
use Rattle.records.proofs.header_of.Given as goal

abbrev pub invariant-loop : goal.invariant-loop
invariant-loop l = (l.at ≤ length l.body) × (behind l.array 0 l.body ≡ behind (l.array - l.counter) l.at l.body)

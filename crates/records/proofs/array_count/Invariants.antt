-- The arrays passed and what is left decide.
use Prim.Native.Nat.{◌+◌, ◌-◌, ◌≤◌}
use mathlib.Core.Path.{◌≡◌}
use lib.ListN.{length}
use Rattle.records.specs.Arrays.{filled_from, arrays_from}
use Rattle.records.proofs.array_count.Given as goal

abbrev pub invariant-loop-at : goal.invariant-loop-at
invariant-loop-at l = (l.count ≤ l.at)
    × (l.at ≤ length l.body)
    × (filled_from (length l.body) 0 l.body ≡ filled_from (length l.body - l.count) l.at l.body)
    × (l.count + arrays_from (length l.body - l.count) l.at l.body ≡ arrays_from (length l.body) 0 l.body)

abbrev pub decreases-loop-at : goal.decreases-loop-at
decreases-loop-at l = length l.body - l.at

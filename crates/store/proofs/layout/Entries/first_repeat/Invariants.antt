-- The search for a name that repeats an earlier one; every name passed ranks below `above`.
use Prim.Native.Nat.{◌-◌}
use mathlib.Core.Path.{◌≡◌}
use Rattle.octets.specs.Search.{first_from, first_of}
use Rattle.store.specs.Layout.{narrow}
use Rattle.store.specs.Check.{repeats}
use Rattle.store.proofs.CheckLaws.{RankedBelow}
use Rattle.store.proofs.layout.Entries.first_repeat.Given as goal

abbrev pub invariant-loop-i : goal.invariant-loop-i
invariant-loop-i l = (first_of (λ j. repeats narrow j l.self.store.now) l.n ≡ first_from (λ j. repeats narrow j l.self.store.now) (l.n - l.i) l.i) × RankedBelow narrow l.above l.i l.self.store.now

-- The answers in front that are right: all of them, or up to one that is not.
use Prim.Native.Nat.{◌-◌}
use mathlib.Core.Bool.{not}
use mathlib.Core.Path.{◌≡◌}
use Rattle.octets.specs.Search.{first_from, first_of}
use Rattle.store.specs.Layout.{narrow}
use Rattle.store.specs.Check.{answer_right}
use Rattle.store.proofs.layout.Entries.first_wrong.Given as goal

abbrev pub invariant-loop-i : goal.invariant-loop-i
invariant-loop-i l = (first_of (λ j. not (answer_right narrow j l.self.store.now)) l.n ≡ first_from (λ j. not (answer_right narrow j l.self.store.now)) (l.n - l.i) l.i)

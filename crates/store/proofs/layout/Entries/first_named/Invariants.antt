-- The search for the name.
use Prim.Native.Nat.{◌-◌}
use mathlib.Core.Path.{◌≡◌}
use Rattle.octets.specs.Search.{first_from, first_of}
use Rattle.catalog.specs.Name.{same_answer}
use Rattle.store.specs.Layout.{narrow, name_at}
use Rattle.store.proofs.layout.Entries.first_named.Given as goal

abbrev pub invariant-loop-i : goal.invariant-loop-i
invariant-loop-i l = (first_of (λ k. same_answer (name_at narrow k l.self.store.now) l.name) l.count ≡ first_from (λ k. same_answer (name_at narrow k l.self.store.now) l.name) (l.count - l.i) l.i)

-- The entries in front that are in their places: all of them, or up to one that is not.
use Prim.Native.Nat.{◌-◌, ◌≤◌}
use mathlib.Core.Path.{◌≡◌}
use Rattle.octets.specs.Search.{first_from, first_of}
use Rattle.store.specs.Layout.{narrow, stream_length}
use Rattle.store.specs.Check.{filled_to}
use Rattle.store.proofs.CheckLaws.{misplaced}
use Rattle.store.proofs.layout.Entries.check_places.Given as goal

abbrev pub invariant-loop-i : goal.invariant-loop-i
invariant-loop-i l = (l.end ≡ filled_to narrow l.i l.self.store.now) × (l.end ≤ stream_length narrow l.self.store.now)
    × (first_of (misplaced narrow l.self.store.now) l.n ≡ first_from (misplaced narrow l.self.store.now) (l.n - l.i) l.i)

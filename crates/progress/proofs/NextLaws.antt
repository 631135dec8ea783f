-- The state after a failed wait, from the test of the code.
use Prim.Native.Nat.{◌+◌, ◌<◌, ◌≤◌}
use mathlib.Core.Path.{◌≡◌}
use borrow.Author.Tests.{le-leb, lt-leb}
use Rattle.progress.specs.declared.Outcome.TheVariants.{NoAnswer}
use Rattle.progress.specs.declared.ToolState.{ToolState}
use Rattle.progress.specs.Next.{ended, waits, after_failed_wait}

-- "after the third sending the request ends"
module _ (t r : ToolState) where
  pub third-ends : 3 ≤ t.sendings → r ≡ ended t NoAnswer t.held → r ≡ after_failed_wait t
  unfolding after_failed_wait
  third-ends h e = rw (le-leb 3 t.sendings h) e

  pub again-waits : t.sendings < 3 → r ≡ waits t (t.sendings + 1) t.expected.0 t.held → r ≡ after_failed_wait t
  unfolding after_failed_wait
  again-waits h e = rw (lt-leb 3 t.sendings h) e

-- The bytes from i up to end are moved, from the back.
use Rattle.std.proofs.Common.{◌≡◌, ◌≤◌}
use Rattle.octets.specs.Buffer.{moved}
use Rattle.octets.proofs.buffer.shift_up.Given as goal

abbrev pub invariant-loop-i : goal.invariant-loop-i
invariant-loop-i l = (l.start ≤ l.i) × (l.buffer ≡ moved l.i l.end l.by l.initial.buffer)

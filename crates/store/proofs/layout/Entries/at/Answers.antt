-- An entry below the count lies before the stream.
use Rattle.store.proofs.CheckLaws.{entry_in}
use Rattle.std.proofs.Common.{rules}
use Rattle.store.proofs.layout.Entries.at.Goals as goal

pub invariant_of-result : goal.invariant_of-result
invariant_of-result c = record { inside = search (rules, entry_in) }

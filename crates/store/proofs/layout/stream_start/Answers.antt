-- Header and entries, in numbers.
use Rattle.store.specs.Layout.{header_size, entry_size, entries_size}
use Rattle.std.proofs.Common.{rules}
use Rattle.store.proofs.layout.stream_start.Goals as goal

pub returns : goal.returns
unfolding header_size entry_size entries_size
returns c = search rules

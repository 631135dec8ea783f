-- Three fields one behind the other.
use Rattle.append.proofs.AppendLaws.{entry-written}
use Rattle.store.proofs.FormLaws.{narrow-sized}
use Rattle.store.specs.Layout.{narrow, header_size, entry_size, entries_size}
use Rattle.std.proofs.Common.{rules}
use Rattle.append.proofs.write_entry.Goals as goal

pub returns : goal.returns
unfolding header_size entry_size entries_size
returns c = search (rules, entry-written narrow narrow-sized)

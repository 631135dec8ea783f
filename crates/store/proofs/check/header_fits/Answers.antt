-- The header first, then what it says.
use Rattle.store.proofs.CheckLaws.{header-short, header_is}
use Rattle.std.proofs.Common.{rules}
use Rattle.store.specs.Layout.{narrow, header_size, entry_size, entries_size}
use Rattle.store.proofs.check.header_fits.Goals as goal

pub returns-then-store-lt-HEADER : goal.returns-then-store-lt-HEADER
unfolding header_size entry_size entries_size
returns-then-store-lt-HEADER c = search (rules, header-short narrow)

pub returns : goal.returns
unfolding header_size entry_size entries_size
returns c = search (rules, header_is narrow)

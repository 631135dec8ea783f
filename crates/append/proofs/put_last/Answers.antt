-- The stream moved up, the header, the entry and the answer make the new store.
use Rattle.append.proofs.AppendLaws.{last-is}
use Rattle.store.specs.Layout.{header_size, entry_size, entries_size}
use Rattle.std.proofs.Common.{rules}
use Rattle.append.proofs.put_last.Goals as goal

ruleset all = (rules, last-is)

pub slice_bounds-copy_in-count : goal.slice_bounds-copy_in-count
unfolding header_size entry_size entries_size
slice_bounds-copy_in-count c = search all

pub slice_bounds-copy_in-start : goal.slice_bounds-copy_in-start
unfolding header_size entry_size entries_size
slice_bounds-copy_in-start c = search all

pub returns : goal.returns
unfolding header_size entry_size entries_size
returns c = search all

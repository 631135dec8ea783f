-- The two bytes behind the day.
use Rattle.store.proofs.CheckLaws.{offset_read}
use Rattle.std.proofs.Common.{rules}
use Rattle.store.specs.Layout.{header_size, entry_size, entries_size}
use Rattle.store.proofs.layout.Entry.offset.Goals as goal

ruleset all = (rules, offset_read)

pub overflow_mul-at : goal.overflow_mul-at
unfolding header_size entry_size entries_size
overflow_mul-at c = search all

pub overflow_add-at : goal.overflow_add-at
unfolding header_size entry_size entries_size
overflow_add-at c = search all

pub overflow_add-at-2 : goal.overflow_add-at-2
unfolding header_size entry_size entries_size
overflow_add-at-2 c = search all

pub bounds-store-at : goal.bounds-store-at
unfolding header_size entry_size entries_size
bounds-store-at c = search all

pub overflow_add-at-3 : goal.overflow_add-at-3
unfolding header_size entry_size entries_size
overflow_add-at-3 c = search all

pub bounds-store-at-2 : goal.bounds-store-at-2
unfolding header_size entry_size entries_size
bounds-store-at-2 c = search all

pub returns : goal.returns
unfolding header_size entry_size entries_size
returns c = (search all, search rules)

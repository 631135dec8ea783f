-- The bounds, then the buffer.
use Rattle.append.proofs.AppendLaws.{room-count, room-stream, room-short, room-some}
use Rattle.store.specs.Layout.{header_size, entry_size, entries_size}
use Rattle.std.proofs.Common.{rules}
use Rattle.append.proofs.check_room.Goals as goal

ruleset all = (rules, room-count, room-stream, room-short, room-some)

pub returns-then-answers-gt-ANSWERS_MOST : goal.returns-then-answers-gt-ANSWERS_MOST
unfolding header_size entry_size entries_size
returns-then-answers-gt-ANSWERS_MOST c = search all

pub returns-then-t-len-gt-STREAM_MOST : goal.returns-then-t-len-gt-STREAM_MOST
unfolding header_size entry_size entries_size
returns-then-t-len-gt-STREAM_MOST c = search all

pub returns-then-store-stream_start : goal.returns-then-store-stream_start
unfolding header_size entry_size entries_size
returns-then-store-stream_start c = search all

pub returns : goal.returns
unfolding header_size entry_size entries_size
returns c = search all

-- No header, or what it says.
use Rattle.store.proofs.CheckLaws.{count-short, count-is}
use Rattle.store.specs.Layout.{narrow, header_size}
use Rattle.std.proofs.Common.{rules}
use Rattle.store.proofs.check.count_read.Goals as goal

pub returns-then-store-lt-HEADER : goal.returns-then-store-lt-HEADER
unfolding header_size
returns-then-store-lt-HEADER c = search (rules, count-short narrow)

pub returns : goal.returns
unfolding header_size
returns c = search (rules, count-is narrow)

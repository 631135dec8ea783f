-- Two fields at the front.
use Rattle.append.proofs.AppendLaws.{header-written}
use Rattle.store.proofs.FormLaws.{narrow-sized}
use Rattle.store.specs.Layout.{narrow, header_size, entry_size, entries_size}
use Rattle.std.proofs.Common.{rules}
use Rattle.append.proofs.write_header.Goals as goal

pub returns : goal.returns
unfolding header_size entry_size entries_size
returns c = search (rules, header-written narrow narrow-sized)

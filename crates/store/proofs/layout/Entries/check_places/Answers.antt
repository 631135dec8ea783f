use Rattle.octets.proofs.Tests.{flag-nt}
use Rattle.octets.proofs.SearchLaws.{search-start, search-miss}
use Rattle.store.specs.Layout.{narrow}
use Rattle.store.proofs.CheckLaws.{filled_none, filled_next, next-within, tested, entry-wrong, entries-end-short, entries-fill}
use Rattle.std.proofs.Common.{rules}
use Rattle.store.proofs.layout.Entries.check_places.Goals as goal

pub loop-i-init : goal.loop-i-init
loop-i-init c = (search (filled_none narrow), search rules, search search-start)

pub loop-i-preserved : goal.loop-i-preserved
loop-i-preserved c = (search (rules, filled_next narrow), search (rules, flag-nt, next-within narrow), search (rules, search-miss, tested))

pub returns-then-not-place_right : goal.returns-then-not-place_right
returns-then-not-place_right c = search (rules, entry-wrong narrow, tested)

pub returns-then-end-t : goal.returns-then-end-t
returns-then-end-t c = search (rules, entries-end-short narrow)

pub returns : goal.returns
returns c = search (rules, entries-fill narrow)

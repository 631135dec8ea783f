use Rattle.octets.proofs.SearchLaws.{search-start, search-hit, search-miss, search-end, found-by}
use Rattle.store.proofs.CheckLaws.{tested}
use Rattle.std.proofs.Common.{rules}
use Rattle.store.proofs.layout.Entries.first_wrong.Goals as goal

pub loop-i-init : goal.loop-i-init
loop-i-init c = search search-start

pub loop-i-preserved : goal.loop-i-preserved
loop-i-preserved c = search (rules, search-miss, tested)

pub returns-then-not-answer_right : goal.returns-then-not-answer_right
returns-then-not-answer_right c = search (rules, search-hit, found-by, tested)

pub returns : goal.returns
returns c = search (rules, search-end, found-by)

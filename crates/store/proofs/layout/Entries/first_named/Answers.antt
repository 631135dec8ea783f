use Rattle.octets.proofs.Tests.{flag-t, flag-f}
use Rattle.octets.proofs.SearchLaws.{search-start, search-hit, search-miss, search-end, found_at}
use Rattle.std.proofs.Common.{rules}
use Rattle.store.proofs.layout.Entries.first_named.Goals as goal

ruleset all = (rules, flag-t, flag-f, search-start, search-hit, search-miss, search-end, found_at)

pub returns-then-has_name : goal.returns-then-has_name
returns-then-has_name c = search all

pub loop-i-preserved : goal.loop-i-preserved
loop-i-preserved c = search all

pub returns : goal.returns
returns c = search all

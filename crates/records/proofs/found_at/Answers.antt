-- Each return is one of the cases of a header.
use Rattle.records.proofs.HeaderLaws.{found-short, found-zero, found-long, found-whole}
use Rattle.std.proofs.Common.{rules}
use Rattle.records.proofs.found_at.Goals as goal

ruleset all = (rules, found-short, found-zero, found-long, found-whole)

pub returns-then-left-lt5 : goal.returns-then-left-lt5
returns-then-left-lt5 c = search all

pub returns-then-record_size-eq0 : goal.returns-then-record_size-eq0
returns-then-record_size-eq0 c = search all

pub returns-then-left-len : goal.returns-then-left-len
returns-then-left-len c = search all

pub returns : goal.returns
returns c = search all

-- Each return is the first check that fails, or all hold.
use Rattle.records.proofs.RecordLaws.{in-zero, in-other, in-none, in-found}
use Rattle.std.proofs.Common.{rules}
use Rattle.records.proofs.record_in.Goals as goal

ruleset all = (rules, in-zero, in-other, in-none, in-found)

pub returns-then-size-eq0 : goal.returns-then-size-eq0
returns-then-size-eq0 c = search all

pub returns-then-records_len-bytes_of : goal.returns-then-records_len-bytes_of
returns-then-records_len-bytes_of c = search all

pub returns-then-record-count : goal.returns-then-record-count
returns-then-record-count c = search all

pub returns : goal.returns
returns c = search all

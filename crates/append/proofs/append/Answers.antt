-- Refused by the number, or the new store in front.
use Rattle.octets.proofs.CallLaws.{written_is, kept_by, changed, refused-number}
use Rattle.append.specs.Append.{append_result, append_out}
use Rattle.append.proofs.AppendLaws.{accepted-count, accepted-stream, accepted-room, accepted-length, accepted-out}
use Rattle.store.specs.Layout.{narrow, header_size, entry_size, entries_size}
use Rattle.std.proofs.Common.{rules}
use Rattle.append.proofs.append.Goals as goal

pub returns-in_err-check_append-clause-value : goal.returns-in_err-check_append-clause-value
unfolding append_result append_out header_size entry_size entries_size
returns-in_err-check_append-clause-value c = search (rules, written_is, kept_by, refused-number)

pub returns-in_err-check_append-clause-store_after : goal.returns-in_err-check_append-clause-store_after
unfolding append_result append_out header_size entry_size entries_size
returns-in_err-check_append-clause-store_after c = search (rules, kept_by, refused-number)

pub put_last-requires-clause-store_bound : goal.put_last-requires-clause-store_bound
unfolding append_result append_out header_size entry_size entries_size
put_last-requires-clause-store_bound c = let z = c.in_ok-check_append.ensures in search (accepted-count narrow)

pub put_last-requires-clause-answer_bound : goal.put_last-requires-clause-answer_bound
unfolding append_result append_out header_size entry_size entries_size
put_last-requires-clause-answer_bound c = let z = c.in_ok-check_append.ensures in search (accepted-stream narrow)

pub put_last-requires-clause-answer_in_bounds : goal.put_last-requires-clause-answer_in_bounds
unfolding append_result append_out header_size entry_size entries_size
put_last-requires-clause-answer_in_bounds c = let z = c.in_ok-check_append.ensures in search (accepted-room narrow)

pub returns-clause-value : goal.returns-clause-value
unfolding append_result append_out header_size entry_size entries_size
returns-clause-value c = let z = c.in_ok-check_append.ensures in search (written_is, changed, accepted-length)

pub returns-clause-store_after : goal.returns-clause-store_after
unfolding append_result append_out header_size entry_size entries_size
returns-clause-store_after c = let z = c.in_ok-check_append.ensures in search (changed, accepted-out)

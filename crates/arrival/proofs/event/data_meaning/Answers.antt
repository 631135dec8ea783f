-- A refusal, a transfer, a reply or nothing, in this order.
use Rattle.octets.proofs.Tests.{flag-t, flag-f}
use Rattle.arrival.proofs.MeaningLaws.{data-refusal, data-transfer, data-reply, data-other}
use Rattle.std.proofs.Common.{rules}
use Rattle.arrival.proofs.event.data_meaning.Goals as goal

ruleset all = (rules, flag-t, flag-f, data-refusal, data-transfer, data-reply, data-other)

pub returns-then-is_refusal : goal.returns-then-is_refusal
returns-then-is_refusal c = search all

pub returns-then-is_transfer : goal.returns-then-is_transfer
returns-then-is_transfer c = search all

pub returns-then-is_reply : goal.returns-then-is_reply
returns-then-is_reply c = search all

pub returns-else-is_reply : goal.returns-else-is_reply
returns-else-is_reply c = search all

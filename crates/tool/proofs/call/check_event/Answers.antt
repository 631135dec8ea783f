-- 11, then 4.
use Rattle.octets.proofs.Tests.{flag-nt, flag-nf}
use Rattle.tool.proofs.CallLaws.{event-still, event-impossible, event-short, event-right}
use Rattle.std.proofs.Common.{rules}
use Rattle.tool.proofs.call.check_event.Goals as goal

ruleset all = (rules, flag-nt, flag-nf, event-still, event-impossible, event-short, event-right)

pub returns-then-not-is_waiting : goal.returns-then-not-is_waiting
returns-then-not-is_waiting c = search all

pub returns-then-not-possible : goal.returns-then-not-possible
returns-then-not-possible c = search all

pub returns-then-out_len-lt-FRAME_MOST : goal.returns-then-out_len-lt-FRAME_MOST
returns-then-out_len-lt-FRAME_MOST c = search all

pub returns : goal.returns
returns c = search all

-- 12, 11 and 4, in this order.
use Rattle.octets.proofs.CallLaws.{refused-number}
use Rattle.octets.proofs.Tests.{flag-t, flag-f}
use Rattle.tool.proofs.CallLaws.{begin-request, begin-waiting, begin-short, begin-right}
use Rattle.std.proofs.Common.{rules}
use Rattle.tool.proofs.call.check_begin.Goals as goal

ruleset all = (rules, refused-number, flag-t, flag-f, begin-request, begin-waiting, begin-short, begin-right)

pub returns-in_err-check_request : goal.returns-in_err-check_request
returns-in_err-check_request c = search all

pub returns-then-is_waiting : goal.returns-then-is_waiting
returns-then-is_waiting c = search all

pub returns-then-out_len-lt-FRAME_MOST : goal.returns-then-out_len-lt-FRAME_MOST
returns-then-out_len-lt-FRAME_MOST c = search all

pub returns : goal.returns
returns c = search all

-- Each return is the first check that fails.
use Rattle.octets.proofs.Tests.{flag-t, flag-f}
use Rattle.tool.proofs.CallLaws.{request-transfer, request-trep, request-day, request-fixed}
use Rattle.std.proofs.Common.{rules}
use Rattle.tool.proofs.call.check_request.Goals as goal

ruleset all = (rules, flag-t, flag-f, request-transfer, request-trep, request-day, request-fixed)

pub returns-then-is_transfer : goal.returns-then-is_transfer
returns-then-is_transfer c = search all

pub returns-then-name-ne0 : goal.returns-then-name-ne0
returns-then-name-ne0 c = search all

pub returns-then-name-ne0-2 : goal.returns-then-name-ne0-2
returns-then-name-ne0-2 c = search all

pub returns : goal.returns
returns c = search all

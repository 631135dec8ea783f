-- Last sent, next, stop, or any other.
use Rattle.services.proofs.ServiceLaws.{code-repeat, code-next, code-stop, code_other}
use Rattle.std.proofs.Common.{rules}
use Rattle.services.proofs.transfer.on_code.Goals as goal

ruleset all = (rules, code-repeat, code-next, code-stop, code_other)

pub returns-then-c-repeat : goal.returns-then-c-repeat
returns-then-c-repeat c = search all

pub returns-then-c-acknowledge : goal.returns-then-c-acknowledge
returns-then-c-acknowledge c = search all

pub returns-then-c-stop : goal.returns-then-c-stop
returns-then-c-stop c = search all

pub returns : goal.returns
returns c = search all

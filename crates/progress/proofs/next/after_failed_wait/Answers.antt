-- Three sendings or fewer.
use Rattle.progress.proofs.NextLaws.{third-ends, again-waits}
use Rattle.std.proofs.Common.{rules}
use Rattle.progress.proofs.next.after_failed_wait.Goals as goal

ruleset all = (rules, third-ends, again-waits)

pub returns-then-sendings-ge3 : goal.returns-then-sendings-ge3
returns-then-sendings-ge3 c = search all

pub returns : goal.returns
returns c = search all

-- A state that waits is judged, any other is possible.
use Rattle.octets.proofs.Tests.{flag-nt, flag-nf}
use Rattle.progress.proofs.StateLaws.{possible-still, possible-unsent, possible-over, possible-fixed, possible-transfer}
use Rattle.std.proofs.Common.{rules}
use Rattle.progress.proofs.state.possible.Goals as goal

ruleset all = (rules, flag-nt, flag-nf, possible-still, possible-unsent, possible-over, possible-fixed, possible-transfer)

pub returns-then-not-is_waiting : goal.returns-then-not-is_waiting
returns-then-not-is_waiting c = search all

pub returns-then-sendings-lt1 : goal.returns-then-sendings-lt1
returns-then-sendings-lt1 c = search all

pub returns-then-sendings-gt3 : goal.returns-then-sendings-gt3
returns-then-sendings-gt3 c = search all

pub returns-then-not-is_transfer : goal.returns-then-not-is_transfer
returns-then-not-is_transfer c = search all

pub returns : goal.returns
returns c = search all

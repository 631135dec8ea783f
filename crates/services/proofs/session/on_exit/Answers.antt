-- Each return is the first check that fails.
use Rattle.octets.proofs.Tests.{cond-t, cond-f, flag-nt, flag-nf}
use Rattle.services.specs.Services.{on_exit}
use Rattle.services.proofs.ServiceLaws.{alone-t, alone-f}
use Rattle.services.proofs.session.on_exit.Goals as goal

ruleset all = (cond-t, cond-f, flag-nt, flag-nf, alone-t, alone-f)

pub returns-then-not-same : goal.returns-then-not-same
unfolding on_exit
returns-then-not-same c = search all depth 9

pub returns-then-not-is_granted : goal.returns-then-not-is_granted
unfolding on_exit
returns-then-not-is_granted c = search all depth 9

pub returns : goal.returns
unfolding on_exit
returns c = search all

-- Each return is the first check that fails.
use Rattle.octets.proofs.Tests.{cond-t, cond-f}
use Rattle.services.specs.Services.{on_stop}
use Rattle.services.proofs.ServiceLaws.{alone-t, alone-f}
use Rattle.services.proofs.session.on_stop.Goals as goal

ruleset all = (cond-t, cond-f, alone-t, alone-f)

pub returns-then-not-same : goal.returns-then-not-same
unfolding on_stop
returns-then-not-same c = search all depth 9

pub returns : goal.returns
unfolding on_stop
returns c = search all

-- Each return is the first check that fails.
use Rattle.octets.proofs.Tests.{cond-t, cond-f, flag-nt, flag-nf}
use borrow.Author.Tests.{eq-eqb, ne_eqb}
use Rattle.services.specs.Services.{on_upload}
use Rattle.services.proofs.session.on_upload.Goals as goal

ruleset all = (cond-t, cond-f, eq-eqb, ne_eqb, flag-nt, flag-nf)

pub returns-then-data-ne10 : goal.returns-then-data-ne10
unfolding on_upload
returns-then-data-ne10 c = search all depth 9

pub returns-then-not-same : goal.returns-then-not-same
unfolding on_upload
returns-then-not-same c = search all depth 9

pub returns-then-not-may_upload : goal.returns-then-not-may_upload
unfolding on_upload
returns-then-not-may_upload c = search all depth 9

pub returns : goal.returns
unfolding on_upload
returns c = search all depth 9

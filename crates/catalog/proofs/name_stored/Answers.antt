-- The name is listed, so the rule for an entry's day decides.
use Rattle.octets.proofs.Tests.{and-t, flag-t}
use Rattle.catalog.proofs.name_stored.Goals as goal

pub returns : goal.returns
returns c = search (and-t, flag-t)

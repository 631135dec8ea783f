-- TREP and day are read at their places.
use Rattle.store.proofs.CheckLaws.{name-is}
use Rattle.std.proofs.Common.{rules}
use Rattle.store.proofs.layout.Entry.name.Goals as goal

ruleset all = (rules, name-is)

pub returns : goal.returns
returns c = search all

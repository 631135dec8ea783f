-- Another day is another name; else the whole name decides.
use Rattle.store.proofs.CheckLaws.{other-by-day, same-by-name}
use Rattle.std.proofs.Common.{rules}
use Rattle.store.proofs.layout.Entry.has_name.Goals as goal

ruleset all = (rules, other-by-day, same-by-name)

pub returns-then-day-name : goal.returns-then-day-name
returns-then-day-name c = search all

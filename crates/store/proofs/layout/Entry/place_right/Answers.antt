-- Offset, length, end.
use Rattle.store.proofs.CheckLaws.{place-gap, place_short, place_is}
use Rattle.std.proofs.Common.{rules}
use Rattle.store.proofs.layout.Entry.place_right.Goals as goal

ruleset all = (rules, place-gap, place_short, place_is)

pub returns-then-offset-end : goal.returns-then-offset-end
returns-then-offset-end c = search all

pub returns-then-len-lt2 : goal.returns-then-len-lt2
returns-then-len-lt2 c = search all

pub returns : goal.returns
returns c = search all

-- Split or not.
use Rattle.octets.proofs.Tests.{cond-t, cond-f, flag-t, flag-f}
use Rattle.split.specs.Split.{count_of}
use Rattle.std.proofs.Common.{rules}
use Rattle.split.proofs.pieces.count_of.Goals as goal

ruleset all = (rules, cond-t, cond-f, flag-t, flag-f)

pub returns-then-is_split : goal.returns-then-is_split
unfolding count_of
returns-then-is_split c = search all

pub returns-else-is_split : goal.returns-else-is_split
unfolding count_of
returns-else-is_split c = search all

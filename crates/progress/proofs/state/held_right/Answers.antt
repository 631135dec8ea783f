-- First, never, or one of those behind.
use Rattle.progress.proofs.StateLaws.{held_first, held-never, held_more}
use Rattle.std.proofs.Common.{rules}
use Rattle.progress.proofs.state.held_right.Goals as goal

ruleset all = (rules, held_first, held-never, held_more)

pub returns-then-expected-eq1 : goal.returns-then-expected-eq1
returns-then-expected-eq1 c = search all

pub returns-then-expected-lt2 : goal.returns-then-expected-lt2
returns-then-expected-lt2 c = search all

pub returns : goal.returns
returns c = search all

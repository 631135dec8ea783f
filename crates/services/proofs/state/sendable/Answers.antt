-- Each return is one test of the definition.
use Rattle.services.proofs.StateLaws.{sendable-missing, sendable-whole, sendable-zero, sendable-is}
use Rattle.std.proofs.Common.{rules}
use Rattle.services.proofs.state.sendable.Goals as goal

ruleset all = (rules, sendable-missing, sendable-whole, sendable-zero, sendable-is)

pub returns-then-place-ne0 : goal.returns-then-place-ne0
returns-then-place-ne0 c = search all

pub returns-then-not-is_split : goal.returns-then-not-is_split
returns-then-not-is_split c = search all

pub returns-then-k-lt1 : goal.returns-then-k-lt1
returns-then-k-lt1 c = search all

pub returns : goal.returns
returns c = search all

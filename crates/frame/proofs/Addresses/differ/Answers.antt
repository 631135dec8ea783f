-- Equal addresses, or different ones.
use Rattle.frame.specs.Given.{different}
use Rattle.frame.proofs.GivenLaws.{given}
use Rattle.std.proofs.Common.{rules}
use Rattle.frame.proofs.Addresses.differ.Goals as goal

ruleset all = (rules, given)

pub returns-then-self : goal.returns-then-self
unfolding different
returns-then-self c = search all

pub returns : goal.returns
unfolding different
returns c = search all

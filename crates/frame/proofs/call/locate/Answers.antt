-- Equal addresses, or the call at two different ones.
use Rattle.frame.specs.Given.{data_place_given}
use Rattle.frame.proofs.GivenLaws.{given}
use Rattle.std.proofs.Common.{rules}
use Rattle.frame.proofs.call.locate.Goals as goal

ruleset all = (rules, given)

pub returns-in_err-differ : goal.returns-in_err-differ
unfolding data_place_given
returns-in_err-differ c = search all

pub returns : goal.returns
unfolding data_place_given
returns c = search all

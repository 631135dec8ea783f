-- Refused, the part is empty; else the form says where the data lies.
use Rattle.frame.proofs.CheckLaws.{good-five, place_none, place-good}
use Rattle.std.proofs.Common.{rules}
use Rattle.frame.proofs.check.locate.Goals as goal

ruleset all = (rules, good-five, place_none, place-good)

pub returns-in_err-judge : goal.returns-in_err-judge
returns-in_err-judge c = search all

pub invariant_of-data_in : goal.invariant_of-data_in
invariant_of-data_in c = record { five = search all }

pub returns : goal.returns
returns c = search all

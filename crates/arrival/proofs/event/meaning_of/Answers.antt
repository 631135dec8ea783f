-- One case for each.
use Rattle.arrival.specs.Meaning.{meaning_of}
use Rattle.arrival.proofs.MeaningLaws.{meaning-any}
use Rattle.std.proofs.Common.{rules}
use Rattle.arrival.proofs.event.meaning_of.Goals as goal

ruleset all = (rules, meaning-any)

pub returns-in-Whole : goal.returns-in-Whole
unfolding meaning_of
returns-in-Whole c = search all

pub returns-in-Full : goal.returns-in-Full
unfolding meaning_of
returns-in-Full c = search all

pub returns-in-Last : goal.returns-in-Last
unfolding meaning_of
returns-in-Last c = search all

pub returns-in-Above : goal.returns-in-Above
unfolding meaning_of
returns-in-Above c = search all

pub returns-in-Other : goal.returns-in-Other
unfolding meaning_of
returns-in-Other c = search all

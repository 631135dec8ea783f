-- One law for each case.
use Rattle.split.proofs.JoinLaws.{carried-whole, carried-full, carried-last, carried-above, carried_other}
use Rattle.std.proofs.Common.{rules}
use Rattle.split.proofs.join.carried.Goals as goal

ruleset all = (rules, carried-whole, carried-full, carried-last, carried-above, carried_other)

pub returns-in-Whole : goal.returns-in-Whole
returns-in-Whole c = search all

pub returns-in-Full : goal.returns-in-Full
returns-in-Full c = search all

pub returns-in-Last : goal.returns-in-Last
returns-in-Last c = search all

pub returns-in-Above : goal.returns-in-Above
returns-in-Above c = search all

pub returns-in-Other : goal.returns-in-Other
returns-in-Other c = search all

-- Length, 7F and SID, in this order.
use Rattle.arrival.proofs.MeaningLaws.{refusal-long, refusal-other, refusal-named}
use Rattle.std.proofs.Common.{rules}
use Rattle.arrival.proofs.event.is_refusal.Goals as goal

ruleset all = (rules, refusal-long, refusal-other, refusal-named)

pub returns-then-data-ne3 : goal.returns-then-data-ne3
returns-then-data-ne3 c = search all

pub returns-then-data-ne-NEGATIVE : goal.returns-then-data-ne-NEGATIVE
returns-then-data-ne-NEGATIVE c = search all

pub returns : goal.returns
returns c = search all

-- Form, target and source decide in this order.
use Rattle.frame.proofs.CheckLaws.{address-form, address-target, address-source}
use Rattle.std.proofs.Common.{rules}
use Rattle.frame.proofs.check.Fields.addressed_to.Goals as goal

ruleset all = (rules, address-form, address-target, address-source)

pub returns-then-not-form_right : goal.returns-then-not-form_right
returns-then-not-form_right c = search all

pub returns-then-to-target : goal.returns-then-to-target
returns-then-to-target c = search all

pub returns : goal.returns
returns c = search all

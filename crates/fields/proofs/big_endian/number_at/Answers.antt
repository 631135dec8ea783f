-- Each return is a law of the field: no such field, two bytes, four bytes.
use Rattle.fields.proofs.NumberLaws.{read-start, read-end, read-two, read-four, read-other}
use Rattle.std.proofs.Common.{rules}
use Rattle.fields.proofs.big_endian.number_at.Goals as goal

ruleset all = (rules, read-start, read-end, read-two, read-four, read-other)

pub returns-then-n-at : goal.returns-then-n-at
returns-then-n-at c = search all

pub returns-then-n-at-2 : goal.returns-then-n-at-2
returns-then-n-at-2 c = search all

pub returns-in-2 : goal.returns-in-2
returns-in-2 c = search all

pub returns-in-4 : goal.returns-in-4
returns-in-4 c = search all

pub returns-in_default : goal.returns-in_default
returns-in_default c = search all

-- Each return is a law of the field, as for reading.
use Rattle.fields.proofs.NumberLaws.{write-start, write-end, write-other, write-field}
use Rattle.std.proofs.Common.{rules}
use Rattle.fields.proofs.big_endian.write_number.Goals as goal

ruleset all = (rules, write-start, write-end, write-other, write-field)

pub returns-then-n-at : goal.returns-then-n-at
returns-then-n-at c = search all

pub returns-then-n-at-2 : goal.returns-then-n-at-2
returns-then-n-at-2 c = search all

pub returns-in-2 : goal.returns-in-2
returns-in-2 c = search all

pub returns-in-4 : goal.returns-in-4
returns-in-4 c = search all

pub returns-in_default : goal.returns-in_default
returns-in_default c = search all

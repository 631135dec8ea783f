-- The bytes of the number, copied to the field's place, are the field.
use Rattle.fields.proofs.NumberLaws.{copied-two}
use Rattle.std.proofs.Common.{rules}
use Rattle.fields.proofs.big_endian.write_two.Goals as goal

pub returns : goal.returns
returns c = search (rules, copied-two)

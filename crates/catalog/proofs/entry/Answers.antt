-- Outside the rows there is none; inside them the constant has it.
use Rattle.catalog.proofs.TableLaws.{no_row, column-below, column-entry}
use Rattle.std.proofs.Common.{rules}
use Rattle.catalog.proofs.entry.Goals as goal

ruleset all = (rules, no_row, column-below, column-entry)

pub returns : goal.returns
returns c = search all

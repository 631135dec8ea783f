-- One number for each reading.
use Rattle.states.specs.Readers.{unit_value}
use Rattle.std.proofs.Common.{rules}
use Rattle.states.proofs.readers.unit_value.Goals as goal

pub returns-in-Kind : goal.returns-in-Kind
unfolding unit_value
returns-in-Kind c = search rules

pub returns-in-Rate : goal.returns-in-Rate
unfolding unit_value
returns-in-Rate c = search rules

pub returns-in-Phase : goal.returns-in-Phase
unfolding unit_value
returns-in-Phase c = search rules

use native.Mathlib.Omega.{arith}
use Rattle.octets.proofs.CallLaws.{refused-number}
use Rattle.records.proofs.HeaderLaws.{found_within}
use Rattle.records.proofs.RunLaws.{pass-start, pass-more, pass-stuck, pass-done}
use Rattle.std.proofs.Common.{rules}
use Rattle.records.proofs.header_of.Goals as goal

ruleset all = (rules, found_within, pass-start, pass-more, pass-stuck, pass-done, refused-number)

pub overflow_add-at : goal.overflow_add-at
overflow_add-at c = omega (arith, found_within _ _ _ c.in-Ok.ensures (search rules))

pub loop-preserved : goal.loop-preserved
loop-preserved c = search all

pub returns-in_default-clause-value : goal.returns-in_default-clause-value
returns-in_default-clause-value c = search all

pub returns-clause-value : goal.returns-clause-value
returns-clause-value c = search all

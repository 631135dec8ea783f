use native.Mathlib.Omega.{arith}
use Rattle.octets.proofs.CallLaws.{refused-number}
use Rattle.records.proofs.HeaderLaws.{found_within}
use Rattle.records.proofs.RunLaws.{filled-start, arrays-start, next_more, next-less, filled_more, arrays-more, count-broken, count-whole}
use Rattle.std.proofs.Common.{rules}
use Rattle.records.proofs.array_count.Goals as goal

ruleset all = (rules, found_within, filled-start, arrays-start, next_more, next-less, filled_more, arrays-more, count-broken, count-whole, refused-number)

pub returns-in_err-records : goal.returns-in_err-records
returns-in_err-records c = search all

pub overflow_add-at : goal.overflow_add-at
overflow_add-at c = omega (arith, found_within _ _ _ c.in_ok-records.ensures (search rules))

pub loop-at-smaller : goal.loop-at-smaller
loop-at-smaller c = search all

pub loop-at-preserved : goal.loop-at-preserved
loop-at-preserved c = search all

pub returns : goal.returns
returns c = search all

-- The array is found first, then the record within it.
use native.Mathlib.Omega.{arith}
use Rattle.octets.proofs.CallLaws.{refused-number}
use Rattle.records.proofs.RecordLaws.{place-refused, place_none, place_found, place-within}
use Rattle.std.proofs.Common.{rules}
use Rattle.records.proofs.record_place.Goals as goal

ruleset all = (rules, place-refused, place_none, place_found, refused-number)

pub returns-in_err-found : goal.returns-in_err-found
returns-in_err-found c = search all

pub returns-in_err-inside : goal.returns-in_err-inside
returns-in_err-inside c = search all

pub overflow_add-result : goal.overflow_add-result
overflow_add-result c = omega (
  arith,
  place-within _ _ _ _ c.in_ok-found.ensures _ (search rules)
      c.in_ok-inside.ensures (search rules),
)

pub returns : goal.returns
returns c = search all

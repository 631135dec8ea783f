-- The body is judged first; then its arrays are counted.
use Rattle.octets.proofs.CallLaws.{refused-number}
use Rattle.records.proofs.RunLaws.{array-broken, array-none, array-found}
use Rattle.std.proofs.Common.{rules}
use Rattle.records.proofs.array_at.Goals as goal

ruleset all = (rules, array-broken, array-none, array-found, refused-number)

pub returns-in_err-arrays : goal.returns-in_err-arrays
returns-in_err-arrays c = search all

pub returns-then-arrays-array : goal.returns-then-arrays-array
returns-then-arrays-array c = search all

pub returns : goal.returns
returns c = search all

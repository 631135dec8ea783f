-- The numbers in order.
use Rattle.octets.proofs.CallLaws.{refused-number}
use Rattle.append.proofs.AppendLaws.{append-broken, append-unlisted, append-held, append-room}
use Rattle.std.proofs.Common.{rules}
use Rattle.append.proofs.check_append.Goals as goal

ruleset all = (rules, append-broken, append-unlisted, append-held, append-room, refused-number)

pub returns-in_err-found : goal.returns-in_err-found
returns-in_err-found c = search all

pub returns-in_err-check_answer : goal.returns-in_err-check_answer
returns-in_err-check_answer c = search all

pub returns-then-is_some : goal.returns-then-is_some
returns-then-is_some c = search all

pub returns : goal.returns
returns c = search all

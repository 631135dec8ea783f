-- Name, held bytes, room and bound, in this order.
use Rattle.octets.proofs.Tests.{flag-nt, flag-nf}
use Rattle.octets.proofs.CallLaws.{judged-refused, judged-done}
use Rattle.progress.proofs.StateLaws.{transfer-unnamed, transfer-held, transfer-room, transfer-most}
use Rattle.std.proofs.Common.{rules}
use Rattle.progress.proofs.state.transfer_possible.Goals as goal

ruleset all = (rules, flag-nt, flag-nf, transfer-unnamed, transfer-held, transfer-room, transfer-most, judged-refused, judged-done)

pub returns-then-is_err : goal.returns-then-is_err
returns-then-is_err c = search all

pub returns-then-not-held_right : goal.returns-then-not-held_right
returns-then-not-held_right c = search all

pub returns-then-room_len-held : goal.returns-then-room_len-held
returns-then-room_len-held c = search all

pub returns : goal.returns
returns c = search all

-- Taken or not.
use Rattle.octets.proofs.Tests.{flag-nt, flag-nf}
use Rattle.tool.proofs.RoomLaws.{header-fits, room-taken, room-kept}
use Rattle.std.proofs.Common.{sym, ◌∙◌, rules}
use Rattle.tool.proofs.room.take_in.Goals as goal

ruleset all = (rules, flag-nt, flag-nf, room-taken, room-kept)

pub returns-then-not-takes : goal.returns-then-not-takes
returns-then-not-takes c = search all

pub keep_header-requires : goal.keep_header-requires
keep_header-requires c = λ one. header-fits _ _ _ _ _ (sym c.takes.ensures ∙ c.if-not-takes.false) c.requires one

pub returns : goal.returns
returns c = search all

-- The frame fits, so the write is not refused.
use Rattle.unit.proofs.ReplyLaws.{sent-length, sent-out}
use Rattle.std.proofs.Common.{rules}
use Rattle.unit.proofs.reply.send.Goals as goal

ruleset all = (rules, sent-length, sent-out)

pub returns-clause-value : goal.returns-clause-value
returns-clause-value c = search all

pub returns-clause-reply_after : goal.returns-clause-reply_after
returns-clause-reply_after c = search all

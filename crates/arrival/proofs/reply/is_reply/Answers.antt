-- One reply for each fixed request.
use Rattle.arrival.specs.Replies.{reply_wanted}
use Rattle.arrival.proofs.MeaningLaws.{reply-at}
use Rattle.std.proofs.Common.{rules}
use Rattle.arrival.proofs.reply.is_reply.Goals as goal

ruleset all = (rules, reply-at)

pub returns-in-Start : goal.returns-in-Start
unfolding reply_wanted
returns-in-Start c = search all

pub returns-in-Session : goal.returns-in-Session
unfolding reply_wanted
returns-in-Session c = search all

pub returns-in-Upload : goal.returns-in-Upload
unfolding reply_wanted
returns-in-Upload c = search all

pub returns-in-Exit : goal.returns-in-Exit
unfolding reply_wanted
returns-in-Exit c = search all

pub returns-in-Stop : goal.returns-in-Stop
unfolding reply_wanted
returns-in-Stop c = search all

pub returns-in-Transfer : goal.returns-in-Transfer
unfolding reply_wanted
returns-in-Transfer c = search all

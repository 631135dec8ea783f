-- One SID for each request.
use Rattle.octets.proofs.Tests.{cond-t, cond-f}
use borrow.Author.Tests.{eq-eqb, ne_eqb}
use Rattle.arrival.specs.Replies.{sid_sent}
use Rattle.arrival.proofs.MeaningLaws.{sid-at}
use Rattle.std.proofs.Common.{rules}
use Rattle.arrival.proofs.reply.sid_sent.Goals as goal

ruleset all = (rules, cond-t, cond-f, eq-eqb, ne_eqb, sid-at)

pub returns-in-Start : goal.returns-in-Start
unfolding sid_sent
returns-in-Start c = search all

pub returns-in-Session : goal.returns-in-Session
unfolding sid_sent
returns-in-Session c = search all

pub returns-in-Upload : goal.returns-in-Upload
unfolding sid_sent
returns-in-Upload c = search all

pub returns-in-Exit : goal.returns-in-Exit
unfolding sid_sent
returns-in-Exit c = search all

pub returns-in-Stop : goal.returns-in-Stop
unfolding sid_sent
returns-in-Stop c = search all

pub returns-then-expected-eq1 : goal.returns-then-expected-eq1
unfolding sid_sent
returns-then-expected-eq1 c = search all

pub returns-else-expected-eq1 : goal.returns-else-expected-eq1
unfolding sid_sent
returns-else-expected-eq1 c = search all

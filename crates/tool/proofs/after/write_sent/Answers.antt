-- One frame or none for each meaning.
use Rattle.arrival.specs.Meaning.{takes}
use Rattle.tool.specs.After.{sent_after}
use Rattle.tool.proofs.AfterLaws.{sent-at-length, sent-at-front, front-none, taken_next, third-length, third-front, again-length, again-front, stop-length, stop-front}
use Rattle.requests.proofs.SentLaws.{request-whole, request-front, acknowledgement-whole, acknowledgement-front}
use Rattle.std.proofs.Common.{rules}
use Rattle.tool.proofs.after.write_sent.Goals as goal

ruleset whole = (stop-length, stop-front, request-whole, request-front, acknowledgement-whole, acknowledgement-front)

ruleset all = (rules, sent-at-length, sent-at-front, front-none, taken_next, third-length, third-front, again-length, again-front, whole)

pub overflow_add-next : goal.overflow_add-next
unfolding sent_after takes
overflow_add-next c = search all

pub returns-in-Ignored-clause-value : goal.returns-in-Ignored-clause-value
unfolding sent_after takes
returns-in-Ignored-clause-value c = search all

pub returns-in-Ignored-clause-out_after : goal.returns-in-Ignored-clause-out_after
unfolding sent_after takes
returns-in-Ignored-clause-out_after c = search all

pub returns-then-state-ge3-clause-value : goal.returns-then-state-ge3-clause-value
unfolding sent_after takes
returns-then-state-ge3-clause-value c = search all

pub returns-then-state-ge3-clause-out_after : goal.returns-then-state-ge3-clause-out_after
unfolding sent_after takes
returns-then-state-ge3-clause-out_after c = search all

pub returns-else-state-ge3-clause-value : goal.returns-else-state-ge3-clause-value
unfolding sent_after takes
returns-else-state-ge3-clause-value c = search all

pub returns-else-state-ge3-clause-out_after : goal.returns-else-state-ge3-clause-out_after
unfolding sent_after takes
returns-else-state-ge3-clause-out_after c = search all

pub returns-in-Confirmed-clause-value : goal.returns-in-Confirmed-clause-value
unfolding sent_after takes
returns-in-Confirmed-clause-value c = search all

pub returns-in-Confirmed-clause-out_after : goal.returns-in-Confirmed-clause-out_after
unfolding sent_after takes
returns-in-Confirmed-clause-out_after c = search all

pub returns-in-WholeAnswer-clause-value : goal.returns-in-WholeAnswer-clause-value
unfolding sent_after takes
returns-in-WholeAnswer-clause-value c = search all

pub returns-in-WholeAnswer-clause-out_after : goal.returns-in-WholeAnswer-clause-out_after
unfolding sent_after takes
returns-in-WholeAnswer-clause-out_after c = search all

pub returns-in-SubMessageTaken-clause-value : goal.returns-in-SubMessageTaken-clause-value
unfolding sent_after takes
returns-in-SubMessageTaken-clause-value c = search all

pub returns-in-SubMessageTaken-clause-out_after : goal.returns-in-SubMessageTaken-clause-out_after
unfolding sent_after takes
returns-in-SubMessageTaken-clause-out_after c = search all

pub returns-in-LastTaken-clause-value : goal.returns-in-LastTaken-clause-value
unfolding sent_after takes
returns-in-LastTaken-clause-value c = search all

pub returns-in-LastTaken-clause-out_after : goal.returns-in-LastTaken-clause-out_after
unfolding sent_after takes
returns-in-LastTaken-clause-out_after c = search all

pub returns-in-NoRoomForAnswer-clause-value : goal.returns-in-NoRoomForAnswer-clause-value
unfolding sent_after takes
returns-in-NoRoomForAnswer-clause-value c = search all

pub returns-in-NoRoomForAnswer-clause-out_after : goal.returns-in-NoRoomForAnswer-clause-out_after
unfolding sent_after takes
returns-in-NoRoomForAnswer-clause-out_after c = search all

pub returns-in-NoRoomForSubMessage-clause-value : goal.returns-in-NoRoomForSubMessage-clause-value
unfolding sent_after takes
returns-in-NoRoomForSubMessage-clause-value c = search all

pub returns-in-NoRoomForSubMessage-clause-out_after : goal.returns-in-NoRoomForSubMessage-clause-out_after
unfolding sent_after takes
returns-in-NoRoomForSubMessage-clause-out_after c = search all

pub returns-in-RefusedBy-clause-value : goal.returns-in-RefusedBy-clause-value
unfolding sent_after takes
returns-in-RefusedBy-clause-value c = search all

pub returns-in-RefusedBy-clause-out_after : goal.returns-in-RefusedBy-clause-out_after
unfolding sent_after takes
returns-in-RefusedBy-clause-out_after c = search all

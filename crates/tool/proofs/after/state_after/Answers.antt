-- One state for each meaning.
use Rattle.arrival.specs.Meaning.{takes}
use Rattle.tool.specs.After.{state_after}
use Rattle.tool.proofs.AfterLaws.{state-at, state-whole, state-taken, state-last, taken-sum, taken_next}
use Rattle.std.proofs.Common.{rules}
use Rattle.tool.proofs.after.state_after.Goals as goal

ruleset all = (rules, state-at, state-whole, state-taken, state-last, taken-sum, taken_next)

pub grown-requires : goal.grown-requires
unfolding state_after takes
grown-requires c = search all

pub overflow_add-state : goal.overflow_add-state
unfolding state_after takes
overflow_add-state c = search all

pub grown-requires-in-SubMessageTaken : goal.grown-requires-in-SubMessageTaken
unfolding state_after takes
grown-requires-in-SubMessageTaken c = search all

pub grown-requires-in-LastTaken : goal.grown-requires-in-LastTaken
unfolding state_after takes
grown-requires-in-LastTaken c = search all

pub returns-in-Ignored : goal.returns-in-Ignored
unfolding state_after takes
returns-in-Ignored c = search all

pub returns-in-FailedWait : goal.returns-in-FailedWait
unfolding state_after takes
returns-in-FailedWait c = search all

pub returns-in-Confirmed : goal.returns-in-Confirmed
unfolding state_after takes
returns-in-Confirmed c = search all

pub returns-in-WholeAnswer : goal.returns-in-WholeAnswer
unfolding state_after takes
returns-in-WholeAnswer c = search all

pub returns-in-SubMessageTaken : goal.returns-in-SubMessageTaken
unfolding state_after takes
returns-in-SubMessageTaken c = search all

pub returns-in-LastTaken : goal.returns-in-LastTaken
unfolding state_after takes
returns-in-LastTaken c = search all

pub returns-in-NoRoomForAnswer : goal.returns-in-NoRoomForAnswer
unfolding state_after takes
returns-in-NoRoomForAnswer c = search all

pub returns-in-NoRoomForSubMessage : goal.returns-in-NoRoomForSubMessage
unfolding state_after takes
returns-in-NoRoomForSubMessage c = search all

pub returns-in-RefusedBy : goal.returns-in-RefusedBy
unfolding state_after takes
returns-in-RefusedBy c = search all

-- One case for each reaction.
use Rattle.services.specs.After.{state_after}
use Rattle.services.proofs.AfterLaws.{state-is, state-sent}
use Rattle.std.proofs.Common.{rules}
use Rattle.services.proofs.after.state_after.Goals as goal

ruleset all = (rules, state-is)

pub returns-in-Ignored : goal.returns-in-Ignored
unfolding state_after
returns-in-Ignored c = search all

pub returns-in-CommunicationStarted : goal.returns-in-CommunicationStarted
unfolding state_after
returns-in-CommunicationStarted c = search all

pub returns-in-SessionOpened : goal.returns-in-SessionOpened
unfolding state_after
returns-in-SessionOpened c = search all

pub returns-in-RateOffered : goal.returns-in-RateOffered
unfolding state_after
returns-in-RateOffered c = search all

pub returns-in-RateChanged : goal.returns-in-RateChanged
unfolding state_after
returns-in-RateChanged c = search all

pub returns-in-UploadGranted : goal.returns-in-UploadGranted
unfolding state_after
returns-in-UploadGranted c = search all

pub returns-in-AnswerSent : goal.returns-in-AnswerSent
unfolding state_after
returns-in-AnswerSent c = search (rules, state-sent)

pub returns-in-AnswerStopped : goal.returns-in-AnswerStopped
unfolding state_after
returns-in-AnswerStopped c = search all

pub returns-in-TransferExited : goal.returns-in-TransferExited
unfolding state_after
returns-in-TransferExited c = search all

pub returns-in-CommunicationStopped : goal.returns-in-CommunicationStopped
unfolding state_after
returns-in-CommunicationStopped c = search all

pub returns-in-Negative : goal.returns-in-Negative
unfolding state_after
returns-in-Negative c = search all

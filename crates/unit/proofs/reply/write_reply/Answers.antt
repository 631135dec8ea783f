-- One case for each reaction.
use Rattle.octets.specs.Buffer.{front}
use Rattle.unit.specs.Piece.{piece_sent}
use Rattle.unit.specs.Call.{reply_data, reply_to}
use Rattle.unit.proofs.ReplyLaws.{reply-length, reply-out}
use Rattle.std.proofs.Common.{rules}
use Rattle.unit.proofs.reply.write_reply.Goals as goal

ruleset all = (rules, reply-length, reply-out)

pub send_answer-requires-clause-answer_value : goal.send_answer-requires-clause-answer_value
unfolding piece_sent
send_answer-requires-clause-answer_value c = rw c.in-AnswerSent.is at c.requires.reaction_value

pub returns-in-Ignored-clause-value : goal.returns-in-Ignored-clause-value
unfolding front reply_data reply_to
returns-in-Ignored-clause-value c = search rules

pub returns-in-Ignored-clause-reply_after : goal.returns-in-Ignored-clause-reply_after
unfolding front reply_data reply_to
returns-in-Ignored-clause-reply_after c = search rules

pub returns-in-CommunicationStarted-clause-value : goal.returns-in-CommunicationStarted-clause-value
unfolding front reply_data reply_to
returns-in-CommunicationStarted-clause-value c = search rules

pub returns-in-CommunicationStarted-clause-reply_after : goal.returns-in-CommunicationStarted-clause-reply_after
unfolding front reply_data reply_to
returns-in-CommunicationStarted-clause-reply_after c = search rules

pub returns-in-SessionOpened-clause-value : goal.returns-in-SessionOpened-clause-value
unfolding front reply_data reply_to
returns-in-SessionOpened-clause-value c = search rules

pub returns-in-SessionOpened-clause-reply_after : goal.returns-in-SessionOpened-clause-reply_after
unfolding front reply_data reply_to
returns-in-SessionOpened-clause-reply_after c = search rules

pub returns-in-RateOffered-clause-value : goal.returns-in-RateOffered-clause-value
unfolding front reply_data reply_to
returns-in-RateOffered-clause-value c = search all

pub returns-in-RateOffered-clause-reply_after : goal.returns-in-RateOffered-clause-reply_after
unfolding front reply_data reply_to
returns-in-RateOffered-clause-reply_after c = search all

pub returns-in-RateChanged-clause-value : goal.returns-in-RateChanged-clause-value
unfolding front reply_data reply_to
returns-in-RateChanged-clause-value c = search rules

pub returns-in-RateChanged-clause-reply_after : goal.returns-in-RateChanged-clause-reply_after
unfolding front reply_data reply_to
returns-in-RateChanged-clause-reply_after c = search rules

pub returns-in-UploadGranted-clause-value : goal.returns-in-UploadGranted-clause-value
unfolding front reply_data reply_to
returns-in-UploadGranted-clause-value c = search rules

pub returns-in-UploadGranted-clause-reply_after : goal.returns-in-UploadGranted-clause-reply_after
unfolding front reply_data reply_to
returns-in-UploadGranted-clause-reply_after c = search rules

pub returns-in-AnswerSent-clause-value : goal.returns-in-AnswerSent-clause-value
unfolding front reply_data reply_to
returns-in-AnswerSent-clause-value c = search rules

pub returns-in-AnswerSent-clause-reply_after : goal.returns-in-AnswerSent-clause-reply_after
unfolding front reply_data reply_to
returns-in-AnswerSent-clause-reply_after c = search rules

pub returns-in-AnswerStopped-clause-value : goal.returns-in-AnswerStopped-clause-value
unfolding front reply_data reply_to
returns-in-AnswerStopped-clause-value c = search all

pub returns-in-AnswerStopped-clause-reply_after : goal.returns-in-AnswerStopped-clause-reply_after
unfolding front reply_data reply_to
returns-in-AnswerStopped-clause-reply_after c = search all

pub returns-in-TransferExited-clause-value : goal.returns-in-TransferExited-clause-value
unfolding front reply_data reply_to
returns-in-TransferExited-clause-value c = search rules

pub returns-in-TransferExited-clause-reply_after : goal.returns-in-TransferExited-clause-reply_after
unfolding front reply_data reply_to
returns-in-TransferExited-clause-reply_after c = search rules

pub returns-in-CommunicationStopped-clause-value : goal.returns-in-CommunicationStopped-clause-value
unfolding front reply_data reply_to
returns-in-CommunicationStopped-clause-value c = search rules

pub returns-in-CommunicationStopped-clause-reply_after : goal.returns-in-CommunicationStopped-clause-reply_after
unfolding front reply_data reply_to
returns-in-CommunicationStopped-clause-reply_after c = search rules

pub returns-in-Negative-clause-value : goal.returns-in-Negative-clause-value
unfolding front reply_data reply_to
returns-in-Negative-clause-value c = search all

pub returns-in-Negative-clause-reply_after : goal.returns-in-Negative-clause-reply_after
unfolding front reply_data reply_to
returns-in-Negative-clause-reply_after c = search all

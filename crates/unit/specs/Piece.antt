-- What the writer of replies is given: a sub message that is there. It holds of every reaction of a unit in a possible
-- state (sends-what-is, proofs/SentLaws).
use Rattle.std.specs.Prelude.{ℕ, ◌+◌, ◌-◌, ◌&&◌, List, leb, length}
use Rattle.octets.specs.Order.{unless}
use Rattle.octets.specs.Numbers.{not_held}
use Rattle.octets.specs.declared.Part.{Part}
use Rattle.split.specs.Split.{piece_number}
use Rattle.services.specs.declared.Reaction.{Reaction}
use Rattle.services.specs.declared.Reaction.TheVariants.{Ignored, CommunicationStarted, SessionOpened, RateOffered}
use Rattle.services.specs.declared.Reaction.TheVariants.{RateChanged, UploadGranted, AnswerSent, AnswerStopped}
use Rattle.services.specs.declared.Reaction.TheVariants.{TransferExited, CommunicationStopped, Negative}

-- the number of sub message k of the answer that is this part of the store, by the rules of splitting: 0 where the
-- answer lies in the store, 76 and TREP included, and there is such a sub message
unfoldable pub piece_at : List ℕ → ℕ → Part → ℕ
piece_at store k part =
    unless (leb 2 part.len && leb (part.start + part.len) (length store)) not_held
    (piece_number (part.len - 2) k)

-- the same of what a reaction sends, 0 where it sends no answer
unfoldable pub piece_sent : List ℕ → Reaction → ℕ
piece_sent store Ignored = 0
piece_sent store CommunicationStarted = 0
piece_sent store SessionOpened = 0
piece_sent store (RateOffered r) = 0
piece_sent store RateChanged = 0
piece_sent store UploadGranted = 0
piece_sent store (AnswerSent name k part) = piece_at store k.0 part
piece_sent store AnswerStopped = 0
piece_sent store TransferExited = 0
piece_sent store CommunicationStopped = 0
piece_sent store (Negative sid code) = 0

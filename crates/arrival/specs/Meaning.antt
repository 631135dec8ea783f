-- What a string that arrives means to a waiting tool.
use Rattle.std.specs.Prelude.{ℕ, ◌+◌, Bool, true, false, cond, ◌&&◌, List, [], ◌∷◌, ◌++◌, length, get_or, eqb, leb}
use Rattle.octets.specs.Numbers.{changed_by}
use Rattle.octets.specs.Buffer.{same_bytes}
use Rattle.frame.specs.declared.Addresses.{Addresses}
use Rattle.frame.specs.declared.End.TheVariants as ends
use Rattle.frame.specs.Frame.{judged, data_place, data_of}
use Rattle.split.specs.Join.{received_as, carried_by}
use Rattle.split.specs.declared.Received.{Received}
use Rattle.split.specs.declared.Received.TheVariants.{Whole, Full, Last, Above, Other}
use Rattle.progress.specs.declared.ToolState.{ToolState}
use Rattle.arrival.specs.declared.Meaning.{Meaning}
use Rattle.octets.specs.Numbers.{placed}
use Rattle.octets.specs.declared.Place.{Place}
use Rattle.arrival.specs.declared.Arrival.{Arrival}
use Rattle.arrival.specs.declared.Meaning.TheVariants.{Ignored, FailedWait, Confirmed, WholeAnswer}
use Rattle.arrival.specs.declared.Meaning.TheVariants.{SubMessageTaken, LastTaken, NoRoomForAnswer}
use Rattle.arrival.specs.declared.Meaning.TheVariants.{NoRoomForSubMessage, RefusedBy}
use Rattle.progress.specs.State.{held_most, is_transfer}
use Rattle.arrival.specs.Replies.{sid_sent, reply_wanted}

-- "Held bytes are 76, TREP, data": 76 and TREP come before the data of the first frame alone
unfoldable pub header : ToolState → List ℕ
header t = cond (eqb t.expected.0 1) (0x76 ∷ t.name.trep ∷ []) []

-- what a frame's data d, which is x of the answer, adds to the held bytes where it is taken
abbrev pub new_bytes : ToolState → Received → List ℕ → List ℕ
new_bytes t x d = header t ++ carried_by x d

-- "If they would pass the room or 60,000"
unfoldable pub fits : ℕ → ToolState → ℕ → Bool
fits room_len t n = leb (t.held + n) room_len && leb (t.held + n) held_most

-- a frame's data in a transfer, by what it is of the answer and whether it fits
unfoldable pub meaning_of : Received → Bool → Meaning
meaning_of Whole fit = cond fit WholeAnswer NoRoomForAnswer
meaning_of Full fit = cond fit SubMessageTaken NoRoomForSubMessage
meaning_of Last fit = cond fit LastTaken NoRoomForSubMessage
meaning_of Above fit = FailedWait
meaning_of Other fit = Ignored

abbrev pub received_by : ToolState → List ℕ → Received
received_by t d = received_as t.name.trep t.expected.0 d

unfoldable pub transfer_meaning : ℕ → ToolState → List ℕ → Meaning
transfer_meaning room_len t d =
    meaning_of (received_by t d) (fits room_len t (length (new_bytes t (received_by t d) d)))

-- "A three-byte 7F reply naming the SID last sent"
unfoldable pub is_refusal : ToolState → List ℕ → Bool
is_refusal t d =
    eqb (length d) 3 && (eqb (get_or d 0 0) 0x7F && eqb (get_or d 1 0) (sid_sent t.request t.expected.0))

-- "code 78 starts the wait anew and sends nothing; another code ends the request with that code"
unfoldable pub refusal_meaning : ℕ → Meaning
refusal_meaning code = cond (eqb code 0x78) Ignored (RefusedBy code)

-- the data of a good frame
unfoldable pub data_meaning : ℕ → ToolState → List ℕ → Meaning
data_meaning room_len t d =
    cond (is_refusal t d) (refusal_meaning (get_or d 2 0))
    (cond (is_transfer t.request) (transfer_meaning room_len t d)
    (cond (same_bytes d (reply_wanted t.request)) Confirmed Ignored))

-- what is taken: its bytes go into the room
unfoldable pub takes : Meaning → Bool
takes Ignored = false
takes FailedWait = false
takes Confirmed = false
takes WholeAnswer = true
takes SubMessageTaken = true
takes LastTaken = true
takes NoRoomForAnswer = false
takes NoRoomForSubMessage = false
takes (RefusedBy code) = false

-- a string that arrives: "At the tool a frame that fails the frame rules is an event, not a refusal"
unfoldable pub arrival_meaning : Addresses → ℕ → ToolState → List ℕ → Meaning
arrival_meaning a room_len t b =
    changed_by (judged a ends.Tool b) (data_meaning room_len t (data_of a ends.Tool b)) FailedWait

-- the bytes that it adds to the held ones where it is taken
unfoldable pub arrival_bytes : Addresses → ToolState → List ℕ → List ℕ
arrival_bytes a t b = new_bytes t (received_by t (data_of a ends.Tool b)) (data_of a ends.Tool b)

-- all that a call needs of it: where its data lies, what that is of the answer, how many bytes it adds to those held
-- where it is taken, what it means
pub record Incoming : Type 0 where
  pub place : Place
  pub received : Received
  pub new : ℕ
  pub meaning : Meaning

-- the same as the code has it
abbrev pub shown : Arrival → Incoming
shown x = record { place = placed x.data; received = x.received; new = x.new; meaning = x.meaning }

unfoldable pub arrival_of : Addresses → ℕ → ToolState → List ℕ → Incoming
arrival_of a room_len t b =
    record {
      place = data_place a ends.Tool b;
      received = received_by t (data_of a ends.Tool b);
      new = length (arrival_bytes a t b);
      meaning = arrival_meaning a room_len t b;
    }

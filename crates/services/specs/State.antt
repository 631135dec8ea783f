-- The unit's state: fresh, possible, and what the phases mean. A call looks the answer that is being sent up once; the
-- rules speak of the place where it lies.
use Rattle.std.specs.Prelude.{ℕ, ◌-◌, Bool, true, false, ◌&&◌, eqb, ltb, leb}
use Rattle.octets.specs.declared.Place.{Place}
use Rattle.octets.specs.declared.Part.{Part}
use Rattle.octets.specs.Numbers.{part_of_place}
use Rattle.catalog.specs.Name.{no_answer}
use Rattle.catalog.specs.declared.AnswerName.{AnswerName}
use Rattle.split.specs.declared.SubMessage.{SubMessage}
use Rattle.split.specs.Split.{is_split, count_of}
use Rattle.services.specs.declared.Phase.{Phase}
use Rattle.services.specs.declared.Phase.TheVariants.{Closed, Started, Session, Granted, Sending}
use Rattle.services.specs.declared.UnitState.{UnitState}

-- "Fresh: closed, rate 1, none pending"
abbrev pub fresh_unit : ℕ → UnitState
fresh_unit kind = record { kind = kind; rate = 1; pending = 0; phase = Closed }

abbrev pub is_closed : Phase → Bool
is_closed Closed = true
is_closed Started = false
is_closed Session = false
is_closed Granted = false
is_closed (Sending name last) = false

abbrev pub in_session : Phase → Bool
in_session Closed = false
in_session Started = false
in_session Session = true
in_session Granted = false
in_session (Sending name last) = false

-- granted or sending
abbrev pub is_granted : Phase → Bool
is_granted Closed = false
is_granted Started = false
is_granted Session = false
is_granted Granted = true
is_granted (Sending name last) = true

-- the name of the answer that is being sent; in the other phases there is none
abbrev pub name_sent : Phase → AnswerName
name_sent Closed = no_answer
name_sent Started = no_answer
name_sent Session = no_answer
name_sent Granted = no_answer
name_sent (Sending name last) = name

-- the data bytes of an answer that is this part of the store, behind 76 and TREP
abbrev pub data_length : Part → ℕ
data_length part = part.len - 2

abbrev pub data_length_at : Place → ℕ
data_length_at place = data_length (part_of_place place)

-- the answer at that place has sub message k: it is held, split, and the number is among its sub messages
unfoldable pub sendable : Place → SubMessage → Bool
sendable place k =
    eqb place.number 0
    && (is_split (data_length_at place) && (leb 1 k.0 && leb k.0 (count_of (data_length_at place))))

-- "or, when sending, if the answer is not in the store, is not split, or the last number is not among its sub messages"
unfoldable pub phase_possible : Place → Phase → Bool
phase_possible sent Closed = true
phase_possible sent Started = true
phase_possible sent Session = true
phase_possible sent Granted = true
phase_possible sent (Sending name last) = sendable sent last

-- "A state is impossible if kind or a rate is outside its range .."; sent is where the answer lies that is being sent
unfoldable pub possible_at : Place → UnitState → Bool
possible_at sent u =
    ltb u.kind 3
    && ((leb 1 u.rate && leb u.rate 5) && (leb u.pending 5 && phase_possible sent u.phase))

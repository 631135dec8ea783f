-- The services of document 01's table, row by row. Each takes the data d of a good frame heard when not closed; its
-- checks run in the order "at least its shortest length (13), sub function or TRTP known (12), exact length (13),
-- values (31), phase (22), data held (FA)".
use Rattle.std.specs.Prelude.{ℕ, ◌+◌, Bool, cond, not, ◌&&◌, ◌||◌, List, length, get_or, eqb, leb}
use Rattle.octets.specs.Order.{unless}
use Rattle.octets.specs.Buffer.{same_bytes}
use Rattle.fields.specs.BigEndian.{number_at}
use Rattle.octets.specs.declared.Place.{Place}
use Rattle.octets.specs.declared.Part.{Part}
use Rattle.octets.specs.Numbers.{part_of_place}
use Rattle.frame.specs.Messages.{upload_request}
use Rattle.catalog.specs.Table.{known_to, is_activities}
use Rattle.catalog.specs.Name.{no_answer}
use Rattle.catalog.specs.declared.AnswerName.{AnswerName}
use Rattle.split.specs.Split.{count_of}
use Rattle.split.specs.Codes.{sub, code, same_code, next_of, acknowledge_of, repeat_of, stop_code}
use Rattle.split.specs.declared.SubMessage.{SubMessage}
use Rattle.split.specs.declared.AckCode.{AckCode}
use Rattle.services.specs.declared.Phase.{Phase}
use Rattle.services.specs.declared.Phase.TheVariants.{Closed, Started, Session, Granted, Sending}
use Rattle.services.specs.declared.Reaction.{Reaction}
use Rattle.services.specs.declared.Reaction.TheVariants.{SessionOpened, RateOffered, RateChanged, UploadGranted}
use Rattle.services.specs.declared.Reaction.TheVariants.{AnswerSent, AnswerStopped, TransferExited}
use Rattle.services.specs.declared.Reaction.TheVariants.{CommunicationStopped, Negative}
use Rattle.services.specs.declared.UnitState.{UnitState}
use Rattle.services.specs.State.{in_session, is_granted, data_length}

-- "10 81 | not closed | 50 81, session"
unfoldable pub on_session : List ℕ → Reaction
on_session d =
    unless (leb 2 (length d)) (Negative 0x10 0x13)
    (unless (eqb (get_or d 1 0) 0x81) (Negative 0x10 0x12)
    (unless (eqb (length d) 2) (Negative 0x10 0x13)
    SessionOpened))

-- "87 01 01 r, r 01 to 05 | session | C7 01, r pending"
unfoldable pub on_rate_offer : Phase → List ℕ → Reaction
on_rate_offer phase d =
    unless (eqb (length d) 4) (Negative 0x87 0x13)
    (unless (eqb (get_or d 2 0) 0x01 && (leb 1 (get_or d 3 0) && leb (get_or d 3 0) 5)) (Negative 0x87 0x31)
    (unless (in_session phase) (Negative 0x87 0x22)
    (RateOffered (get_or d 3 0))))

-- "87 02 03 | session, r pending | silence, rate r"
unfoldable pub on_rate_change : Phase → ℕ → List ℕ → Reaction
on_rate_change phase pending d =
    unless (eqb (length d) 3) (Negative 0x87 0x13)
    (unless (eqb (get_or d 2 0) 0x03) (Negative 0x87 0x31)
    (unless (in_session phase && not (eqb pending 0)) (Negative 0x87 0x22)
    RateChanged))

-- link control: the second byte is the sub function
unfoldable pub on_link_control : Phase → ℕ → List ℕ → Reaction
on_link_control phase pending d =
    unless (leb 3 (length d)) (Negative 0x87 0x13)
    (cond (eqb (get_or d 1 0) 0x01) (on_rate_offer phase d)
    (cond (eqb (get_or d 1 0) 0x02) (on_rate_change phase pending d)
    (Negative 0x87 0x12)))

-- "35, five 00, four FF | session, granted, sending | 75 00 FF, granted"
unfoldable pub on_upload : Phase → List ℕ → Reaction
on_upload phase d =
    unless (eqb (length d) 10) (Negative 0x35 0x13)
    (unless (same_bytes d upload_request) (Negative 0x35 0x31)
    (unless (in_session phase || is_granted phase) (Negative 0x35 0x22)
    UploadGranted))

-- "36 TRTP (day)"; "Activities carry a day, four bytes"
abbrev pub request_length : Bool → ℕ
request_length activities = cond activities 6 2

-- the answer that it names: the day stands behind the TRTP, and is 0 where there is none
unfoldable pub request_name : List ℕ → AnswerName
request_name d = record { trep = get_or d 1 0; day = number_at 4 2 d }

-- the answer that a frame's data asks for: only transfer data does
abbrev pub name_asked : List ℕ → AnswerName
name_asked d = cond (eqb (get_or d 0 0) 0x36) (request_name d) no_answer

-- "granted, sending | unsplit answer, granted; or sub message 1, sending"; "data held (FA)"
unfoldable pub answer_from : AnswerName → SubMessage → Place → Reaction
answer_from name k place = unless (eqb place.number 0) (Negative 0x36 0xFA) (AnswerSent name k (part_of_place place))

-- "The unit no longer answers 31 for a day" (document 02, Req 03); asked is where the answer lies
unfoldable pub on_transfer : ℕ → Phase → Place → List ℕ → Reaction
on_transfer kind phase asked d =
    unless (leb 2 (length d)) (Negative 0x36 0x13)
    (unless (known_to kind (get_or d 1 0)) (Negative 0x36 0x12)
    (unless (eqb (length d) (request_length (is_activities (get_or d 1 0)))) (Negative 0x36 0x13)
    (unless (is_granted phase) (Negative 0x36 0x22)
    (answer_from (request_name d) (sub 1) asked))))

-- "37 | granted, sending | 77, session"
unfoldable pub on_exit : Phase → List ℕ → Reaction
on_exit phase d =
    unless (eqb (length d) 1) (Negative 0x37 0x13)
    (unless (is_granted phase) (Negative 0x37 0x22)
    TransferExited)

-- "82 | not closed | C2, closed, rate 1"
unfoldable pub on_stop : List ℕ → Reaction
on_stop d = unless (eqb (length d) 1) (Negative 0x82 0x13) CommunicationStopped

-- ".. send the next, or 12 if there is none"
abbrev pub send_next : AnswerName → SubMessage → Part → Reaction
send_next name last sent =
    unless (leb (last.0 + 1) (count_of (data_length sent))) (Negative 0x83 0x12)
    (AnswerSent name (next_of last) sent)

-- "Code (DDP_017): last sent, send it again; last sent plus 1, send the next ..; FFFF, silence, granted; any other, 22"
unfoldable pub on_code : AnswerName → SubMessage → Part → AckCode → Reaction
on_code name last sent c =
    cond (same_code c (repeat_of last)) (AnswerSent name last sent)
    (cond (same_code c (acknowledge_of last)) (send_next name last sent)
    (cond (same_code c stop_code) AnswerStopped
    (Negative 0x83 0x22)))

-- only an answer that is being sent can be acknowledged; sent is where it lies
unfoldable pub on_sending : Phase → Place → AckCode → Reaction
on_sending Closed sent c = Negative 0x83 0x22
on_sending Started sent c = Negative 0x83 0x22
on_sending Session sent c = Negative 0x83 0x22
on_sending Granted sent c = Negative 0x83 0x22
on_sending (Sending name last) sent c = on_code name last (part_of_place sent) c

-- "83 76 and a code | sending"; "In 83 a second byte other than 76 is 31"
unfoldable pub on_acknowledge : Phase → Place → List ℕ → Reaction
on_acknowledge phase sent d =
    unless (eqb (length d) 4) (Negative 0x83 0x13)
    (unless (eqb (get_or d 1 0) 0x76) (Negative 0x83 0x31)
    (on_sending phase sent (code (number_at 2 2 d))))

-- the service by its SID: "SID known (11)"; "SID 81 in the general form is 11"; sent and asked are the places of the
-- answer that is being sent and of the one that is asked for
unfoldable pub on_data : Place → Place → UnitState → List ℕ → Reaction
on_data sent asked u d =
    cond (eqb (get_or d 0 0) 0x10) (on_session d)
    (cond (eqb (get_or d 0 0) 0x87) (on_link_control u.phase u.pending d)
    (cond (eqb (get_or d 0 0) 0x35) (on_upload u.phase d)
    (cond (eqb (get_or d 0 0) 0x36) (on_transfer u.kind u.phase asked d)
    (cond (eqb (get_or d 0 0) 0x37) (on_exit u.phase d)
    (cond (eqb (get_or d 0 0) 0x82) (on_stop d)
    (cond (eqb (get_or d 0 0) 0x83) (on_acknowledge u.phase sent d)
    (Negative (get_or d 0 0) 0x11)))))))

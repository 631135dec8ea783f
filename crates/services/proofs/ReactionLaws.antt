-- What holds of every service's reaction: of those that send no answer, of the first sub message of the answer that is asked for, and of what
-- follows from a code.
use Prim.Native.Nat.{ℕ, ◌+◌, ◌≤◌}
use mathlib.Core.Bool.{Bool, true, false, cond, not, ◌&&◌, ◌||◌}
use mathlib.Core.List.{List}
use mathlib.Core.Path.{◌≡◌, refl}
use lib.Dec.{eqb, leb}
use lib.ListN.{length, get_or}
use borrow.Author.Tests.{leb-true}
use Rattle.fields.specs.BigEndian.{number_at}
use Rattle.octets.specs.Buffer.{same_bytes}
use Rattle.octets.specs.declared.Place.{Place}
use Rattle.octets.specs.Numbers.{part_of_place}
use Rattle.frame.specs.Messages.{upload_request}
use Rattle.catalog.specs.Table.{known_to, is_activities}
use Rattle.catalog.specs.declared.AnswerName.{AnswerName}
use Rattle.split.specs.Split.{count_of}
use Rattle.split.specs.Codes.{sub, code, same_code, next_of, acknowledge_of, repeat_of, stop_code}
use Rattle.split.specs.declared.SubMessage.{SubMessage}
use Rattle.split.specs.declared.AckCode.{AckCode}
use Rattle.services.specs.declared.Phase.{Phase}
use Rattle.services.specs.declared.Phase.TheVariants.{Closed, Started, Session, Granted, Sending}
use Rattle.services.specs.declared.UnitState.{UnitState}
use Rattle.services.specs.declared.Reaction.{Reaction}
use Rattle.services.specs.declared.Reaction.TheVariants.{Ignored, CommunicationStarted, SessionOpened, RateOffered, RateChanged}
use Rattle.services.specs.declared.Reaction.TheVariants.{UploadGranted, AnswerSent, AnswerStopped, TransferExited}
use Rattle.services.specs.declared.Reaction.TheVariants.{CommunicationStopped, Negative}
use Rattle.services.specs.State.{in_session, is_granted, data_length_at}
use Rattle.services.specs.Services.{on_session, on_rate_offer, on_rate_change, on_link_control, on_upload, request_length, request_name, answer_from}
use Rattle.services.specs.Services.{on_transfer, on_exit, on_stop, on_code, on_sending, on_acknowledge, on_data}

abbrev pub sends_answer : Reaction → Bool
sends_answer Ignored = false
sends_answer CommunicationStarted = false
sends_answer SessionOpened = false
sends_answer (RateOffered r) = false
sends_answer RateChanged = false
sends_answer UploadGranted = false
sends_answer (AnswerSent name k place) = true
sends_answer AnswerStopped = false
sends_answer TransferExited = false
sends_answer CommunicationStopped = false
sends_answer (Negative sid code) = false

-- one of two reactions
pub either : (P : Reaction → Type 0) (t : Bool) {x y : Reaction} → P x → P y → P (cond t x y)
either P true p q = p
either P false p q = q

module _ (P : Reaction → Type 0) (plain : (x : Reaction) → sends_answer x ≡ false → P x) where
  negative : (sid code : ℕ) → P (Negative sid code)
  negative sid code = plain (Negative sid code) refl

  from-session : (d : List ℕ) → P (on_session d)
  unfolding on_session
  from-session d =
      either P (leb 2 (length d))
      (either P (eqb (get_or d 1 0) 0x81)
      (either P (eqb (length d) 2) (plain SessionOpened refl) (negative 0x10 0x13)) (negative 0x10 0x12)) (negative 0x10 0x13)

  from-rate : (phase : Phase) (d : List ℕ) → P (on_rate_offer phase d)
  unfolding on_rate_offer
  from-rate phase d =
      either P (eqb (length d) 4)
      (either P (eqb (get_or d 2 0) 0x01 && (leb 1 (get_or d 3 0) && leb (get_or d 3 0) 5))
      (either P (in_session phase) (plain (RateOffered (get_or d 3 0)) refl) (negative 0x87 0x22)) (negative 0x87 0x31)) (negative 0x87 0x13)

  from-change : (phase : Phase) (pending : ℕ) (d : List ℕ) → P (on_rate_change phase pending d)
  unfolding on_rate_change
  from-change phase pending d =
      either P (eqb (length d) 3)
      (either P (eqb (get_or d 2 0) 0x03)
      (either P (in_session phase && not (eqb pending 0)) (plain RateChanged refl) (negative 0x87 0x22)) (negative 0x87 0x31)) (negative 0x87 0x13)

  from-link : (phase : Phase) (pending : ℕ) (d : List ℕ) → P (on_link_control phase pending d)
  unfolding on_link_control
  from-link phase pending d =
      either P (leb 3 (length d))
      (either P (eqb (get_or d 1 0) 0x01) (from-rate phase d)
      (either P (eqb (get_or d 1 0) 0x02) (from-change phase pending d) (negative 0x87 0x12))) (negative 0x87 0x13)

  from-upload : (phase : Phase) (d : List ℕ) → P (on_upload phase d)
  unfolding on_upload
  from-upload phase d =
      either P (eqb (length d) 10)
      (either P (same_bytes d upload_request)
      (either P (in_session phase || is_granted phase) (plain UploadGranted refl) (negative 0x35 0x22)) (negative 0x35 0x31)) (negative 0x35 0x13)

  from-exit : (phase : Phase) (d : List ℕ) → P (on_exit phase d)
  unfolding on_exit
  from-exit phase d =
      either P (eqb (length d) 1) (either P (is_granted phase) (plain TransferExited refl) (negative 0x37 0x22)) (negative 0x37 0x13)

  from-stop : (d : List ℕ) → P (on_stop d)
  unfolding on_stop
  from-stop d = either P (eqb (length d) 1) (plain CommunicationStopped refl) (negative 0x82 0x13)

  from-transfer : (kind : ℕ) (phase : Phase) (asked : Place) (d : List ℕ) → P (answer_from (request_name d) (sub 1) asked) → P (on_transfer kind phase asked d)
  unfolding on_transfer
  from-transfer kind phase asked d first =
      either P (leb 2 (length d))
      (either P (known_to kind (get_or d 1 0))
      (either P (eqb (length d) (request_length (is_activities (get_or d 1 0))))
      (either P (is_granted phase) first (negative 0x36 0x22)) (negative 0x36 0x13)) (negative 0x36 0x12)) (negative 0x36 0x13)

  from-acknowledge : (phase : Phase) (sent : Place) (d : List ℕ) → ((c : AckCode) → P (on_sending phase sent c)) → P (on_acknowledge phase sent d)
  unfolding on_acknowledge
  from-acknowledge phase sent d coded =
      either P (eqb (length d) 4)
      (either P (eqb (get_or d 1 0) 0x76) (coded (code (number_at 2 2 d))) (negative 0x83 0x31)) (negative 0x83 0x13)

  -- the last one again, the next one, or none
  from-sending : (phase : Phase) (sent : Place) (c : AckCode)
      → ((name : AnswerName) (last : SubMessage) → phase ≡ Sending name last → P (AnswerSent name last (part_of_place sent)))
      → ((name : AnswerName) (last : SubMessage) → phase ≡ Sending name last → last.0 + 1 ≤ count_of (data_length_at sent)
      → P (AnswerSent name (next_of last) (part_of_place sent)))
      → P (on_sending phase sent c)
  unfolding on_sending on_code
  from-sending Closed sent c again next = negative 0x83 0x22
  from-sending Started sent c again next = negative 0x83 0x22
  from-sending Session sent c again next = negative 0x83 0x22
  from-sending Granted sent c again next = negative 0x83 0x22
  from-sending (Sending name last) sent c again next =
      either P (same_code c (repeat_of last)) (again name last refl)
      (either P (same_code c (acknowledge_of last)) (go (leb (last.0 + 1) (count_of (data_length_at sent))) refl)
      (either P (same_code c stop_code) (plain AnswerStopped refl) (negative 0x83 0x22)))
    where
      go : (b : Bool) → leb (last.0 + 1) (count_of (data_length_at sent)) ≡ b → P (cond b (AnswerSent name (next_of last) (part_of_place sent)) (Negative 0x83 0x12))
      go true e = next name last refl (leb-true _ _ e)
      go false e = negative 0x83 0x12

  pub every-service : (sent asked : Place) (u : UnitState) (d : List ℕ) → P (answer_from (request_name d) (sub 1) asked)
      → ((name : AnswerName) (last : SubMessage) → u.phase ≡ Sending name last → P (AnswerSent name last (part_of_place sent)))
      → ((name : AnswerName) (last : SubMessage) → u.phase ≡ Sending name last → last.0 + 1 ≤ count_of (data_length_at sent)
      → P (AnswerSent name (next_of last) (part_of_place sent)))
      → P (on_data sent asked u d)
  unfolding on_data
  every-service sent asked u d first again next =
      either P (eqb (get_or d 0 0) 0x10) (from-session d)
      (either P (eqb (get_or d 0 0) 0x87) (from-link u.phase u.pending d)
      (either P (eqb (get_or d 0 0) 0x35) (from-upload u.phase d)
      (either P (eqb (get_or d 0 0) 0x36) (from-transfer u.kind u.phase asked d first)
      (either P (eqb (get_or d 0 0) 0x37) (from-exit u.phase d)
      (either P (eqb (get_or d 0 0) 0x82) (from-stop d)
      (either P (eqb (get_or d 0 0) 0x83) (from-acknowledge u.phase sent d (λ c. from-sending u.phase sent c again next))
      (negative (get_or d 0 0) 0x11)))))))

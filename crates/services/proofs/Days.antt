-- The claims of specs/Days.antt.
use Prim.Native.Nat.{ℕ, ◌%◌}
use mathlib.Core.Bool.{Bool, true, false, cond}
use mathlib.Core.List.{List}
use mathlib.Core.Path.{◌≡◌, refl, sym, ap, ◌∙◌}
use native.Mathlib.Omega.{arith}
use lib.Dec.{eqb, leb}
use lib.ListN.{length, get_or}
use borrow.Author.Tests.{eq-eqb, eqb-true}
use Rattle.octets.specs.Order.{unless}
use Rattle.octets.specs.declared.Place.{Place}
use Rattle.fields.specs.BigEndian.{number_at}
use Rattle.fields.proofs.NumberLaws.{read-end}
use Rattle.catalog.specs.Table.{known_to, is_activities}
use Rattle.catalog.specs.Name.{WholeDay, day_stored}
use Rattle.split.specs.Codes.{sub}
use Rattle.services.specs.declared.Phase.{Phase}
use Rattle.services.specs.declared.Reaction.{Reaction}
use Rattle.services.specs.declared.Reaction.TheVariants.{Ignored, CommunicationStarted, SessionOpened, RateOffered, RateChanged}
use Rattle.services.specs.declared.Reaction.TheVariants.{UploadGranted, AnswerSent, AnswerStopped, TransferExited}
use Rattle.services.specs.declared.Reaction.TheVariants.{CommunicationStopped, Negative}
use Rattle.services.specs.declared.UnitState.{UnitState}
use Rattle.services.specs.State.{is_granted}
use Rattle.services.specs.Services.{request_length, request_name, name_asked, answer_from, on_transfer, on_data}
use Rattle.services.specs.Days.{on_transfer_before, on_data_before, DayClaims}
use Rattle.services.proofs.ReactionLaws.{either}

-- the code of a refusal
code_of : Reaction → ℕ
code_of Ignored = 0
code_of CommunicationStarted = 0
code_of SessionOpened = 0
code_of (RateOffered r) = 0
code_of RateChanged = 0
code_of UploadGranted = 0
code_of (AnswerSent name k place) = 0
code_of AnswerStopped = 0
code_of TransferExited = 0
code_of CommunicationStopped = 0
code_of (Negative sid code) = code

module _ (kind : ℕ) (phase : Phase) (asked : Place) (d : List ℕ) where
  not31 : Reaction → Type 0
  not31 r = code_of r ≡ 0x31 → ⊥

  refusal : (sid code : ℕ) → (code ≡ 0x31 → ⊥) → not31 (Negative sid code)
  unfolding not31 code_of
  refusal sid code n e = n e

  answered : not31 (answer_from (request_name d) (sub 1) asked)
  unfolding answer_from not31 code_of
  answered = either not31 (eqb asked.number 0) (λ e. omega arith) (λ e. omega arith)

  never31 : on_transfer kind phase asked d ≡ Negative 0x36 0x31 → ⊥
  unfolding on_transfer not31 code_of
  never31 e =
      either not31 (leb 2 (length d))
      (either not31 (known_to kind (get_or d 1 0))
      (either not31 (eqb (length d) (request_length (is_activities (get_or d 1 0))))
      (either not31 (is_granted phase) answered (refusal 0x36 0x22 (λ z. omega arith)))
      (refusal 0x36 0x13 (λ z. omega arith)))
      (refusal 0x36 0x12 (λ z. omega arith)))
      (refusal 0x36 0x13 (λ z. omega arith))
      (ap code_of e)

  -- behind the length, a multiple of 86,400 passes the store's rule: of activities by what it is, else since no day was sent
  stored : WholeDay (request_name d).day → (a : Bool) → is_activities (get_or d 1 0) ≡ a → length d ≡ request_length a → day_stored (request_name d) ≡ true
  unfolding day_stored request_name
  stored e true q l = rw q (eq-eqb (number_at 4 2 d % 86400) 0 e)
  stored e false q l = rw q (eq-eqb (number_at 4 2 d) 0 (sym (read-end 2 d 4 (omega arith) (omega arith))))

  whole-day : WholeDay (request_name d).day → on_transfer kind phase asked d ≡ on_transfer_before kind phase asked d
  unfolding on_transfer on_transfer_before
  whole-day e =
      let first : Reaction = unless (is_granted phase) (Negative 0x36 0x22) (answer_from (request_name d) (sub 1) asked) in
      ap (λ (r : Reaction). unless (leb 2 (length d)) (Negative 0x36 0x13) (unless (known_to kind (get_or d 1 0)) (Negative 0x36 0x12) r))
      (go (eqb (length d) (request_length (is_activities (get_or d 1 0)))) first refl)
    where
      go : (t : Bool) (r : Reaction) → eqb (length d) (request_length (is_activities (get_or d 1 0))) ≡ t
          → unless t (Negative 0x36 0x13) r ≡ unless t (Negative 0x36 0x13) (unless (day_stored (request_name d)) (Negative 0x36 0x31) r)
      go true r q = rw (stored e (is_activities (get_or d 1 0)) refl (eqb-true _ _ q))
      go false r q = refl

-- the service of SID 36
transfer-is : (sent asked : Place) (u : UnitState) (d : List ℕ) → get_or d 0 0 ≡ 0x36 → on_data sent asked u d ≡ on_transfer u.kind u.phase asked d
unfolding on_data
transfer-is sent asked u d e = rw e

-- where the data is no transfer request, both are what it was
whole-data : (sent asked : Place) (u : UnitState) (d : List ℕ) → WholeDay (name_asked d).day → on_data sent asked u d ≡ on_data_before sent asked u d
unfolding on_data_before
whole-data sent asked u d e = go (eqb (get_or d 0 0) 0x36) refl
  where
    go : (t : Bool) → eqb (get_or d 0 0) 0x36 ≡ t → on_data sent asked u d ≡ cond t (on_transfer_before u.kind u.phase asked d) (on_data sent asked u d)
    go false q = refl
    go true q = transfer-is sent asked u d (eqb-true _ _ q) ∙ whole-day u.kind u.phase asked d (rw q at e)

pub day-claims : DayClaims
day-claims = record { never31 = never31; whole_day = whole-data }

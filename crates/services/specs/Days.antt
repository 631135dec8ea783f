-- What is claimed of the day in a request (document 02, Req 03). proofs/Days.antt proves it.
use Rattle.std.specs.Prelude.{ℕ, cond, List, ◌≢◌, ◌≡◌, length, get_or, eqb, leb}
use Rattle.octets.specs.Order.{unless}
use Rattle.octets.specs.declared.Place.{Place}
use Rattle.catalog.specs.Table.{known_to, is_activities}
use Rattle.catalog.specs.Name.{WholeDay, day_stored}
use Rattle.split.specs.Codes.{sub}
use Rattle.services.specs.declared.Phase.{Phase}
use Rattle.services.specs.declared.Reaction.{Reaction}
use Rattle.services.specs.declared.Reaction.TheVariants.{Negative}
use Rattle.services.specs.declared.UnitState.{UnitState}
use Rattle.services.specs.State.{is_granted}
use Rattle.services.specs.Services.{request_length, request_name, name_asked, answer_from, on_transfer, on_data}

-- transfer data as document 01 has it: "In 36 a day that is no multiple of 86,400 is 31"
unfoldable pub on_transfer_before : ℕ → Phase → Place → List ℕ → Reaction
on_transfer_before kind phase asked d =
    unless (leb 2 (length d)) (Negative 0x36 0x13)
    (unless (known_to kind (get_or d 1 0)) (Negative 0x36 0x12)
    (unless (eqb (length d) (request_length (is_activities (get_or d 1 0)))) (Negative 0x36 0x13)
    (unless (day_stored (request_name d)) (Negative 0x36 0x31)
    (unless (is_granted phase) (Negative 0x36 0x22)
    (answer_from (request_name d) (sub 1) asked)))))

unfoldable pub on_data_before : Place → Place → UnitState → List ℕ → Reaction
on_data_before sent asked u d =
    cond (eqb (get_or d 0 0) 0x36) (on_transfer_before u.kind u.phase asked d) (on_data sent asked u d)

pub record DayClaims : Type 0 where
  -- "The unit no longer answers 31 for a day"
  pub never31 : (kind : ℕ) (phase : Phase) (asked : Place) (d : List ℕ)
      → on_transfer kind phase asked d ≢ Negative 0x36 0x31
  -- a whole day meets what it met before; data that asks for no answer always does
  pub whole_day : (sent asked : Place) (u : UnitState) (d : List ℕ) → WholeDay (name_asked d).day
      → on_data sent asked u d ≡ on_data_before sent asked u d

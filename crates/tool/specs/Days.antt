-- What is claimed of days at the tool (document 02, Req 03). proofs/Days.antt proves it.
use Rattle.std.specs.Prelude.{ℕ, Bool, cond, ◌&&◌, ◌≡◌, eqb, leb}
use Rattle.octets.specs.Order.{unless}
use Rattle.octets.specs.Numbers.{done, not_in_table}
use Rattle.catalog.specs.Name.{WholeDay}
use Rattle.catalog.specs.Claims.{name_number_before}
use Rattle.catalog.specs.declared.AnswerName.{AnswerName}
use Rattle.progress.specs.declared.Request.{Request}
use Rattle.progress.specs.declared.ToolState.{ToolState}
use Rattle.progress.specs.State.{held_most, is_transfer, held_right, transfer_possible}
use Rattle.tool.specs.Call.{request_number, begun, begin_number, begin_state}

-- Document 01's 12 at a begin and its rule of a waiting transfer, before Req 03
unfoldable pub request_number_before : Request → AnswerName → ℕ
request_number_before request name =
    cond (is_transfer request) (name_number_before name)
    (unless (eqb name.trep 0 && eqb name.day 0) not_in_table done)

unfoldable pub transfer_possible_before : ℕ → ToolState → Bool
transfer_possible_before room_len t =
    eqb (name_number_before t.name) 0
    && (held_right t.expected.0 t.held && (leb t.held room_len && leb t.held held_most))

pub record DayClaims : Type 0 where
  -- a begin keeps the second as it was given
  pub as_given : (t : ToolState) (request : Request) (name : AnswerName) (out_len : ℕ)
      → begin_number t request name out_len ≡ done → begin_state t request name out_len ≡ begun request name
  -- with a whole day begin and waiting state are judged as before
  pub whole_begin : (request : Request) (name : AnswerName) → WholeDay name.day
      → request_number request name ≡ request_number_before request name
  pub whole_state : (room_len : ℕ) (t : ToolState) → WholeDay t.name.day
      → transfer_possible room_len t ≡ transfer_possible_before room_len t

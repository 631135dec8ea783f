-- Packed states: the unit's in 11 bytes, the tool's in 15, numbers most significant byte first.
-- "Packed state bytes that are no state count as impossible" (document 01, House numbers).
use Rattle.std.specs.Prelude.{Option, Some, None}
use Rattle.std.specs.Prelude.{ℕ, Bool, cond, ◌&&◌, ◌||◌, List, ◌∷◌, ◌++◌, length, get_or, eqb, leb}
use Rattle.fields.specs.BigEndian.{bytes_of, number_at}
use Rattle.catalog.specs.declared.AnswerName.{AnswerName}
use Rattle.split.specs.declared.SubMessage.{SubMessage}
use Rattle.split.specs.Codes.{sub}
use Rattle.services.specs.declared.Phase.{Phase}
use Rattle.services.specs.declared.Phase.TheVariants.{Closed, Started, Session, Granted, Sending}
use Rattle.services.specs.declared.UnitState.{UnitState}
use Rattle.progress.specs.declared.Request.{Request}
use Rattle.progress.specs.declared.Request.TheVariants as requests
use Rattle.progress.specs.declared.Outcome.{Outcome}
use Rattle.progress.specs.declared.Outcome.TheVariants.{Fresh, Waiting, Done, NoAnswer, NoRoom, Refused}
use Rattle.progress.specs.declared.ToolState.{ToolState}
pub use Rattle.progress.specs.Codes.{request_byte}
use Rattle.catalog.specs.Name.{zero_name}

-- The unit: kind, rate, pending rate (0 none), phase, TREP, day (4), last number sent (2)

abbrev pub unit_size : ℕ
unit_size = 11

-- 0 closed, 1 started, 2 session, 3 granted, 4 sending
abbrev pub phase_byte : Phase → ℕ
phase_byte Closed = 0
phase_byte Started = 1
phase_byte Session = 2
phase_byte Granted = 3
phase_byte (Sending name last) = 4

unfoldable pub phase_from : ℕ → AnswerName → SubMessage → Phase
phase_from byte name last =
    cond (eqb byte 0) Closed
    (cond (eqb byte 1) Started
    (cond (eqb byte 2) Session
    (cond (eqb byte 3) Granted
    (Sending name last))))

-- the answer that is sent and the last number, zero outside sending
abbrev pub name_packed : Phase → AnswerName
name_packed Closed = zero_name
name_packed Started = zero_name
name_packed Session = zero_name
name_packed Granted = zero_name
name_packed (Sending name last) = name

abbrev pub last_packed : Phase → SubMessage
last_packed Closed = sub 0
last_packed Started = sub 0
last_packed Session = sub 0
last_packed Granted = sub 0
last_packed (Sending name last) = last

unfoldable pub packed_unit : UnitState → List ℕ
packed_unit u =
    u.kind ∷ u.rate ∷ u.pending ∷ phase_byte u.phase ∷ (name_packed u.phase).trep
    ∷ (bytes_of 4 (name_packed u.phase).day ++ bytes_of 2 (last_packed u.phase).0)

-- the numbers in the bytes
abbrev pub unit_name : List ℕ → AnswerName
unit_name b = record { trep = get_or b 4 0; day = number_at 4 5 b }

abbrev pub unit_last : List ℕ → SubMessage
unit_last b = sub (number_at 2 9 b)

-- the last seven bytes are zero
abbrev pub sends_nothing : AnswerName → SubMessage → Bool
sends_nothing name last = eqb name.trep 0 && (eqb name.day 0 && eqb last.0 0)

-- outside sending the last seven bytes are zero, else it is no state
unfoldable pub is_unit : List ℕ → Bool
is_unit b =
    eqb (length b) unit_size
    && (eqb (get_or b 3 0) 4 || (leb (get_or b 3 0) 3 && sends_nothing (unit_name b) (unit_last b)))

-- a state that is impossible: no kind has this number
abbrev pub no_unit : UnitState
no_unit = record { kind = 255; rate = 0; pending = 0; phase = Closed }

unfoldable pub unpacked_unit : List ℕ → UnitState
unpacked_unit b =
    cond (is_unit b)
    (record {
      kind = get_or b 0 0;
      rate = get_or b 1 0;
      pending = get_or b 2 0;
      phase = phase_from (get_or b 3 0) (unit_name b) (unit_last b);
    })
    no_unit

-- the state in the bytes, if they are one
abbrev pub unit_in : List ℕ → Option UnitState
unit_in b = cond (is_unit b) (Some (unpacked_unit b)) None

-- The tool: request, outcome, wire code, TREP, day (4), sendings, expected (2), held (4)

abbrev pub tool_size : ℕ
tool_size = 15

unfoldable pub request_from : ℕ → Request
request_from byte =
    cond (eqb byte 0) requests.Start
    (cond (eqb byte 1) requests.Session
    (cond (eqb byte 2) requests.Upload
    (cond (eqb byte 3) requests.Exit
    (cond (eqb byte 4) requests.Stop
    requests.Transfer))))

-- 0 fresh, 1 waiting, 2 done, 3 no answer, 4 no room, 5 ended with a wire code
abbrev pub outcome_byte : Outcome → ℕ
outcome_byte Fresh = 0
outcome_byte Waiting = 1
outcome_byte Done = 2
outcome_byte NoAnswer = 3
outcome_byte NoRoom = 4
outcome_byte (Refused code) = 5

-- that code, zero in another outcome
abbrev pub code_byte : Outcome → ℕ
code_byte Fresh = 0
code_byte Waiting = 0
code_byte Done = 0
code_byte NoAnswer = 0
code_byte NoRoom = 0
code_byte (Refused code) = code

unfoldable pub outcome_from : ℕ → ℕ → Outcome
outcome_from byte code =
    cond (eqb byte 0) Fresh
    (cond (eqb byte 1) Waiting
    (cond (eqb byte 2) Done
    (cond (eqb byte 3) NoAnswer
    (cond (eqb byte 4) NoRoom
    (Refused code)))))

unfoldable pub packed_tool : ToolState → List ℕ
packed_tool t =
    request_byte t.request ∷ outcome_byte t.outcome ∷ code_byte t.outcome ∷ t.name.trep
    ∷ (bytes_of 4 t.name.day ++ (t.sendings ∷ (bytes_of 2 t.expected.0 ++ bytes_of 4 t.held)))

-- request 0 to 5, outcome 0 to 5, the code zero unless the outcome is 5
unfoldable pub is_tool : List ℕ → Bool
is_tool b =
    eqb (length b) tool_size
    && (leb (get_or b 0 0) 5 && (leb (get_or b 1 0) 5 && (eqb (get_or b 1 0) 5 || eqb (get_or b 2 0) 0)))

-- a state that is impossible: a waiting one has 1 to 3 sendings
abbrev pub no_tool : ToolState
no_tool =
    record { request = requests.Start; outcome = Waiting; name = zero_name; sendings = 0; expected = sub 0; held = 0 }

unfoldable pub unpacked_tool : List ℕ → ToolState
unpacked_tool b =
    cond (is_tool b)
    (record {
      request = request_from (get_or b 0 0);
      outcome = outcome_from (get_or b 1 0) (get_or b 2 0);
      name = record { trep = get_or b 3 0; day = number_at 4 4 b };
      sendings = get_or b 8 0;
      expected = sub (number_at 2 9 b);
      held = number_at 4 11 b;
    })
    no_tool

-- the state in the bytes, if they are one
abbrev pub tool_in : List ℕ → Option ToolState
tool_in b = cond (is_tool b) (Some (unpacked_tool b)) None

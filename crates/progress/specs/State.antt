-- The tool's state: fresh, waiting, possible.
use Rattle.std.specs.Prelude.{ℕ, ◌+◌, ◌-◌, ◌*◌, Bool, true, false, cond, not, ◌&&◌, ◌||◌, eqb, leb}
use Rattle.catalog.specs.Name.{zero_name, name_number}
use Rattle.split.specs.Split.{piece_size}
use Rattle.split.specs.Codes.{sub}
use Rattle.progress.specs.declared.Request.{Request}
use Rattle.progress.specs.declared.Request.TheVariants as requests
use Rattle.progress.specs.declared.Outcome.{Outcome}
use Rattle.progress.specs.declared.Outcome.TheVariants.{Fresh, Waiting, Done, NoAnswer, NoRoom, Refused}
use Rattle.progress.specs.declared.ToolState.{ToolState}

-- "If they would pass the room or 60,000"
abbrev pub held_most : ℕ
held_most = 60000

-- "A fresh tool has begun nothing"
abbrev pub fresh_tool : ToolState
fresh_tool =
    record { request = requests.Start; outcome = Fresh; name = zero_name; sendings = 0; expected = sub 0; held = 0 }

abbrev pub is_transfer : Request → Bool
is_transfer requests.Start = false
is_transfer requests.Session = false
is_transfer requests.Upload = false
is_transfer requests.Exit = false
is_transfer requests.Stop = false
is_transfer requests.Transfer = true

abbrev pub is_waiting : Outcome → Bool
is_waiting Fresh = false
is_waiting Waiting = true
is_waiting Done = false
is_waiting NoAnswer = false
is_waiting NoRoom = false
is_waiting (Refused code) = false

-- "with number e expected, held 0 for e = 1 and 2 + 251(e-1) otherwise"; number 0 is never expected
unfoldable pub held_right : ℕ → ℕ → Bool
held_right e held = cond (eqb e 1) (eqb held 0) (leb 2 e && eqb held (2 + piece_size * (e - 1)))

-- "for a transfer, a TREP and day that 12 allows and .. held .., within room and 60,000"
unfoldable pub transfer_possible : ℕ → ToolState → Bool
transfer_possible room_len t =
    eqb (name_number t.name) 0
    && (held_right t.expected.0 t.held && (leb t.held room_len && leb t.held held_most))

-- "A waiting state has 1 to 3 sendings and, for a transfer, .."; "its state, and every ended one, is possible"
unfoldable pub possible : ℕ → ToolState → Bool
possible room_len t =
    not (is_waiting t.outcome)
    || ((leb 1 t.sendings && leb t.sendings 3) && (not (is_transfer t.request) || transfer_possible room_len t))

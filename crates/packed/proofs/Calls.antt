-- The packed calls: each is the Rattle call on the unpacked state, packed again.
use Prim.Native.Nat.{ℕ, ◌<◌}
use mathlib.Core.Bool.{Bool, true, false, cond}
use mathlib.Core.List.{List, []}
use mathlib.Core.Path.{◌≡◌, refl, ap, ap₂}
use native.Mathlib.Omega.{arith}
use lib.Dec.{eqb}
use lib.ListN.{length, get_or, take}
use Rattle.octets.specs.Order.{unless}
use Rattle.octets.specs.Numbers.{format_or_address, changed_by}
use Rattle.octets.specs.Buffer.{Bytes, front}
use Rattle.fields.proofs.NumberLaws.{number_fits}
use Rattle.frame.specs.declared.Addresses.{Addresses}
use Rattle.frame.specs.Given.{different}
use Rattle.catalog.specs.declared.AnswerName.{AnswerName}
use Rattle.split.specs.declared.SubMessage.{SubMessage}
use Rattle.services.specs.declared.Phase.{Phase}
use Rattle.services.specs.declared.Phase.TheVariants.{Closed, Started, Session, Granted, Sending}
use Rattle.services.specs.declared.UnitState.{UnitState}
use Rattle.services.specs.After.{state_after}
use Rattle.unit.specs.Call.{reaction_to, unit_number, unit_state, unit_reply, unit_result, unit_result_given}
use Rattle.unit.proofs.BoundLaws as units
use Rattle.arrival.specs.declared.Meaning.{Meaning}
use Rattle.arrival.specs.declared.Meaning.TheVariants.{FailedWait}
use Rattle.progress.specs.declared.ToolState.{ToolState}
use Rattle.progress.specs.State.{is_waiting}
use Rattle.arrival.specs.Meaning.{arrival_meaning, arrival_bytes}
use Rattle.tool.specs.After.{state_after as tool_after}
use Rattle.tool.specs.Call.{event_number, event_state, event_sent, event_room, event_result, event_out, refused_tool}
use Rattle.tool.specs.Call.{arrival_room_given}
use Rattle.tool.specs.Call.{event_result_given, event_room_given, event_out_given}
use Rattle.tool.proofs.BoundLaws as tools
use Rattle.states.specs.Packed.{phase_from, name_packed, last_packed, packed_unit, unit_name, unit_last, is_unit, unpacked_unit, packed_tool, is_tool}
use Rattle.states.specs.Packed.{unpacked_tool}
use Rattle.host.specs.Calls as calls
use Rattle.host.specs.Calls.{unit_handed, unit_kept, tool_handed, tool_kept}
use Rattle.states.proofs.UnitLaws.{unit-back}
use Rattle.states.proofs.ToolLaws.{tool-back, outcome-kept}
use Rattle.line.specs.Line.{Result, silent}
use Rattle.download.specs.CableEnds as cable
use Rattle.download.specs.CableEnds.{ToolRoom, strings}
use Rattle.download.proofs.Calls.{unit-string, arrival-string, wait-string}
use Rattle.packed.specs.PackedEnds.{UnitGiven, ToolGiven, ToolBytes, unit_call, tool_arrival, tool_wait_end}
use Rattle.packed.specs.PackedDemand.{lengths, output_length}

-- State bytes hold numbers that fit their fields

phase-fits : (byte : ℕ) (name : AnswerName) (last : SubMessage) → name.day < 4294967296 → last.0 < 65536 → units.Fits (phase_from byte name last)
unfolding phase_from
phase-fits byte name last d l = go (eqb byte 0) (eqb byte 1) (eqb byte 2) (eqb byte 3)
  where
    go : (p q r s : Bool) → units.Fits (cond p Closed (cond q Started (cond r Session (cond s Granted (Sending name last)))))
    go true q r s = tt
    go false true r s = tt
    go false false true s = tt
    go false false false true = tt
    go false false false false = (d, l)

-- bytes that are a state
module _ (b : List ℕ) (bytes : Bytes b) where
  pub unit-fits : is_unit b ≡ true → units.Fits (unpacked_unit b).phase
  unfolding unpacked_unit
  unit-fits is = rw is (phase-fits (get_or b 3 0) (unit_name b) (unit_last b) (number_fits 4 5 b bytes) (number_fits 2 9 b bytes))

  pub tool-fits : is_tool b ≡ true → tools.Fits (unpacked_tool b)
  unfolding unpacked_tool
  tool-fits is = rw is (record { day = number_fits 4 4 b bytes; expected = number_fits 2 9 b bytes; held = number_fits 4 11 b bytes })

-- states that fit come back from their packed bytes

name-fits : (phase : Phase) → units.Fits phase → ((name_packed phase).day < 4294967296) × ((last_packed phase).0 < 65536)
name-fits Closed f = (omega arith, omega arith)
name-fits Started f = (omega arith, omega arith)
name-fits Session f = (omega arith, omega arith)
name-fits Granted f = (omega arith, omega arith)
name-fits (Sending name last) f = f

pub unit-returns : (u : UnitState) → units.Fits u.phase → unpacked_unit (packed_unit u) ≡ u
unit-returns u f = let n = name-fits u.phase f in unit-back u n.0 n.1

pub tool-returns : (t : ToolState) → tools.Fits t → unpacked_tool (packed_tool t) ≡ t
tool-returns t f = tool-back t f.day f.expected f.held

-- The state bytes after a call: the next state packed, also where it is refused and the bytes b, which are the state u packed, stay

module _ {A : Type 0} (pack : A → List ℕ) where
  pub kept-packs : (n : ℕ) (b : List ℕ) (next was : A) → b ≡ pack was → changed_by n (pack (changed_by n next was)) b ≡ pack (changed_by n next was)
  kept-packs n b next was e = go (eqb n 0)
    where
      go : (t : Bool) → cond t (pack (cond t next was)) b ≡ pack (cond t next was)
      go true = refl
      go false = e

-- The calls of both ends on the line, over states that fit

-- what a call leaves, packed
abbrev pub packed_result : Result (List ℕ) UnitState → Result (List ℕ) (List ℕ)
packed_result r = record { next = packed_unit r.next; out = r.out }

abbrev pub tool_bytes : ToolRoom → ToolBytes
tool_bytes t = record { state = packed_tool t.state; room = t.room }

abbrev pub packed_tools : Result (List ℕ) ToolRoom → Result (List ℕ) ToolBytes
packed_tools r = record { next = tool_bytes r.next; out = r.out }

-- at equal addresses the call is refused, and both the bytes and the state stay
module _ (a : Addresses) where
  pub unit_kept_lem : (store x b : List ℕ) (n : ℕ) (u : UnitState) → unpacked_unit b ≡ u → b ≡ packed_unit u
      → unit_kept (calls.unit_step a b store n x) b ≡ packed_unit (unit_result_given a store n u x).state
  unfolding unit_kept unit_result_given unit_result unit_state
  unit_kept_lem store x b n u r e = rw r (go (different a))
    where
      go : (d : Bool)
          → changed_by (unless d (record { number = format_or_address; state = u; len = 0 }) (unit_result a store n u x)).number
          (packed_unit (unless d (record { number = format_or_address; state = u; len = 0 }) (unit_result a store n u x)).state) b
          ≡ packed_unit (unless d (record { number = format_or_address; state = u; len = 0 }) (unit_result a store n u x)).state
      go true = kept-packs packed_unit (unit_number a store n u x) b (state_after u (reaction_to a store u x)) u e
      go false = e

  -- an event that means m and adds so many bytes, with a room and an output of these lengths
  pub event-kept : (b : List ℕ) (t : ToolState) (m : Meaning) (new room out : ℕ) → b ≡ packed_tool t
      → tool_kept (unless (different a) (refused_tool t) (event_result a t m new room out)) b
      ≡ packed_tool (unless (different a) (refused_tool t) (event_result a t m new room out)).state
  unfolding tool_kept event_result event_state
  event-kept b t m new room out e = go (different a)
    where
      go : (d : Bool)
          → changed_by (unless d (refused_tool t) (event_result a t m new room out)).number
          (packed_tool (unless d (refused_tool t) (event_result a t m new room out)).state) b
          ≡ packed_tool (unless d (refused_tool t) (event_result a t m new room out)).state
      go true = kept-packs packed_tool (event_number t room out) b (tool_after t m new) t e
      go false = e

pub unit-called : (c : UnitGiven) (u : UnitState) (x : List ℕ) → units.Fits u.phase
    → unit_call c (packed_unit u) x ≡ packed_result (cable.unit_call (lengths c) u x)
unfolding unit_handed
unit-called c u x f =
    let r = unit-returns u f in
    let out : take (calls.unit_step c.addresses (packed_unit u) c.store (length c.reply) x).len
    (calls.unit_step_reply c.addresses (packed_unit u) c.store x c.reply)
    ≡ unless (different c.addresses) [] (unit_reply c.addresses c.store (length c.reply) u x) =
    rw r (unit-string c.addresses c.reply c.store u x) in
    ap₂ (λ (n : List ℕ) (o : List ℕ). record { next = n; out = strings o })
    (unit_kept_lem c.addresses c.store x (packed_unit u) (length c.reply) u r refl) out

module _ (d : ToolGiven) (t : ToolRoom) (f : tools.Fits t.state) where
  pub tool-arrived : (x : List ℕ) → tool_arrival d (tool_bytes t) x ≡ packed_tools (cable.tool_arrival (output_length d) t x)
  unfolding tool_handed event_result_given
  tool-arrived x =
      let a = d.addresses in
      rw (tool-returns t.state f, arrival-string a d.output t.state (length t.room) x)
      (ap (λ (b : List ℕ). record {
        next = record { state = b; room = arrival_room_given a t.state x (length d.output) t.room };
        out = strings
            (unless (different a) []
            (event_sent a t.state (arrival_meaning a (length t.room) t.state x) (length t.room) (length d.output)));
      })
      (event-kept a (packed_tool t.state) t.state (arrival_meaning a (length t.room) t.state x) (length (arrival_bytes a t.state x))
      (length t.room) (length d.output) refl))

  pub tool-waited : tool_wait_end d (tool_bytes t) ≡ packed_tools (cable.tool_wait_end (output_length d) t)
  unfolding tool_handed event_result_given
  tool-waited =
      let a = d.addresses in
      rw (tool-returns t.state f, wait-string a d.output t.state (length t.room))
      (ap (λ (b : List ℕ). record {
        next = record { state = b; room = t.room };
        out = strings (unless (different a) [] (event_sent a t.state FailedWait (length t.room) (length d.output)));
      })
      (event-kept a (packed_tool t.state) t.state FailedWait 0 (length t.room) (length d.output) refl))

-- An ended tool refuses every event by 11, or by 2, whatever numbers it has kept
module _ (d : ToolGiven) (t : ToolRoom) (ended : is_waiting t.state.outcome ≡ false) where
  ended-number : (room out : ℕ) → event_number (unpacked_tool (packed_tool t.state)) room out ≡ 11
  unfolding event_number
  ended-number room out = rw (outcome-kept t.state, ended)

  pub ended-arrived : (x : List ℕ) → tool_arrival d (tool_bytes t) x ≡ silent (tool_bytes t)
  unfolding tool_handed tool_kept event_result_given event_room_given event_out_given event_result event_state event_sent event_room event_out front
  ended-arrived x = go (different d.addresses) refl
    where
      go : (y : Bool) → different d.addresses ≡ y → tool_arrival d (tool_bytes t) x ≡ silent (tool_bytes t)
      go true e = rw (e, ended-number (length t.room) (length d.output))
      go false e = rw e

  pub ended-waited : tool_wait_end d (tool_bytes t) ≡ silent (tool_bytes t)
  unfolding tool_handed tool_kept event_result_given event_out_given event_result event_state event_sent event_room event_out front
  ended-waited = go (different d.addresses) refl
    where
      go : (y : Bool) → different d.addresses ≡ y → tool_wait_end d (tool_bytes t) ≡ silent (tool_bytes t)
      go true e = rw (e, ended-number (length t.room) (length d.output))
      go false e = rw e

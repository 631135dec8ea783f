-- The calls on packed states, from what the unit and the tool promise. A call that is not refused was made on bytes that are a state.
use Prim.Native.Nat.{ℕ, ◌<◌, ◌≤◌}
use mathlib.Core.Bool.{Bool, true, false}
use mathlib.Core.List.{List, append-nil}
use mathlib.Core.Path.{◌≡◌, refl, sym, ap, ◌∙◌}
use native.Mathlib.Omega.{arith}
use lib.ListN.{length, drop_of_length-le}
use borrow.Author.Tests.{lt-ltb, le-ltb, le-leb, lt-leb, eq-eqb}
use Rattle.frame.specs.Given.{different}
use Rattle.octets.proofs.CallLaws.{kept_by}
use Rattle.octets.specs.Order.{unless, or_else}
use Rattle.octets.specs.Numbers.{changed_by}
use Rattle.octets.specs.Buffer.{front, copied}
use Rattle.octets.specs.declared.Written.{Written}
use Rattle.octets.proofs.OrderLaws.{or-zero, or-refused}
use Rattle.octets.proofs.BufferLaws.{copied-fits}
use Rattle.frame.specs.declared.End.TheVariants as ends
use Rattle.frame.specs.declared.Addresses.{Addresses}
use Rattle.frame.specs.Frame.{judged}
use Rattle.frame.proofs.GivenLaws.{passed-different, failed-different, taken-given}
use Rattle.catalog.specs.declared.AnswerName.{AnswerName}
use Rattle.store.specs.Layout.{narrow}
use Rattle.store.specs.Check.{store_number}
use Rattle.services.specs.declared.UnitState.{UnitState}
use Rattle.unit.specs.Call.{UnitReply}
use Rattle.services.specs.State.{fresh_unit, possible_at}
use Rattle.unit.specs.State as unit-state
use Rattle.unit.specs.Call.{number_before, unit_number, unit_result, unit_result_given, unit_out_given}
use Rattle.progress.specs.declared.Request.{Request}
use Rattle.arrival.specs.declared.Meaning.{Meaning}
use Rattle.progress.specs.declared.ToolState.{ToolState}
use Rattle.tool.specs.Call.{ToolStep}
use Rattle.progress.specs.State as tool-state
use Rattle.tool.specs.Call.{request_number, begin_number, begin_result, begin_result_given, begin_out_given, event_number, event_result}
use Rattle.tool.specs.Call.{arrival_result_given, arrival_room_given, arrival_out_given, wait_result_given, wait_out_given}
use Rattle.tool.specs.Call.{event_result_given}
use Rattle.states.specs.Packed.{packed_unit, is_unit, no_unit, unpacked_unit, request_byte, packed_tool, is_tool, no_tool, unpacked_tool}
use Rattle.host.specs.Calls.{unit_fresh_number, unit_fresh_state, unit_handed, unit_kept, unit_step, unit_step_reply, tool_fresh_number, tool_fresh_state, tool_handed}
use Rattle.host.specs.Calls.{tool_kept, tool_begin, tool_begin_out, tool_arrival, tool_arrival_room, tool_arrival_out, tool_wait, tool_wait_out}
use Rattle.states.proofs.UnitLaws.{length-unit, unit-none, unit_size}
use Rattle.states.proofs.ToolLaws.{length-tool, tool-none, tool-size, request-is, request-below}

-- The state bytes b after a call with number n that is not refused: the bytes p of its next state fill the whole buffer
pub kept-accepted : (n : ℕ) (p b b' : List ℕ) → (n ≡ 0 → length b ≡ length p) → n ≡ 0 → b' ≡ copied p b → b' ≡ changed_by n p b
unfolding front
kept-accepted n p b b' h z e =
    rw (eq-eqb n 0 z) (e ∙ copied-fits p b (omega (arith, h z)) ∙ rw (drop_of_length-le b {i = length p} (omega (arith, h z)), append-nil))

-- a call that 11 would refuse was not made, if nothing was refused
turn-taken : (is : Bool) (n before size : ℕ) (b : List ℕ) → (is ≡ true → length b ≡ size) → (is ≡ false → n ≡ or_else before 11) → n ≡ 0 → length b ≡ size
turn-taken true n before size b state none z = state refl
turn-taken false n before size b state none z = absurd (let e = (or-zero before 11 (sym (none refl) ∙ z)).rest in omega arith)

-- The unit

-- bytes that are no state: 11 behind the store's number, whatever follows
pub unit-impossible : (a : Addresses) (store : List ℕ) (room : ℕ) (b f : List ℕ) → is_unit b ≡ false
    → unit_number a store room (unpacked_unit b) f ≡ or_else (store_number narrow store) 11
unfolding unit_number number_before unit-state.possible possible_at
unit-impossible a store room b f h =
    rw (← unit-none b no_unit h refl) (or-refused (store_number narrow store) 11 (judged a ends.Unit f) refl)

pub step-state : (a : Addresses) (step : UnitReply) (u : UnitState) (store : List ℕ) (room : ℕ) (b f p : List ℕ) → u ≡ unpacked_unit b
    → step ≡ unit_result_given a store room u f → p ≡ packed_unit step.state → step.number ≡ 0
    → length b ≡ length p
unfolding unit_result_given unit_result
step-state a step u store room b f p e q k n =
    let made : step ≡ unit_result a store room u f = taken-given a _ _ step (λ (s : UnitReply). s.number) (λ z. omega arith) q n in
    rw (k, length-unit step.state)
    (turn-taken (is_unit b) (unit_number a store room (unpacked_unit b) f) (store_number narrow store) 11 b (unit_size b) (unit-impossible a store room b f)
    (rw (← e) (ap (λ (s : UnitReply). s.number) (sym made) ∙ n)))

-- a step on the state u that the bytes are
module _ (a : Addresses) (b : List ℕ) (u : UnitState) (e : u ≡ unpacked_unit b) (store f : List ℕ) where
  module _ (step : UnitReply) (room : ℕ) (q : step ≡ unit_result_given a store room u f) where
    pub step-handed : (w : Written) → w ≡ record { number = step.number; len = step.len } → w ≡ unit_handed (unit_step a b store room f)
    unfolding unit_handed
    step-handed w k = rw (← e, ← q) k

    pub step_kept : (p b' : List ℕ) → p ≡ packed_unit step.state → b' ≡ changed_by step.number p b → b' ≡ unit_kept (unit_step a b store room f) b
    unfolding unit_kept
    step_kept p b' i k = rw (← e, ← q, ← i) k

    -- refused, the bytes stay; else they become those of the next state
    pub step-stays : (step.number ≡ 0 → ⊥) → b ≡ unit_kept (unit_step a b store room f) b
    step-stays z = step_kept (packed_unit step.state) b refl (kept_by step.number step.number (packed_unit step.state) b refl z)

    pub step-moves : (p b' : List ℕ) → step.number ≡ 0 → p ≡ packed_unit step.state → b' ≡ copied p b → b' ≡ unit_kept (unit_step a b store room f) b
    step-moves p b' z i k = step_kept p b' i (kept-accepted step.number p b b' (step-state a step u store room b f p e q i) z k)

  pub step-reply : (reply reply' : List ℕ) → reply' ≡ unit_out_given a store u f reply → reply' ≡ unit_step_reply a b store f reply
  step-reply reply reply' k = rw (← e) k

-- a fresh unit, from the tests of the code
module _ (kind : ℕ) (b : List ℕ) where
  pub fresh-kind : 3 ≤ kind → 11 ≡ unit_fresh_number kind (length b)
  unfolding unit_fresh_number
  fresh-kind h = rw (le-ltb kind 3 h)

  pub fresh-kind-kept : 3 ≤ kind → b ≡ unit_fresh_state kind b
  unfolding unit_fresh_number unit_fresh_state
  fresh-kind-kept h = rw (le-ltb kind 3 h)

  module _ (k : kind < 3) where
    pub fresh-short : length b < 11 → 4 ≡ unit_fresh_number kind (length b)
    unfolding unit_fresh_number
    fresh-short h = rw (lt-ltb kind 3 k, lt-leb 11 (length b) h)

    pub fresh-short-kept : length b < 11 → b ≡ unit_fresh_state kind b
    unfolding unit_fresh_number unit_fresh_state
    fresh-short-kept h = rw (lt-ltb kind 3 k, lt-leb 11 (length b) h)

    pub fresh-good : 11 ≤ length b → 0 ≡ unit_fresh_number kind (length b)
    unfolding unit_fresh_number
    fresh-good h = rw (lt-ltb kind 3 k, le-leb 11 (length b) h)

    pub fresh-good-packed : (u : UnitState) (p b' : List ℕ) → 11 ≤ length b → u ≡ fresh_unit kind → p ≡ packed_unit u → b' ≡ copied p b
        → b' ≡ unit_fresh_state kind b
    unfolding unit_fresh_number unit_fresh_state
    fresh-good-packed u p b' h e i q =
        rw (lt-ltb kind 3 k, le-leb 11 (length b) h, ← e, ← i) (q ∙ copied-fits p b (omega (arith, ap length i, length-unit u)))

-- The tool

-- bytes that are no state: "12, 11" at a begin, 11 at an event, whatever follows
pub begin-impossible : (request : Request) (name : AnswerName) (out : ℕ) (b : List ℕ) → is_tool b ≡ false
    → begin_number (unpacked_tool b) request name out ≡ or_else (request_number request name) 11
unfolding begin_number
begin-impossible request name out b h = rw (← tool-none b no_tool h refl)

pub event-impossible : (room_len out_len : ℕ) (b : List ℕ) → is_tool b ≡ false → event_number (unpacked_tool b) room_len out_len ≡ 11
unfolding event_number tool-state.possible
event-impossible room_len out_len b h = rw (← tool-none b no_tool h refl)

-- the state bytes of a call that is not refused have the length of a state: of a begin whose result is made of r, and of an event
pub begin-state : (a : Addresses) (step : ToolStep) (t : ToolState) (request : Request) (name : AnswerName) (out : ℕ) (b p : List ℕ) → t ≡ unpacked_tool b
    → step ≡ begin_result_given a t request name out → p ≡ packed_tool step.state → step.number ≡ 0
    → length b ≡ length p
unfolding begin_result_given begin_result
begin-state a step t request name out b p e q k n =
    let made : step ≡ begin_result a t request name out = taken-given a _ _ step (λ (s : ToolStep). s.number) (λ z. omega arith) q n in
    rw (k, length-tool step.state)
    (turn-taken (is_tool b) (begin_number (unpacked_tool b) request name out) (request_number request name) 15 b (tool-size b) (begin-impossible request name out b)
    (rw (← e) (ap (λ (s : ToolStep). s.number) (sym made) ∙ n)))

event-state : (a : Addresses) (step : ToolStep) (t : ToolState) (m : Meaning) (new room_len out_len : ℕ) (b p : List ℕ) → t ≡ unpacked_tool b
    → step ≡ event_result a t m new room_len out_len → p ≡ packed_tool step.state → step.number ≡ 0
    → length b ≡ length p
unfolding event_result
event-state a step t m new room_len out_len b p e q k n =
    rw (k, length-tool step.state)
    (turn-taken (is_tool b) (event_number (unpacked_tool b) room_len out_len) 0 15 b (tool-size b) (event-impossible room_len out_len b)
    (rw (← e) (ap (λ (s : ToolStep). s.number) (sym q) ∙ n)))

module _ (a : Addresses) (step : ToolStep) (t : ToolState) (room_len out_len : ℕ) (b p : List ℕ) (e : t ≡ unpacked_tool b) where
  pub arrival-state : (f : List ℕ) → step ≡ arrival_result_given a t f room_len out_len → p ≡ packed_tool step.state → step.number ≡ 0
      → length b ≡ length p
  unfolding event_result_given
  arrival-state f q k n = event-state a step t _ _ room_len out_len b p e (taken-given a _ _ step (λ (s : ToolStep). s.number) (λ z. omega arith) q n) k n

  pub wait-state : step ≡ wait_result_given a t room_len out_len → p ≡ packed_tool step.state → step.number ≡ 0 → length b ≡ length p
  unfolding event_result_given
  wait-state q k n = event-state a step t _ _ room_len out_len b p e (taken-given a _ _ step (λ (s : ToolStep). s.number) (λ z. omega arith) q n) k n

-- a step, as the call on packed bytes that it is
module _ (step called : ToolStep) (is : step ≡ called) where
  pub tool-handed : (w : Written) → w ≡ record { number = step.number; len = step.len } → w ≡ tool_handed called
  unfolding tool_handed
  tool-handed w k = rw (← is) k

  pub tool-kept : (p b b' : List ℕ) → p ≡ packed_tool step.state → b' ≡ changed_by step.number p b → b' ≡ tool_kept called b
  unfolding tool_kept
  tool-kept p b b' i k = rw (← is, ← i) k

  -- refused, the bytes stay; else they become those of the next state
  pub tool-stays : (b : List ℕ) → (step.number ≡ 0 → ⊥) → b ≡ tool_kept called b
  tool-stays b z = tool-kept (packed_tool step.state) b b refl (kept_by step.number step.number (packed_tool step.state) b refl z)

  pub tool-moves : (p b b' : List ℕ) → (step.number ≡ 0 → length b ≡ length p) → step.number ≡ 0 → p ≡ packed_tool step.state → b' ≡ copied p b → b' ≡ tool_kept called b
  tool-moves p b b' h z i k = tool-kept p b b' i (kept-accepted step.number p b b' h z k)

-- an event on the state t that the bytes are
module _ (a : Addresses) (b : List ℕ) (t : ToolState) (e : t ≡ unpacked_tool b) where
  pub arrival-called : (step : ToolStep) (f : List ℕ) (room_len out_len : ℕ) → step ≡ arrival_result_given a t f room_len out_len
      → step ≡ tool_arrival a b f room_len out_len
  arrival-called step f room_len out_len q = rw (← e) q

  pub wait-called : (step : ToolStep) (room_len out_len : ℕ) → step ≡ wait_result_given a t room_len out_len → step ≡ tool_wait a b room_len out_len
  wait-called step room_len out_len q = rw (← e) q

  pub arrival-room : (f : List ℕ) (out : ℕ) (room room' : List ℕ) → room' ≡ arrival_room_given a t f out room → room' ≡ tool_arrival_room a b f out room
  arrival-room f out room room' k = rw (← e) k

  pub arrival-out : (f : List ℕ) (room : ℕ) (out out' : List ℕ) → out' ≡ arrival_out_given a t f room out → out' ≡ tool_arrival_out a b f room out
  arrival-out f room out out' k = rw (← e) k

  pub wait-out : (room : ℕ) (out out' : List ℕ) → out' ≡ wait_out_given a t room out → out' ≡ tool_wait_out a b room out
  wait-out room out out' k = rw (← e) k

-- a begin, from the tests of its addresses and its request
module _ (a : Addresses) (b : List ℕ) (request : ℕ) (name : AnswerName) where
  -- n is the number of the addresses
  module _ (n : ℕ) (tested : n ≡ unless (different a) 2 0) (z : n ≡ 0 → ⊥) where
    same : different a ≡ false
    same = failed-different a n tested z

    two : n ≡ 2
    two = rw same at tested

    pub begin-equal : (out : ℕ) → ◌≡◌ {A = Written} (record { number = n; len = 0 }) (tool_handed (tool_begin a b request name out))
    unfolding tool_begin tool_handed
    begin-equal out = rw (same, two)

    pub begin-equal-kept : (out : ℕ) → b ≡ tool_kept (tool_begin a b request name out) b
    unfolding tool_begin tool_kept
    begin-equal-kept out = rw same

    pub begin-equal-out : (out : List ℕ) → out ≡ tool_begin_out a b request name out
    unfolding tool_begin_out
    begin-equal-out out = rw same

  module _ (tested : ◌≡◌ {A = ℕ} 0 (unless (different a) 2 0)) where
    other : different a ≡ true
    other = passed-different a tested

    module _ (h : 5 < request) (out : ℕ) where
      pub begin-none : ◌≡◌ {A = Written} (record { number = 12; len = 0 }) (tool_handed (tool_begin a b request name out))
      unfolding tool_begin tool_handed
      begin-none = rw (other, lt-leb request 5 h)

      pub begin-none-kept : b ≡ tool_kept (tool_begin a b request name out) b
      unfolding tool_begin tool_kept
      begin-none-kept = rw (other, lt-leb request 5 h)

    pub begin-none-out : (out : List ℕ) → 5 < request → out ≡ tool_begin_out a b request name out
    unfolding tool_begin_out
    begin-none-out out h = rw (other, lt-leb request 5 h)

    module _ (t : ToolState) (r : Request) (e : t ≡ unpacked_tool b) (q : request_byte r ≡ request) where
      pub begin-called : (step : ToolStep) (out : ℕ) → step ≡ begin_result_given a t r name out → step ≡ tool_begin a b request name out
      unfolding tool_begin begin_result_given
      begin-called step out s = rw (request-below r request q, ← e, request-is r request q) s

      pub begin-out : (out out' : List ℕ) → out' ≡ begin_out_given a t r name out → out' ≡ tool_begin_out a b request name out
      unfolding tool_begin_out begin_out_given
      begin-out out out' s = rw (request-below r request q, ← e, request-is r request q) s

-- a fresh tool, from the test of the code
module _ (b : List ℕ) where
  pub tool-short : length b < 15 → 4 ≡ tool_fresh_number (length b)
  unfolding tool_fresh_number
  tool-short h = rw (lt-leb 15 (length b) h)

  pub tool-short-kept : length b < 15 → b ≡ tool_fresh_state b
  unfolding tool_fresh_number tool_fresh_state
  tool-short-kept h = rw (lt-leb 15 (length b) h)

  pub tool-good : 15 ≤ length b → 0 ≡ tool_fresh_number (length b)
  unfolding tool_fresh_number
  tool-good h = rw (le-leb 15 (length b) h)

  pub tool-good-packed : (t : ToolState) (p b' : List ℕ) → 15 ≤ length b → t ≡ tool-state.fresh_tool → p ≡ packed_tool t → b' ≡ copied p b → b' ≡ tool_fresh_state b
  unfolding tool_fresh_number tool_fresh_state
  tool-good-packed t p b' h e i q =
      rw (le-leb 15 (length b) h, ← e, ← i) (q ∙ copied-fits p b (omega (arith, ap length i, length-tool t)))

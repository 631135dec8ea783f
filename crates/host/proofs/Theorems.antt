-- What the header promises of every refusal: the call has written nothing, and the other fields of its result are zero; and that bytes
-- that are no state are refused by 11.
use Prim.Native.Nat.{ℕ, ◌<◌, ◌≤◌}
use mathlib.Core.Bool.{Bool, true, false}
use mathlib.Core.List.{List}
use mathlib.Core.Logic.{◌↔◌}
use mathlib.Core.Path.{◌≡◌, refl, ◌∙◌}
use native.Mathlib.Omega.{arith}
use lib.Dec.{leb}
use lib.ListN.{length}
use borrow.Author.Tests.{ne_eqb, le-leb, eqb-false}
use Rattle.octets.specs.Order.{unless}
use Rattle.octets.specs.Numbers.{format_or_address, not_in_table}
use Rattle.octets.specs.Buffer.{front}
use Rattle.octets.proofs.OrderLaws.{unless-is, unless-most, or_is, or-first}
use Rattle.frame.specs.declared.Addresses.{Addresses}
use Rattle.frame.specs.Frame.{judged}
use Rattle.frame.specs.Given.{different}
use Rattle.frame.specs.declared.End.TheVariants as ends
use Rattle.frame.proofs.CheckLaws.{judged-most}
use Rattle.catalog.specs.declared.AnswerName.{AnswerName}
use Rattle.store.specs.Layout.{narrow}
use Rattle.store.specs.Check.{store_number}
use Rattle.store.specs.Faults.{IsFault}
use Rattle.store.proofs.Refusals.{fault-first, store-not-five}
use Rattle.unit.specs.State.{possible}
use Rattle.unit.specs.Call.{number_before, unit_number, unit_reply, unit_result, unit_out, unit_result_given, unit_out_given}
use Rattle.arrival.specs.declared.Meaning.{Meaning}
use Rattle.tool.specs.Call.{ToolStep}
use Rattle.tool.specs.Call.{request_number, begin_number, begin_sent, begin_result, begin_out, event_number, event_sent, event_room, event_result, event_out, refused_tool}
use Rattle.states.specs.Packed.{is_unit, unpacked_unit, request_from, is_tool, unpacked_tool}
use Rattle.host.specs.Calls.{unit_fresh_number, unit_fresh_state, unit_handed, unit_kept, unit_step, unit_step_reply}
use Rattle.host.specs.Calls.{tool_fresh_number, tool_fresh_state, tool_handed, tool_kept, tool_begin, tool_begin_out}
use Rattle.host.specs.Claims.{refusal}
use Rattle.host.proofs.CallLaws.{unit-impossible, begin-impossible, event-impossible}

-- The unit

module _ (a : Addresses) (b store f reply : List ℕ) (n : ℕ) (is : (unit_step a b store (length reply) f).number ≡ n) (refused : n ≡ 0 → ⊥) where
  pub unit-refused-result : unit_handed (unit_step a b store (length reply) f) ≡ refusal n
  unfolding unit_handed unit_result_given unit_result unit_reply
  unit-refused-result = go (different a) refl
    where
      go : (d : Bool) → different a ≡ d → unit_handed (unit_step a b store (length reply) f) ≡ refusal n
      go true e = let k : unit_number a store (length reply) (unpacked_unit b) f ≡ n = rw e at is in rw (e, k, ne_eqb n 0 refused)
      go false e = let k : format_or_address ≡ n = rw e at is in rw (e, ← k)

  pub unit-refused-state : unit_kept (unit_step a b store (length reply) f) b ≡ b
  unfolding unit_kept
  unit-refused-state = rw (is, ne_eqb n 0 refused)

  pub unit-refused-reply : unit_step_reply a b store f reply ≡ reply
  unfolding unit_result_given unit_out_given unit_out unit_reply unit_result front
  unit-refused-reply = go (different a) refl
    where
      go : (d : Bool) → different a ≡ d → unit_step_reply a b store f reply ≡ reply
      go true e = let k : unit_number a store (length reply) (unpacked_unit b) f ≡ n = rw e at is in rw (e, k, ne_eqb n 0 refused)
      go false e = rw e

-- the number of a broken store before any other, and 5 nowhere
module _ (a : Addresses) (b store f reply : List ℕ) where
  abbrev room : Bool
  room = leb 260 (length reply)

  -- 11 and 4 behind the store, the frame's numbers behind these
  turn-most : (k : ℕ) → 11 < k → unless (possible store (unpacked_unit b)) 11 (unless room 4 0) ≡ k → ⊥
  turn-most k h e =
      omega (arith, unless-most (possible store (unpacked_unit b)) 11 (unless room 4 0) 11 (omega arith) (unless-most room 4 0 11 (omega arith) (omega arith)))

  pub step-fault : different a ≡ true → (k : ℕ) → IsFault k → ((unit_step a b store (length reply) f).number ≡ k) ↔ (store_number narrow store ≡ k)
  unfolding unit_result_given unit_result unit_number number_before
  step-fault d k q =
      let frame = or-first _ (judged a ends.Unit f) k (ne_eqb k 0 (λ z. omega (arith, q.0))) (λ e. omega (arith, judged-most a ends.Unit f, q.0)) in
      let before = fault-first narrow store _ k q (turn-most k (omega (arith, q.0))) in
      rw d ((λ e. before.0 (frame.0 e)), (λ e. frame.1 (before.1 e)))

  not_five : unit_number a store (length reply) (unpacked_unit b) f ≡ 5 → ⊥
  unfolding unit_number number_before
  not_five e =
      let frame = (or-first _ (judged a ends.Unit f) 5 refl (λ z. omega (arith, judged-most a ends.Unit f))).0 e in
      let turn = (or_is (store_number narrow store) _ 5 (store-not-five narrow store) frame).rest in
      let size = (unless-is (possible store (unpacked_unit b)) 11 _ 5 refl turn).rest in
      eqb-false 0 5 refl (unless-is room 4 0 5 refl size).rest

  pub step-not-five : (unit_step a b store (length reply) f).number ≡ 5 → ⊥
  unfolding unit_result_given unit_result
  step-not-five = go (different a) refl
    where
      go : (d : Bool) → different a ≡ d → (unit_step a b store (length reply) f).number ≡ 5 → ⊥
      go true e q = not_five (rw e at q)
      go false e q = let z : format_or_address ≡ 5 = rw e at q in omega arith

-- "Packed state bytes that are no state count as impossible": 11, behind the store's number
pub unit-no-state : (a : Addresses) (b store f reply : List ℕ) → different a ≡ true → store_number narrow store ≡ 0 → is_unit b ≡ false
    → unit_handed (unit_step a b store (length reply) f) ≡ refusal 11
unfolding unit_result_given unit_result
unit-no-state a b store f reply d s h =
    unit-refused-result a b store f reply 11 (rw d (unit-impossible a store (length reply) b f h ∙ rw s)) (λ z. omega arith)

-- The tool: an arrival and a wait's end are events that mean m and add the new bytes

-- the event, with both addresses as given
abbrev event : Addresses → List ℕ → List ℕ → List ℕ → List ℕ → Meaning → ToolStep
event a b room out new m =
    unless (different a) (refused_tool (unpacked_tool b)) (event_result a (unpacked_tool b) m (length new) (length room) (length out))

module _ (a : Addresses) (b room out new : List ℕ) (m : Meaning) (n : ℕ) (is : (event a b room out new m).number ≡ n) (refused : n ≡ 0 → ⊥) where
  -- refused at two different ones
  event-number : different a ≡ true → event_number (unpacked_tool b) (length room) (length out) ≡ n
  unfolding event_result
  event-number e = rw e at is

  pub event-refused-result : tool_handed (event a b room out new m) ≡ refusal n
  unfolding tool_handed event_result event_sent
  event-refused-result = go (different a) refl
    where
      go : (d : Bool) → different a ≡ d → tool_handed (event a b room out new m) ≡ refusal n
      go true e = rw (e, event-number e, ne_eqb n 0 refused)
      go false e = let k : format_or_address ≡ n = rw e at is in rw (e, ← k)

  pub event-refused-state : tool_kept (event a b room out new m) b ≡ b
  unfolding tool_kept
  event-refused-state = rw (is, ne_eqb n 0 refused)

  pub event-refused-room : unless (different a) room (event_room (unpacked_tool b) m new (length out) room) ≡ room
  unfolding event_room
  event-refused-room = go (different a) refl
    where
      go : (d : Bool) → different a ≡ d → unless (different a) room (event_room (unpacked_tool b) m new (length out) room) ≡ room
      go true e = rw (e, event-number e, ne_eqb n 0 refused)
      go false e = rw e

  pub event-refused-out : unless (different a) out (event_out a (unpacked_tool b) m (length room) out) ≡ out
  unfolding event_out event_sent front
  event-refused-out = go (different a) refl
    where
      go : (d : Bool) → different a ≡ d → unless (different a) out (event_out a (unpacked_tool b) m (length room) out) ≡ out
      go true e = rw (e, event-number e, ne_eqb n 0 refused)
      go false e = rw e

pub event-no-state : (a : Addresses) (b room out new : List ℕ) (m : Meaning) → different a ≡ true → is_tool b ≡ false
    → tool_handed (event a b room out new m) ≡ refusal 11
unfolding event_result
event-no-state a b room out new m d h =
    event-refused-result a b room out new m 11 (rw d (event-impossible (length room) (length out) b h)) (λ z. omega arith)

-- a begin, whose number is 12 for a request above 5

module _ (a : Addresses) (b out : List ℕ) (request : ℕ) (name : AnswerName) where
  module _ (n : ℕ) (is : (tool_begin a b request name (length out)).number ≡ n) (refused : n ≡ 0 → ⊥) where
    pub begin-refused-result : tool_handed (tool_begin a b request name (length out)) ≡ refusal n
    unfolding tool_handed tool_begin begin_result begin_sent
    begin-refused-result = go (different a) refl (leb request 5) refl
      where
        go : (d : Bool) → different a ≡ d → (x : Bool) → leb request 5 ≡ x → tool_handed (tool_begin a b request name (length out)) ≡ refusal n
        go true c true e =
            let k : begin_number (unpacked_tool b) (request_from request) name (length out) ≡ n = rw (c, e) at is in
            rw (c, e, k, ne_eqb n 0 refused)
        go true c false e = let k : not_in_table ≡ n = rw (c, e) at is in rw (c, e, ← k)
        go false c x e = let k : format_or_address ≡ n = rw c at is in rw (c, ← k)

    pub begin-refused-state : tool_kept (tool_begin a b request name (length out)) b ≡ b
    unfolding tool_kept
    begin-refused-state = rw (is, ne_eqb n 0 refused)

    pub begin-refused-out : tool_begin_out a b request name out ≡ out
    unfolding tool_begin tool_begin_out begin_result begin_out begin_sent front
    begin-refused-out = go (different a) refl (leb request 5) refl
      where
        go : (d : Bool) → different a ≡ d → (x : Bool) → leb request 5 ≡ x → tool_begin_out a b request name out ≡ out
        go true c true e =
            let k : begin_number (unpacked_tool b) (request_from request) name (length out) ≡ n = rw (c, e) at is in
            rw (c, e, k, ne_eqb n 0 refused)
        go true c false e = rw (c, e)
        go false c x e = rw c

  pub begin-no-state : different a ≡ true → request ≤ 5 → request_number (request_from request) name ≡ 0 → is_tool b ≡ false
      → tool_handed (tool_begin a b request name (length out)) ≡ refusal 11
  unfolding tool_begin begin_result
  begin-no-state d r s h =
      begin-refused-result 11 (rw (d, le-leb request 5 r) (begin-impossible (request_from request) name (length out) b h ∙ rw s)) (λ z. omega arith)

-- a fresh state that is refused

pub unit-fresh-refused : (kind : ℕ) (b : List ℕ) → (unit_fresh_number kind (length b) ≡ 0 → ⊥) → unit_fresh_state kind b ≡ b
unfolding unit_fresh_state
unit-fresh-refused kind b refused = rw (ne_eqb (unit_fresh_number kind (length b)) 0 refused)

pub tool-fresh-refused : (b : List ℕ) → (tool_fresh_number (length b) ≡ 0 → ⊥) → tool_fresh_state b ≡ b
unfolding tool_fresh_state
tool-fresh-refused b refused = rw (ne_eqb (tool_fresh_number (length b)) 0 refused)

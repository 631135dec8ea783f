-- Each packed call is simulated by the Rattle call.
use Prim.Native.Nat.{ℕ, ◌<◌, ◌≤◌}
use mathlib.Core.Bool.{Bool, true, false}
use mathlib.Core.List.{List, append-nil}
use mathlib.Core.Path.{◌≡◌, refl, sym, ap, ◌∙◌}
use native.Mathlib.Omega.{arith}
use lib.ListN.{length, drop_of_length-le}
use borrow.Author.Tests.{le-leb, lt-ltb}
use Rattle.octets.specs.Order.{unless}
use Rattle.octets.specs.Numbers.{changed_by}
use Rattle.octets.specs.Buffer.{Bytes, front}
use Rattle.frame.specs.declared.Addresses.{Addresses}
use Rattle.frame.specs.Given.{different}
use Rattle.catalog.specs.declared.AnswerName.{AnswerName}
use Rattle.services.specs.declared.UnitState.{UnitState}
use Rattle.services.specs.State.{fresh_unit}
use Rattle.unit.specs.Call.{UnitReply}
use Rattle.unit.specs.Call.{unit_result, unit_result_given}
use Rattle.unit.proofs.BoundLaws as units
use Rattle.progress.specs.declared.ToolState.{ToolState}
use Rattle.arrival.specs.declared.Meaning.{Meaning}
use Rattle.progress.specs.State.{fresh_tool}
use Rattle.tool.specs.Call.{ToolStep}
use Rattle.tool.specs.Call.{begun, begin_number, begin_state, begin_result, event_result, refused_tool, begin_result_given}
use Rattle.tool.specs.Call.{event_result_given}
use Rattle.tool.proofs.BoundLaws as tools
use Rattle.states.specs.Packed.{packed_unit, unpacked_unit, request_from, packed_tool, is_tool, unpacked_tool}
use Rattle.host.specs.Calls.{unit_fresh_number, unit_fresh_state, tool_fresh_number, tool_fresh_state, tool_kept, tool_begin}
use Rattle.states.proofs.UnitLaws.{length-unit, unit-again}
use Rattle.states.proofs.ToolLaws.{length-tool, tool-again}
use Rattle.packed.specs.Simulation.{UnitIs, ToolIs, Simulation}
use Rattle.packed.proofs.Calls.{unit-fits, tool-fits, unit-returns, tool-returns, kept-packs, unit_kept_lem, event-kept}

unit-is : (b : List ℕ) (u : UnitState) → units.Fits u.phase → b ≡ packed_unit u → UnitIs b u
unit-is b u f e = record { packed = e; unpacked = ap unpacked_unit e ∙ unit-returns u f }

tool-is : (b : List ℕ) (t : ToolState) → tools.Fits t → b ≡ packed_tool t → ToolIs b t
tool-is b t f e = record { packed = e; unpacked = ap unpacked_tool e ∙ tool-returns t f }

-- a front as long as the buffer is all of it
filled : (p b : List ℕ) → length b ≡ length p → front p b ≡ p
unfolding front
filled p b h = rw (drop_of_length-le b {i = length p} (omega arith), append-nil)

unit-fresh : (kind : ℕ) (b : List ℕ) → kind < 3 → length b ≡ 11 → unit_fresh_state kind b ≡ packed_unit (fresh_unit kind)
unfolding unit_fresh_state unit_fresh_number
unit-fresh kind b k h =
    rw (lt-ltb kind 3 k, le-leb 11 (length b) (omega arith)) (filled (packed_unit (fresh_unit kind)) b (h ∙ sym (length-unit (fresh_unit kind))))

tool-fresh : (b : List ℕ) → length b ≡ 15 → tool_fresh_state b ≡ packed_tool fresh_tool
unfolding tool_fresh_state tool_fresh_number
tool-fresh b h = rw (le-leb 15 (length b) (omega arith)) (filled (packed_tool fresh_tool) b (h ∙ sym (length-tool fresh_tool)))

module _ (a : Addresses) (b : List ℕ) (bytes : Bytes b) (is : is_tool b ≡ true) where
  tool-evented : (m : Meaning) (new room out : ℕ)
      → tool_kept (unless (different a) (refused_tool (unpacked_tool b)) (event_result a (unpacked_tool b) m new room out)) b
      ≡ packed_tool (unless (different a) (refused_tool (unpacked_tool b)) (event_result a (unpacked_tool b) m new room out)).state
  tool-evented m new room out = event-kept a b (unpacked_tool b) m new room out (sym (tool-again b bytes is))

  tool-began : (request : ℕ) (name : AnswerName) (out : ℕ) → request ≤ 5
      → tool_kept (tool_begin a b request name out) b ≡ packed_tool (begin_result_given a (unpacked_tool b) (request_from request) name out).state
  unfolding tool_kept tool_begin begin_result_given begin_result begin_state
  tool-began request name out h = rw (le-leb request 5 h) (go (different a))
    where
      go : (d : Bool)
          → changed_by (unless d (refused_tool (unpacked_tool b)) (begin_result a (unpacked_tool b) (request_from request) name out)).number
          (packed_tool (unless d (refused_tool (unpacked_tool b)) (begin_result a (unpacked_tool b) (request_from request) name out)).state) b
          ≡ packed_tool (unless d (refused_tool (unpacked_tool b)) (begin_result a (unpacked_tool b) (request_from request) name out)).state
      go true =
          kept-packs packed_tool (begin_number (unpacked_tool b) (request_from request) name out) b (begun (request_from request) name) (unpacked_tool b)
          (sym (tool-again b bytes is))
      go false = sym (tool-again b bytes is)

-- the next state fits, also where two equal addresses leave it
module _ {A R : Type 0} (a : Addresses) (state : R → A) (Fits : A → Type 0) where
  given-fits : (refusal result : R) → Fits (state refusal) → Fits (state result) → Fits (state (unless (different a) refusal result))
  given-fits refusal result x y = go (different a)
    where
      go : (d : Bool) → Fits (state (unless d refusal result))
      go true = y
      go false = x

abbrev UnitFits : UnitState → Type 0
UnitFits u = units.Fits u.phase

pub simulation : Simulation
unfolding unit_result_given unit_result begin_result_given event_result_given begin_result event_result
simulation =
    record {
      unit_fresh = λ kind b k h. unit-is _ (fresh_unit kind) tt (unit-fresh kind b k h);
      tool_fresh = λ b h. tool-is _ fresh_tool (record { day = omega arith; expected = omega arith; held = omega arith }) (tool-fresh b h);
      unit_step = λ a b store f reply bytes heard is.
          unit-is _ _
          (given-fits a (λ (r : UnitReply). r.state) UnitFits _ _ (unit-fits b bytes is)
          (units.step_fits (unpacked_unit b) (unit-fits b bytes is) store a f heard (length reply)))
          (unit_kept_lem a store f b (length reply) (unpacked_unit b) refl (sym (unit-again b bytes is)));
      tool_begin = λ a b request name out bytes is h d.
          tool-is _ _
          (given-fits a (λ (r : ToolStep). r.state) tools.Fits _ _ (tool-fits b bytes is)
          (tools.begin-fits (unpacked_tool b) (tool-fits b bytes is) (request_from request) name (length out) d))
          (tool-began a b bytes is request name (length out) h);
      tool_arrival = λ a b f room out bytes is.
          tool-is _ _
          (given-fits a (λ (r : ToolStep). r.state) tools.Fits _ _ (tool-fits b bytes is)
          (tools.arrival-fits (unpacked_tool b) (tool-fits b bytes is) a f (length room) (length out)))
          (tool-evented a b bytes is _ _ (length room) (length out));
      tool_wait = λ a b room out bytes is.
          tool-is _ _
          (given-fits a (λ (r : ToolStep). r.state) tools.Fits _ _ (tool-fits b bytes is)
          (tools.wait-fits (unpacked_tool b) (tool-fits b bytes is) (length room) (length out)))
          (tool-evented a b bytes is _ _ (length room) (length out));
    }

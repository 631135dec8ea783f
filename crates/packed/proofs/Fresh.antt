-- From the fresh calls to a granted unit and a tool that waits.
use Prim.Native.Nat.{ℕ, ◌<◌, ◌≤◌}
use mathlib.Core.Bool.{true}
use mathlib.Core.List.{List}
use mathlib.Core.Path.{◌≡◌, refl, ap, ◌∙◌}
use native.Mathlib.Omega.{arith}
use lib.ListN.{length}
use borrow.Author.Tests.{le-leb, lt-ltb}
use Rattle.frame.specs.declared.Addresses.{Addresses}
use Rattle.frame.specs.Frame.{judged}
use Rattle.frame.specs.Messages.{session_request, upload_request}
use Rattle.frame.specs.Given.{different}
use Rattle.frame.proofs.GivenLaws.{different-ones}
use Rattle.frame.proofs.Theorems.{write-then-check, data-reads-back, start-good}
use Rattle.frame.specs.declared.End.TheVariants as ends
use Rattle.catalog.specs.Name.{name_number}
use Rattle.catalog.specs.declared.AnswerName.{AnswerName}
use Rattle.store.specs.Layout.{narrow}
use Rattle.store.specs.Check.{store_number}
use Rattle.services.specs.declared.Phase.{Phase}
use Rattle.services.specs.declared.Phase.TheVariants.{Closed, Started, Session, Granted}
use Rattle.services.specs.declared.UnitState.{UnitState}
use Rattle.unit.specs.State.{possible}
use Rattle.services.specs.Services.{on_session, on_upload}
use Rattle.services.specs.After.{state_after}
use Rattle.unit.specs.Call.{reaction_to, unit_number, unit_state, unit_result}
use Rattle.unit.proofs.BoundLaws as units
use Rattle.progress.specs.declared.Request.{Request}
use Rattle.progress.specs.declared.Request.TheVariants as requests
use Rattle.catalog.specs.Name.{zero_name}
use Rattle.requests.specs.Sent.{frame_sent}
use Rattle.tool.specs.Call.{request_number, begin_number, begin_result}
use Rattle.states.specs.Packed.{packed_unit, unpacked_unit, request_from}
use Rattle.host.specs.Calls.{unit_fresh_state, tool_fresh_state, tool_begin}
use Rattle.line.specs.Line.{Result}
use Rattle.download.proofs.Runs.{calls}
use Rattle.download.proofs.AtDifferent.{unit-at}
use Rattle.download.proofs.ServiceFacts.{not-refused}
use Rattle.packed.specs.Fresh.{behind, FromFresh}
use Rattle.packed.specs.PackedEnds.{UnitGiven}
use Rattle.packed.specs.PackedDemand.{lengths}
use Rattle.packed.proofs.Calls.{unit-returns, packed_result, unit-called}
use Rattle.packed.proofs.Simulation.{simulation}

-- a unit of this kind at the first rate, in a phase that sends nothing
abbrev unit_in : ℕ → Phase → UnitState
unit_in kind phase = record { kind = kind; rate = 1; pending = 0; phase = phase }

module _ (a : Addresses) (two : different a ≡ true) (kind : ℕ) (store reply : List ℕ) (k : kind < 3) (unbroken : store_number narrow store ≡ 0)
    (room : 260 ≤ length reply) where
  -- a step that is not refused, from what it makes of the state
  stepped : (p q : Phase) (request : Request) → units.Fits p → possible store (unit_in kind p) ≡ true
      → judged a ends.Unit (frame_sent a request zero_name 1) ≡ 0
      → state_after (unit_in kind p) (reaction_to a store (unit_in kind p) (frame_sent a request zero_name 1)) ≡ unit_in kind q
      → behind a store reply request (packed_unit (unit_in kind p)) ≡ packed_unit (unit_in kind q)
  unfolding unit_state unit_result
  stepped p q request f h j e =
      let n : unit_number a store (length reply) (unit_in kind p) (frame_sent a request zero_name 1) ≡ 0 =
      not-refused a store (unit_in kind p) (length reply) (frame_sent a request zero_name 1) unbroken h (le-leb 260 (length reply) room) j in
      let s : unit_state a store (length reply) (unit_in kind p) (frame_sent a request zero_name 1) ≡ unit_in kind q = rw n e in
      let c : UnitGiven = record { addresses = a; store = store; reply = reply } in
      ap (λ (r : Result (List ℕ) (List ℕ)). r.next)
      (unit-called c (unit_in kind p) (frame_sent a request zero_name 1) f
      ∙ ap packed_result (unit-at a two (lengths c) (unit_in kind p) (frame_sent a request zero_name 1) refl))
      ∙ ap packed_unit s

  started : behind a store reply requests.Start (packed_unit (unit_in kind Closed)) ≡ packed_unit (unit_in kind Started)
  unfolding calls
  started = stepped Closed Started requests.Start tt (rw (lt-ltb kind 3 k)) (start-good a) refl

  session : behind a store reply requests.Session (packed_unit (unit_in kind Started)) ≡ packed_unit (unit_in kind Session)
  unfolding calls on_session
  session =
      stepped Started Session requests.Session tt (rw (lt-ltb kind 3 k)) (write-then-check a ends.Unit session_request (omega arith) (omega arith))
      (rw (data-reads-back a ends.Unit session_request (omega arith) (omega arith)))

  upload : behind a store reply requests.Upload (packed_unit (unit_in kind Session)) ≡ packed_unit (unit_in kind Granted)
  unfolding calls on_upload
  upload =
      stepped Session Granted requests.Upload tt (rw (lt-ltb kind 3 k)) (write-then-check a ends.Unit upload_request (omega arith) (omega arith))
      (rw (data-reads-back a ends.Unit upload_request (omega arith) (omega arith)))

  granted : (state : List ℕ) → length state ≡ 11
      → behind a store reply requests.Upload (behind a store reply requests.Session (behind a store reply requests.Start (unit_fresh_state kind state)))
      ≡ packed_unit (unit_in kind Granted)
  granted state h =
      ap (λ (b : List ℕ). behind a store reply requests.Upload (behind a store reply requests.Session (behind a store reply requests.Start b)))
      (simulation.unit_fresh kind state k h).packed
      ∙ ap (λ (b : List ℕ). behind a store reply requests.Upload (behind a store reply requests.Session b)) started
      ∙ ap (behind a store reply requests.Upload) session
      ∙ upload

begins : (a : Addresses) → different a ≡ true → (state : List ℕ) (name : AnswerName) (output : List ℕ) → length state ≡ 15 → name_number name ≡ 0
    → 260 ≤ length output
    → (tool_begin a (tool_fresh_state state) 5 name (length output)).number ≡ 0
unfolding tool_begin request_from begin_result begin_number request_number
begins a two state name output h n room = rw (two, (simulation.tool_fresh state h).unpacked, n, le-leb 260 (length output) room)

pub from-fresh : FromFresh
from-fresh =
    record {
      begins = λ a other. begins a (different-ones a other);
      granted = λ a other kind state store reply k h unbroken room.
          let done = granted a (different-ones a other) kind store reply k unbroken room state h in
          record { packed = done; unpacked = ap unpacked_unit done ∙ unit-returns (unit_in kind Granted) tt };
    }

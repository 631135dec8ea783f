-- From the fresh calls to a transfer: a tool that tacho_tool_fresh made begins every transfer that 12 allows, and a
-- unit that tacho_unit_fresh made is granted behind the tool's start, session and upload, at any two different
-- addresses. So the premises of the claim can be met from there.
use Rattle.std.specs.Prelude.{List, ◌≢◌, ◌≡◌, ℕ, ◌<◌, ◌≤◌, length}
use Rattle.octets.specs.Numbers.{done}
use Rattle.frame.specs.Frame.{frame_most}
use Rattle.frame.specs.declared.Addresses.{Addresses}
use Rattle.catalog.specs.Name.{name_number}
use Rattle.catalog.specs.declared.AnswerName.{AnswerName}
use Rattle.store.specs.Layout.{narrow}
use Rattle.store.specs.Check.{store_number}
use Rattle.services.specs.declared.Phase.TheVariants.{Granted}
use Rattle.progress.specs.declared.Request.{Request}
use Rattle.progress.specs.declared.Request.TheVariants as requests
use Rattle.catalog.specs.Name.{zero_name}
use Rattle.requests.specs.Sent.{frame_sent}
use Rattle.host.specs.Calls.{unit_fresh_state, unit_kept, unit_step, tool_fresh_state, tool_begin}
use Rattle.packed.specs.Simulation.{UnitIs}

-- the state bytes behind a step of the unit at the frame of a fixed request
abbrev pub behind : Addresses → List ℕ → List ℕ → Request → List ℕ → List ℕ
behind a store reply request state =
    unit_kept (unit_step a state store (length reply) (frame_sent a request zero_name 1)) state

pub record FromFresh : Type 0 where
  pub begins : (a : Addresses) → a.unit ≢ a.tool → (state : List ℕ) (name : AnswerName) (output : List ℕ)
      → length state ≡ 15 → name_number name ≡ done → frame_most ≤ length output
      → (tool_begin a (tool_fresh_state state) 5 name (length output)).number ≡ done
  pub granted : (a : Addresses) → a.unit ≢ a.tool → (kind : ℕ) (state store reply : List ℕ) → kind < 3
      → length state ≡ 11 → store_number narrow store ≡ done → frame_most ≤ length reply
      → UnitIs
      (behind a store reply requests.Upload
      (behind a store reply requests.Session
      (behind a store reply requests.Start
      (unit_fresh_state kind state))))
      (record { kind = kind; rate = 1; pending = 0; phase = Granted })

-- What is claimed of days in a unit's call (document 02, Req 03). proofs/Days.antt proves it.
use Rattle.std.specs.Prelude.{ℕ, Bool, cond, List, ◌≡◌}
use Rattle.frame.specs.declared.Addresses.{Addresses}
use Rattle.frame.specs.declared.End.TheVariants as ends
use Rattle.frame.specs.Frame.{is_start, data_of}
use Rattle.catalog.specs.Name.{WholeDay, rounded}
use Rattle.store.specs.Layout.{narrow}
use Rattle.store.specs.Days.{lookup_place_before}
use Rattle.services.specs.declared.Phase.{Phase}
use Rattle.services.specs.declared.Phase.TheVariants.{Closed, Started, Session, Granted, Sending}
use Rattle.services.specs.declared.Reaction.{Reaction}
use Rattle.services.specs.declared.Reaction.TheVariants.{Ignored, CommunicationStarted}
use Rattle.services.specs.declared.UnitState.{UnitState}
use Rattle.services.specs.State.{is_closed, name_sent, possible_at}
use Rattle.services.specs.Services.{name_asked}
use Rattle.services.specs.Days.{on_data_before}
use Rattle.unit.specs.State.{possible}
use Rattle.unit.specs.Call.{reaction_to, unit_number, unit_state, unit_reply}

-- the state with the first second of the day in place of the second that it keeps
abbrev pub rounded_phase : Phase → Phase
rounded_phase Closed = Closed
rounded_phase Started = Started
rounded_phase Session = Session
rounded_phase Granted = Granted
rounded_phase (Sending name last) = Sending (rounded name) last

abbrev pub rounded_state : UnitState → UnitState
rounded_state u =
    record { kind = u.kind; rate = u.rate; pending = u.pending; phase = rounded_phase u.phase }

-- Document 01's state and reaction, before Req 03: the answers by the very day, and 31
unfoldable pub possible_before : List ℕ → UnitState → Bool
possible_before store u = possible_at (lookup_place_before narrow (name_sent u.phase) store) u

unfoldable pub reaction_before : Addresses → List ℕ → UnitState → List ℕ → Reaction
reaction_before a store u b =
    cond (is_start b) CommunicationStarted
    (cond (is_closed u.phase) Ignored
    (on_data_before (lookup_place_before narrow (name_sent u.phase) store)
    (lookup_place_before narrow (name_asked (data_of a ends.Unit b)) store) u (data_of a ends.Unit b)))

pub record DayClaims : Type 0 where
  -- which second of the day a state keeps does not matter: whatever arrives, number and reply are the same, and the
  -- next states are as alike
  pub number : (a : Addresses) (store : List ℕ) (out_len : ℕ) (u : UnitState) (b : List ℕ)
      → unit_number a store out_len (rounded_state u) b ≡ unit_number a store out_len u b
  pub reply : (a : Addresses) (store : List ℕ) (out_len : ℕ) (u : UnitState) (b : List ℕ)
      → unit_reply a store out_len (rounded_state u) b ≡ unit_reply a store out_len u b
  pub state : (a : Addresses) (store : List ℕ) (out_len : ℕ) (u : UnitState) (b : List ℕ)
      → rounded_state (unit_state a store out_len (rounded_state u) b) ≡ rounded_state (unit_state a store out_len u b)
  -- with whole days in state and frame a call does what it did before: number, next state and reply are by these two
  pub whole_state : (store : List ℕ) (u : UnitState) → WholeDay (name_sent u.phase).day
      → possible store u ≡ possible_before store u
  pub whole_reaction : (a : Addresses) (store : List ℕ) (u : UnitState) (b : List ℕ)
      → WholeDay (name_sent u.phase).day → WholeDay (name_asked (data_of a ends.Unit b)).day
      → reaction_to a store u b ≡ reaction_before a store u b

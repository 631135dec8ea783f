-- The calls at two different addresses are those of document 01 there: with them the facts about both ends are stated.
use Prim.Native.Nat.{ℕ}
use mathlib.Core.Bool.{Bool, true, false}
use mathlib.Core.List.{List}
use mathlib.Core.Path.{◌≡◌, refl}
use lib.ListN.{length}
use Rattle.frame.specs.declared.Addresses.{Addresses}
use Rattle.frame.specs.Given.{different}
use Rattle.services.specs.declared.UnitState.{UnitState}
use Rattle.unit.specs.Call.{unit_result, unit_reply, unit_result_given}
use Rattle.arrival.specs.declared.Meaning.TheVariants.{FailedWait}
use Rattle.arrival.specs.Meaning.{arrival_meaning}
use Rattle.tool.specs.Call.{begin_result, begin_sent, event_sent, arrival_result, arrival_room, wait_result, begin_result_given}
use Rattle.tool.specs.Call.{event_result_given, event_room_given}
use Rattle.line.specs.Line.{Result, silent}
use Rattle.download.specs.CableEnds as cable
use Rattle.download.specs.CableEnds.{UnitGiven, ToolGiven, BeginGiven, ToolRoom, strings}

module _ (a : Addresses) where
  abbrev pub unit_call : UnitGiven → UnitState → List ℕ → Result (List ℕ) UnitState
  unit_call c u b =
      record {
        next = (unit_result a c.store c.reply u b).state;
        out = strings (unit_reply a c.store c.reply u b);
      }

  abbrev pub tool_arrival : ℕ → ToolRoom → List ℕ → Result (List ℕ) ToolRoom
  tool_arrival output t b =
      record {
        next = record {
          state = (arrival_result a t.state b (length t.room) output).state;
          room = arrival_room a t.state b output t.room;
        };
        out = strings
            (event_sent a t.state (arrival_meaning a (length t.room) t.state b) (length t.room) output);
      }

  abbrev pub tool_wait_end : ℕ → ToolRoom → Result (List ℕ) ToolRoom
  tool_wait_end output t =
      record {
        next = record { state = (wait_result a t.state (length t.room) output).state; room = t.room };
        out = strings (event_sent a t.state FailedWait (length t.room) output);
      }

  abbrev pub tool_begun : BeginGiven → ToolRoom → Result (List ℕ) ToolRoom
  tool_begun b t =
      record {
        next = record { state = (begin_result a t.state b.request b.name b.output).state; room = t.room };
        out = strings (begin_sent a t.state b.request b.name b.output);
      }

-- A call that is given a is that one
module _ (a : Addresses) (two : different a ≡ true) where
  pub unit-at : (c : UnitGiven) (u : UnitState) (b : List ℕ) → c.addresses ≡ a → cable.unit_call c u b ≡ unit_call a c u b
  unfolding unit_result_given
  unit-at c u b e = rw (e, two)

  pub arrival-at : (d : ToolGiven) (t : ToolRoom) (b : List ℕ) → d.addresses ≡ a → cable.tool_arrival d t b ≡ tool_arrival a d.output t b
  unfolding event_result_given event_room_given
  arrival-at d t b e = rw (e, two)

  pub wait-at : (d : ToolGiven) (t : ToolRoom) → d.addresses ≡ a → cable.tool_wait_end d t ≡ tool_wait_end a d.output t
  unfolding event_result_given
  wait-at d t e = rw (e, two)

  pub begun-at : (b : BeginGiven) (t : ToolRoom) → b.addresses ≡ a → cable.tool_begun b t ≡ tool_begun a b t
  unfolding begin_result_given
  begun-at b t e = rw (e, two)

-- A tool that stays as it is at every two different addresses stays so at equal ones too, which refuse the call
module _ (t : ToolRoom) where
  pub arrival-stays : (d : ToolGiven) (b : List ℕ) → tool_arrival d.addresses d.output t b ≡ silent t → cable.tool_arrival d t b ≡ silent t
  unfolding event_result_given event_room_given
  arrival-stays d b still = go (different d.addresses) refl
    where
      go : (x : Bool) → different d.addresses ≡ x → cable.tool_arrival d t b ≡ silent t
      go true e = rw e still
      go false e = rw e

  pub wait-stays : (d : ToolGiven) → tool_wait_end d.addresses d.output t ≡ silent t → cable.tool_wait_end d t ≡ silent t
  unfolding event_result_given
  wait-stays d still = go (different d.addresses) refl
    where
      go : (x : Bool) → different d.addresses ≡ x → cable.tool_wait_end d t ≡ silent t
      go true e = rw e still
      go false e = rw e

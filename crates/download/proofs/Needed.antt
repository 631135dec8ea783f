-- Each premise is needed: the shortest list of events that breaks the claim where it is left out. Computed at the lab's addresses where nothing else is said;
-- the answer is 02 02 under TREP 00, one frame.
-- Left aside is the bound of the day, which is its type in the code.
use Prim.Native.Nat.{ℕ}
use mathlib.Core.Bool.{false}
use mathlib.Core.List.{List, [], ◌∷◌, ◌++◌}
use mathlib.Core.Path.{◌≡◌, refl}
use lib.Dec.{leb}
use lib.ListN.{replicate}
use Rattle.frame.specs.Frame.{lab}
use Rattle.frame.specs.declared.Addresses.{Addresses}
use Rattle.catalog.specs.declared.AnswerName.{AnswerName}
use Rattle.split.specs.Codes.{sub}
use Rattle.split.specs.Split.{count_of, sub_frame}
use Rattle.progress.specs.State.{fresh_tool}
use Rattle.octets.specs.Buffer.{same_bytes}
use Rattle.services.specs.declared.UnitState.{UnitState}
use Rattle.services.specs.declared.Phase.{Phase}
use Rattle.services.specs.declared.Phase.TheVariants.{Session, Granted, Sending}
use Rattle.progress.specs.declared.Request.TheVariants.{Transfer}
use Rattle.progress.specs.declared.Outcome.{Outcome}
use Rattle.progress.specs.declared.Outcome.TheVariants.{Fresh, Waiting, Done, NoAnswer, NoRoom, Refused}
use Rattle.line.specs.Line.{tool_end, spoiled, Event, arrives_at_unit, arrives_at_tool, wait_ends, line_changes}
use Rattle.line.specs.Book as books
use Rattle.line.specs.Book.{Run, run, start}
use Rattle.download.specs.CableEnds.{UnitGiven, ToolGiven, cable_ends, tool_begun, refused}
use Rattle.download.specs.AddressCases.{remote, equal_two}
use Rattle.store.specs.Claims.{store12}
use Rattle.download.proofs.Runs.{calls, lent}

abbrev interface : AnswerName
interface = record { trep = 0x00; day = 0 }

-- the transfer of Demand.antt without its premises: the begin's addresses, the unit's kind, rate and phase, the tool's room and the begin's output
abbrev transfer_of : Addresses → UnitState → List ℕ → ℕ → books.Transfer cable_ends
transfer_of a unit room output =
    record {
      q = count_of 2;
      frame = λ k. sub_frame a 0x00 k (0x02 ∷ 0x02 ∷ []);
      same = same_bytes;
      refused = refused a;
      asks_time = λ p x. false;
      time_most = 0;
      owed = 0;
      unit_premise = λ u c. Unit {0};
      tool_premise = λ o. Unit {0};
      has_room = λ c. leb 260 c.reply;
      unit = unit;
      begun = tool_begun (record { addresses = a; request = Transfer; name = interface; output = output }) (record { state = fresh_tool; room = room });
    }

abbrev after : UnitState → List ℕ → ℕ → List (Event cable_ends) → Run cable_ends
after unit room output es = run cable_ends (transfer_of lab unit room output) es (start cable_ends (transfer_of lab unit room output))

abbrev v2 : Phase → UnitState
v2 phase = record { kind = 2; rate = 1; pending = 0; phase = phase }

abbrev four : List ℕ
four = replicate 4 0x00

abbrev call : List ℕ → UnitGiven
call store = record { addresses = lab; store = store; reply = 260 }

-- the same name with other bytes
abbrev changed_store : List ℕ
changed_store = 0x00 ∷ 0x01 ∷ 0x00 ∷ 0x04 ∷ 0x00 ∷ 0x00 ∷ 0x00 ∷ 0x00 ∷ 0x00 ∷ 0x00 ∷ 0x00 ∷ 0x04 ∷ 0x76 ∷ 0x00 ∷ 0x01 ∷ 0x01 ∷ []

abbrev exchange : List ℕ → List (Event cable_ends)
exchange store = arrives_at_unit (call store) ∷ arrives_at_tool (lent 260) ∷ []

-- three waits that end at these addresses
abbrev waits : Addresses → List (Event cable_ends)
waits a = let d : ToolGiven = record { addresses = a; output = 260 } in wait_ends d ∷ wait_ends d ∷ wait_ends d ∷ []

-- tool and book go apart
abbrev Apart : Run cable_ends → Outcome → books.Outcome → Type 0
Apart r tool book = (r.system.tool.state.outcome ≡ tool) × (r.book.outcome ≡ book)

-- the tool waits and nothing is on the line
abbrev Stuck : Run cable_ends → Type 0
Stuck r = (r.system.tool.state.outcome ≡ Waiting) × (r.system.to_unit ++ r.system.to_tool ≡ [])

record Needed : Type 0 where
  -- the two addresses differ: the begin is refused by 2, so that no list starts
  different : Apart (start cable_ends (transfer_of equal_two (v2 Granted) four 260)) Fresh books.waiting
  -- the tool's events are given the same two: the answer's frame at another tool address is a failed wait, and at two equal ones the event is refused by 2
  same_at_tool : Apart (after (v2 Granted) four 260 (arrives_at_unit (call store12) ∷ arrives_at_tool (record { addresses = remote; output = 260 }) ∷ []))
      Waiting books.done
  not_equal_at_tool : Apart (after (v2 Granted) four 260 (arrives_at_unit (call store12) ∷ arrives_at_tool (record { addresses = equal_two; output = 260 }) ∷ []))
      Waiting books.done
  -- so are its waits: at two equal ones they are refused by 2, and no sending is counted
  same_at_wait : Apart (after (v2 Granted) four 260 (waits equal_two)) Waiting books.no_answer
  -- the begin is accepted: refused by 4, nothing happens at all
  accepted : Apart (after (v2 Granted) four 259 []) Fresh books.waiting
  -- an upload is granted: 22
  granted : Apart (after (v2 Session) four 260 (exchange store12)) (Refused 0x22) books.waiting
  -- the unit knows the type: 12 from generation 1
  known : Apart (after (record { kind = 0; rate = 1; pending = 0; phase = Granted }) four 260 (exchange store12)) (Refused 0x12) books.waiting
  -- the store holds the answer: FA from an empty one
  held : Apart (after (v2 Granted) four 260 (exchange (0x00 ∷ 0x00 ∷ 0x00 ∷ 0x00 ∷ []))) (Refused 0xFA) books.waiting
  -- the answer is unchanged: other bytes are taken
  unchanged : Apart (after (v2 Granted) four 260 (exchange changed_store)) Done books.waiting
  -- the room suffices
  suffices : Apart (after (v2 Granted) (replicate 3 0x00) 260 (exchange store12)) NoRoom books.done
  -- an event's output has 260 bytes: refused by 4, the frame is gone
  output : Apart (after (v2 Granted) four 260 (arrives_at_unit (call store12) ∷ arrives_at_tool (lent 259) ∷ [])) Waiting books.done
  -- spoiled means refused: an intact frame takes the place of another
  spoils : Apart (after (v2 Granted) four 260
      (arrives_at_unit (call store12) ∷ line_changes tool_end 0 (spoiled (sub_frame lab 0x00 1 (0x01 ∷ 0x01 ∷ []))) ∷ arrives_at_tool (lent 260) ∷ []))
      Done books.waiting
  -- On a clean line. The unit's state is possible: 11
  possible : Stuck (after (record { kind = 2; rate = 0; pending = 0; phase = Granted }) four 260 (arrives_at_unit (call store12) ∷ []))
  -- the store is unbroken: 13 to 17
  unbroken : Stuck (after (v2 Granted) four 260 (arrives_at_unit (call []) ∷ []))
  -- the answer that is being sent is unchanged: it is gone, so 11
  sending : Stuck (after (v2 (Sending (record { trep = 0x31; day = 0 }) (sub 1))) four 260 (arrives_at_unit (call store12) ∷ []))
  -- the unit's calls are given the same two: the request at another tool address is 2
  same_at_unit : Stuck (after (v2 Granted) four 260 (arrives_at_unit (record { addresses = remote; store = store12; reply = 260 }) ∷ []))
  -- a reply buffer has 260 bytes: 4
  reply : Stuck (after (v2 Granted) four 260 (arrives_at_unit (record { addresses = lab; store = store12; reply = 259 }) ∷ []))
  -- no wait ends early: "no answer" with the request still on the line
  early : Apart (after (v2 Granted) four 260 (wait_ends (lent 260) ∷ wait_ends (lent 260) ∷ wait_ends (lent 260) ∷ [])) NoAnswer books.no_answer

needed : Needed
unfolding calls
needed =
    record {
      different = (refl, refl);
      same_at_tool = (refl, refl);
      not_equal_at_tool = (refl, refl);
      same_at_wait = (refl, refl);
      accepted = (refl, refl);
      granted = (refl, refl);
      known = (refl, refl);
      held = (refl, refl);
      unchanged = (refl, refl);
      suffices = (refl, refl);
      output = (refl, refl);
      spoils = (refl, refl);
      possible = (refl, refl);
      unbroken = (refl, refl);
      sending = (refl, refl);
      same_at_unit = (refl, refl);
      reply = (refl, refl);
      early = (refl, refl);
    }

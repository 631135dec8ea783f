-- DEMAND 3 (document 01, "The line and the book"): one claim about every list of events, over any two different
-- addresses, "with the same two given to both ends at every call" (document 02, Req 05). The chain: a call → its
-- promise → a definition (specs/ of unit and tool) → an end of the cable (CableEnds.antt) → line, events and book
-- (specs/ of line) → the claim here.
-- proofs/Theorem.antt proves it; proofs/Witness.antt meets its premises; proofs/Needed.antt shows what breaks without
-- each.
use Rattle.std.specs.Prelude.{◌≡◌, true, false, List, [], ◌∷◌, ◌++◌, ◌↔◌, ◌≢◌}
use Rattle.std.specs.Prelude.{ℕ, zero, suc, ◌+◌, ◌*◌, ◌≤◌, ◌<◌, length, take, drop, leb}
use Rattle.frame.specs.Frame.{frame_most}
use Rattle.frame.specs.declared.Addresses.{Addresses}
use Rattle.octets.specs.Buffer.{same_bytes}
use Rattle.catalog.specs.declared.AnswerName.{AnswerName}
use Rattle.catalog.specs.Table.{known_to}
use Rattle.split.specs.Split.{count_of, carries, sub_frame}
use Rattle.store.specs.Layout.{narrow}
use Rattle.store.specs.Read.{lookup_number, lookup_part}
use Rattle.services.specs.declared.UnitState.{UnitState}
use Rattle.services.specs.declared.Phase.{Phase}
use Rattle.services.specs.declared.Phase.TheVariants.{Closed, Started, Session, Granted, Sending}
use Rattle.services.specs.State.{is_granted}
use Rattle.unit.specs.State as unit_states
use Rattle.progress.specs.declared.Request.TheVariants as requests
use Rattle.progress.specs.declared.Outcome.{Outcome}
use Rattle.progress.specs.declared.Outcome.TheVariants.{Fresh, Waiting, Done, NoAnswer}
use Rattle.progress.specs.declared.ToolState.{ToolState}
use Rattle.tool.specs.Call.{begin_number}
use Rattle.line.specs.Line.{Event}
use Rattle.line.specs.Book as books
use Rattle.line.specs.Book.{Run, run, start}
use Rattle.line.specs.Premises.{AllAllowed, AllClean}
use Rattle.download.specs.CableEnds.{cable_ends, refused, tool_begun}

-- The premises

-- the store is unbroken (else 13 to 17) and holds an answer of that name (else 6), with these bytes
pub record Holds (store : List ℕ) (name : AnswerName) (answer : List ℕ) : Type 0 where
  pub held : lookup_number narrow name store ≡ 0
  pub bytes : lookup_part narrow name store ≡ answer

-- "A list starts behind a transfer's accepted begin": the answer by its name and bytes, the unit with its store, the
-- tool with its room and output
pub record Premises : Type 0 where
  pub name : AnswerName
  pub answer : List ℕ
  pub unit : UnitState
  pub store : List ℕ
  pub tool : ToolState
  pub room : List ℕ
  pub output : ℕ
  -- the begin is accepted
  pub accepted : begin_number tool requests.Transfer name output ≡ 0
  -- "Activities carry a day, four bytes": the day's type in the code, u32
  pub four_bytes : name.day < 0x100000000
  -- the unit's state is possible with the store: granted, or sending this answer or another one
  pub possible : unit_states.possible store unit ≡ true
  pub granted : is_granted unit.phase ≡ true
  -- "A unit is of one kind and knows only its column"
  pub known : known_to unit.kind name.trep ≡ true
  -- the store is unbroken and holds the answer
  pub holds : Holds store name answer
  -- the room suffices for the answer
  pub suffices : length answer ≤ length room

-- the answer that a unit in this phase is sending is in the store now as it was before
abbrev pub SendingUnchanged : Phase → List ℕ → List ℕ → Type 0
SendingUnchanged Closed before now = Unit {0}
SendingUnchanged Started before now = Unit {0}
SendingUnchanged Session before now = Unit {0}
SendingUnchanged Granted before now = Unit {0}
SendingUnchanged (Sending other last) before now = Holds now other (lookup_part narrow other before)

module _ (given : Premises) where
  -- The store of a unit's call in the state u. It may be another one at every call; it is unbroken and holds this
  -- answer as at the begin, and the one that is being sent.
  pub record StorePremise (u : UnitState) (store : List ℕ) : Type 0 where
    pub this : Holds store given.name given.answer
    pub sending : SendingUnchanged u.phase given.store store

  -- the data of the answer, behind 76 and TREP
  abbrev pub answer_data : List ℕ
  answer_data = drop 2 given.answer

  -- "76, TREP and the data of frames 1 to p, at p = 0 nothing"
  abbrev pub data_up_to : ℕ → List ℕ
  data_up_to zero = []
  data_up_to (suc p) = data_up_to p ++ carries (suc p) answer_data

  abbrev pub held_with : ℕ → List ℕ
  held_with zero = []
  held_with (suc p) = 0x76 ∷ given.name.trep ∷ data_up_to (suc p)

-- "held off" never comes (never_held_off below), since no unit asks for time: it is no outcome of a tool that began
abbrev pub outcome_of : books.Outcome → Outcome
outcome_of books.waiting = Waiting
outcome_of books.done = Done
outcome_of books.no_answer = NoAnswer
outcome_of books.held_off = Fresh

module _ (a : Addresses) (given : Premises) where
  -- "the answer's frames 1 to q, split as above"; no unit asks for time. Every call is given the same two addresses; a
  -- refused begin, which changes nothing, may be given any. An event's output has 260 bytes or more; a reply buffer has
  -- any length, on a clean line 260 or more.
  abbrev pub transfer : books.Transfer cable_ends
  transfer =
      record {
        q = count_of (length (answer_data given));
        frame = λ k. sub_frame a given.name.trep k (answer_data given);
        same = same_bytes;
        refused = refused a;
        asks_time = λ p x. false;
        time_most = 0;
        owed = 0;
        unit_premise = λ u c. (c.addresses ≡ a) × StorePremise given u c.store;
        tool_premise = λ d. (d.addresses ≡ a) × (frame_most ≤ d.output);
        has_room = λ c. leb frame_most c.reply;
        unit = given.unit;
        begun = tool_begun
            (record { addresses = a; request = requests.Transfer; name = given.name; output = given.output })
            (record { state = given.tool; room = given.room });
      }

  -- the unit and the tool after some events, and the bytes that the tool holds in its room
  abbrev pub unit : Run cable_ends → UnitState
  unit r = r.system.unit

  abbrev pub tool : Run cable_ends → ToolState
  tool r = r.system.tool.state

  abbrev pub held_bytes : Run cable_ends → List ℕ
  held_bytes r = take (tool r).held r.system.tool.room

  -- After every list of allowed events
  pub record Agrees (r : Run cable_ends) : Type 0 where
    -- "After every list the tool waits or has ended as the book has": by done or by no answer
    pub outcome : (tool r).outcome ≡ outcome_of r.book.outcome
    pub never_held_off : r.book.outcome ≡ books.held_off → ⊥
    -- "it holds 76, TREP and the data of frames 1 to p, at p = 0 nothing"; behind these bytes the room is as it was
    -- lent
    pub held_length : (tool r).held ≡ length (held_with given r.book.taken)
    pub held : held_bytes r ≡ held_with given r.book.taken
    pub behind : drop (tool r).held r.system.tool.room ≡ drop (tool r).held given.room
    -- so it holds a beginning of the answer: its front, of the length held
    pub beginning : held_bytes r ≡ take (tool r).held given.answer
    -- "p = q is done": exactly then, and the tool holds the whole answer
    pub done_at_q : ((tool r).outcome ≡ Done) ↔ (r.book.taken ≡ transfer.q)
    pub whole : (tool r).outcome ≡ Done → held_bytes r ≡ given.answer
    -- "f = 3 is 'no answer'": exactly then
    pub no_answer_at_three : ((tool r).outcome ≡ NoAnswer) ↔ (r.book.failed ≡ 3)
    -- it "has put out at most 3q frames", its begin's too
    pub put_out_at_most : r.system.put_out ≤ 3 * transfer.q
    -- "the count equals the frames put out since the last step forward". Done, the state keeps the count of its last
    -- wait ("An ended state keeps all as at its last wait but outcome and held length"): the frames put out since the
    -- step forward with which that wait began
    pub sendings : r.put_out_before + (tool r).sendings ≡ r.system.put_out
    -- the unit keeps its kind and rate, it is granted or sending, and it is possible with the store of the begin: the
    -- next transfer can begin
    pub unit_kind : (unit r).kind ≡ given.unit.kind
    pub unit_rate : (unit r).rate ≡ given.unit.rate
    pub unit_granted : is_granted (unit r).phase ≡ true
    pub unit_possible : unit_states.possible given.store (unit r) ≡ true

  -- "On a clean line without early waits, done comes at the q-th arrival at the tool, the line never empty before"
  pub record AgreesClean (r : Run cable_ends) : Type 0 where
    pub agrees : Agrees r
    pub done_at_arrival : ((tool r).outcome ≡ Done) ↔ (r.system.tool_arrivals ≡ transfer.q)
    pub never_empty : (tool r).outcome ≡ Waiting → r.system.to_unit ++ r.system.to_tool ≡ [] → ⊥
    pub never_no_answer : (tool r).outcome ≡ NoAnswer → ⊥
    -- it does come: 2q arrivals in all are enough
    pub in_time : 2 * transfer.q ≤ r.system.unit_arrivals + r.system.tool_arrivals → (tool r).outcome ≡ Done

  -- "This is one claim about the list, not one for each call."
  pub record Claim (events : List (Event cable_ends)) : Type 0 where
    pub allowed : AllAllowed cable_ends transfer events (start cable_ends transfer).system
        → Agrees (run cable_ends transfer events (start cable_ends transfer))
    pub clean : AllClean cable_ends transfer events (start cable_ends transfer).system
        → AgreesClean (run cable_ends transfer events (start cable_ends transfer))

abbrev pub Demand3 : Type 0
Demand3 =
    (a : Addresses) → a.unit ≢ a.tool → (given : Premises) (events : List (Event cable_ends)) → Claim a given events

-- The facts about the cable ends hold of the packed ones too: their states are those of the cable ends, packed.
use Prim.Native.Nat.{ℕ, zero, suc, ◌<◌, ◌≤◌}
use mathlib.Core.Bool.{Bool, true, false, cond}
use mathlib.Core.List.{List}
use mathlib.Core.Path.{◌≡◌, refl, sym, ap, ◌∙◌}
use native.Mathlib.Omega.{arith}
use lib.ListN.{length}
use Rattle.octets.proofs.Tests.{never}
use Rattle.frame.specs.declared.Addresses.{Addresses}
use Rattle.frame.specs.Given.{different}
use Rattle.split.specs.Split.{is_split, count_of}
use Rattle.split.specs.Codes.{sub}
use Rattle.services.specs.declared.Phase.TheVariants.{Granted, Sending}
use Rattle.services.specs.State.{possible_at}
use Rattle.unit.specs.State as unit_states
use Rattle.unit.proofs.BoundLaws as unit_bounds
use Rattle.progress.specs.declared.Request.TheVariants as requests
use Rattle.tool.specs.Call.{begin_state, begin_result, begin_result_given}
use Rattle.tool.proofs.BoundLaws as tool_bounds
use Rattle.states.specs.Packed.{packed_unit, is_unit, no_unit, unpacked_unit, request_from}
use Rattle.host.specs.Calls.{tool_handed, tool_kept, tool_begin, tool_begin_out}
use Rattle.states.proofs.UnitLaws.{unit-none, unit-again}
use Rattle.line.specs.Line.{silent}
use Rattle.line.specs.Book as books
use Rattle.line.specs.Facts.{Facts}
use Rattle.download.specs.CableEnds as cable
use Rattle.download.specs.Demand.{Premises, StorePremise, answer_data, held_with, transfer}
use Rattle.download.proofs.Calls.{begin-string-at}
use Rattle.download.proofs.AtDifferent.{unit-at, arrival-at, wait-at}
use Rattle.download.proofs.FrameFacts as frames
use Rattle.download.proofs.UnitFacts as units
use Rattle.download.proofs.ToolFacts as tools
use Rattle.download.proofs.Theorem as theorem
use Rattle.packed.specs.PackedEnds.{ToolGiven, packed_ends}
use Rattle.packed.specs.PackedDemand.{StateBytes, lengths, output_length, packed_transfer}
use Rattle.packed.proofs.Calls.{unit-fits, unit-returns, packed_result, tool_bytes, packed_tools, unit-called, tool-arrived, tool-waited, ended-arrived}
use Rattle.packed.proofs.Calls.{ended-waited}

-- bytes that are read as a possible state are a state
none-impossible : (store : List ℕ) → unit_states.possible store no_unit ≡ false
unfolding unit_states.possible possible_at
none-impossible store = refl

is_state : (b store : List ℕ) → unit_states.possible store (unpacked_unit b) ≡ true → is_unit b ≡ true
is_state b store h = go (is_unit b) refl
  where
    go : (t : Bool) → is_unit b ≡ t → is_unit b ≡ true
    go true e = e
    go false e =
        let f : false ≡ true = sym (none-impossible store) ∙ ap (unit_states.possible store) (unit-none b no_unit e refl) ∙ h in
        never (cc)

module _ (g : Premises) (bytes : StateBytes g) where
  pub unit-is : is_unit bytes.unit ≡ true
  unit-is = is_state bytes.unit g.store (rw bytes.unit_is g.possible)

  -- the states of both ends fit their fields

  pub unit-after-fits : (n : ℕ) → n ≤ count_of (length (answer_data g)) → unit_bounds.Fits (units.unit_after g n).phase
  unit-after-fits zero h = rw bytes.unit_is at (unit-fits bytes.unit bytes.unit_bytes unit-is)
  unit-after-fits (suc k) h = go (is_split (length (answer_data g)))
    where
      go : (t : Bool) → unit_bounds.Fits (cond t (Sending g.name (sub (suc k))) Granted)
      go true = (g.four_bytes, omega (arith, frames.frames-most g))
      go false = tt

  pub unit-after-returns : (n : ℕ) → n ≤ count_of (length (answer_data g)) → unpacked_unit (packed_unit (units.unit_after g n)) ≡ units.unit_after g n
  unit-after-returns n h = unit-returns (units.unit_after g n) (unit-after-fits n h)

  held_fits : (p : ℕ) → p ≤ count_of (length (answer_data g)) → length (held_with g p) < 4294967296
  held_fits p h = omega (arith, tools.within g p h, frames.data-most g)

  pub waiting-fits : (p f : ℕ) → p ≤ count_of (length (answer_data g)) → tool_bounds.Fits (tools.waiting_tool g p f).state
  waiting-fits p f h = record { day = g.four_bytes; expected = omega (arith, frames.frames-most g); held = held_fits p h }

  pub done-fits : (f : ℕ) → tool_bounds.Fits (tools.done_tool g f).state
  done-fits f = record { day = g.four_bytes; expected = omega (arith, frames.frames-most g); held = held_fits (count_of (length (answer_data g))) (omega arith) }

  pub no-answer-fits : (p : ℕ) → p ≤ count_of (length (answer_data g)) → tool_bounds.Fits (tools.no_answer_tool g p).state
  no-answer-fits p h = record { day = g.four_bytes; expected = omega (arith, frames.frames-most g); held = held_fits p h }

  pub premise : (n : ℕ) (store : List ℕ) → n ≤ count_of (length (answer_data g)) → StorePremise g (unpacked_unit (packed_unit (units.unit_after g n))) store
      → StorePremise g (units.unit_after g n) store
  premise n store h o = rw (unit-after-returns n h) at o

  -- a waiting tool's calls on packed bytes
  pub arrived : (d : ToolGiven) (p f : ℕ) → suc p ≤ count_of (length (answer_data g)) → (x : List ℕ)
      → packed_ends.tool_arrival d (tool_bytes (tools.waiting_tool g p f)) x
      ≡ packed_tools (cable.tool_arrival (output_length d) (tools.waiting_tool g p f) x)
  arrived d p f h x = tool-arrived d (tools.waiting_tool g p f) (waiting-fits p f (omega arith)) x

  pub waited : (d : ToolGiven) (p f : ℕ) → suc p ≤ count_of (length (answer_data g))
      → packed_ends.tool_wait_end d (tool_bytes (tools.waiting_tool g p f)) ≡ packed_tools (cable.tool_wait_end (output_length d) (tools.waiting_tool g p f))
  waited d p f h = tool-waited d (tools.waiting_tool g p f) (waiting-fits p f (omega arith))

  -- and those of an ended one
  pub ended-arrival : (d : ToolGiven) (out : books.Outcome) (p f h : ℕ) (x : List ℕ) → (out ≡ books.waiting → ⊥)
      → packed_ends.tool_arrival d (tool_bytes (theorem.tool_at g out p f h)) x ≡ silent (tool_bytes (theorem.tool_at g out p f h))
  ended-arrival d books.waiting p f h x e = absurd (e refl)
  ended-arrival d books.done p f h x e = ended-arrived d (tools.done_tool g f) refl x
  ended-arrival d books.no_answer p f h x e = ended-arrived d (tools.no_answer_tool g p) refl x
  ended-arrival d books.held_off p f h x e = ended-arrived d (tools.no_answer_tool g p) refl x

  pub ended-wait-end : (d : ToolGiven) (out : books.Outcome) (p f h : ℕ) → (out ≡ books.waiting → ⊥)
      → packed_ends.tool_wait_end d (tool_bytes (theorem.tool_at g out p f h)) ≡ silent (tool_bytes (theorem.tool_at g out p f h))
  ended-wait-end d books.waiting p f h e = absurd (e refl)
  ended-wait-end d books.done p f h e = ended-waited d (tools.done_tool g f) refl
  ended-wait-end d books.no_answer p f h e = ended-waited d (tools.no_answer_tool g p) refl
  ended-wait-end d books.held_off p f h e = ended-waited d (tools.no_answer_tool g p) refl

-- at two different addresses
module _ (a : Addresses) (two : different a ≡ true) (g : Premises) (bytes : StateBytes g) where
  -- the begin on packed bytes
  pub begun-packed : (packed_transfer a g bytes).begun ≡ packed_tools (transfer a g).begun
  unfolding tool_handed tool_kept tool_begin tool_begin_out request_from begin_result_given begin_result begin_state
  begun-packed =
      rw (bytes.tool_is, two, begin-string-at a bytes.output g.tool requests.Transfer g.name, bytes.output_is, g.accepted)

  abbrev pub known : Facts cable.cable_ends (transfer a g)
  known = theorem.facts a two g

  unfoldable pub packed_facts : Facts packed_ends (packed_transfer a g bytes)
  unfolding theorem.facts
  packed_facts =
      record {
        request = known.request;
        time_reply = known.time_reply;
        unit_after = λ n o x. packed_unit (units.unit_after g n);
        tool_at = λ out p f h. tool_bytes (theorem.tool_at g out p f h);
        owed_after = known.owed_after;
        some_frame = known.some_frame;
        owed_at_most = known.owed_at_most;
        unit_starts = sym (unit-again bytes.unit bytes.unit_bytes (unit-is g bytes)) ∙ ap packed_unit bytes.unit_is;
        tool_starts = begun-packed ∙ ap packed_tools known.tool_starts;
        set_within = λ v o h. h;
        sets = λ v n o x b. absurd v;
        answers = λ c n o k x u r b y z h w.
            unit-called c (units.unit_after g n) _ (unit-after-fits g bytes n b.sent)
            ∙ ap packed_result
            (unit-at a two (lengths c) _ _ u.0
            ∙ units.answers g (lengths c) a n k (premise g bytes n c.store b.sent u.1) r y z h);
        asks_for_time = λ c n o x u r b y. absurd (omega arith);
        lacks_room = λ c n o x s u r b.
            unit-called c (units.unit_after g n) s (unit-after-fits g bytes n b.sent)
            ∙ ap packed_result
            (unit-at a two (lengths c) _ s u.0
            ∙ units.lacks-room g (lengths c) a n (premise g bytes n c.store b.sent u.1) b.sent s r);
        unit_refuses = λ c n o x s u r b.
            unit-called c (units.unit_after g n) s (unit-after-fits g bytes n b.sent)
            ∙ ap packed_result
            (unit-at a two (lengths c) _ s u.0
            ∙ units.refuses g (lengths c) a n (premise g bytes n c.store b.sent u.1) b.sent s r);
        takes = λ d p f h o w l.
            arrived g bytes d p f w.more _
            ∙ ap packed_tools
            (arrival-at a two (output_length d) (tools.waiting_tool g p f) ((transfer a g).frame (suc p)) o.0
            ∙ tools.takes g (length d.output) o.1 p f w.failed w.more a l);
        ends_done = λ d p f h o w e.
            arrived g bytes d p f w.more _
            ∙ ap packed_tools
            (arrival-at a two (output_length d) (tools.waiting_tool g p f) ((transfer a g).frame (suc p)) o.0
            ∙ tools.ends-done g (length d.output) o.1 p f w.failed w.more a e);
        ignores = λ d p f h k o w b.
            arrived g bytes d p f w.more _
            ∙ ap packed_tools
            (arrival-at a two (output_length d) (tools.waiting_tool g p f) ((transfer a g).frame (suc k)) o.0
            ∙ tools.ignores g (length d.output) o.1 p f w.failed w.more a k b);
        tool_refuses = λ d p f h s o w r.
            arrived g bytes d p f w.more s
            ∙ ap packed_tools
            (arrival-at a two (output_length d) (tools.waiting_tool g p f) s o.0
            ∙ tools.tool-refuses g (length d.output) o.1 p f w.failed w.more a s r
            ∙ sym (wait-at a two (output_length d) (tools.waiting_tool g p f) o.0))
            ∙ sym (waited g bytes d p f w.more);
        resends = λ d p f h o w l.
            waited g bytes d p f w.more
            ∙ ap packed_tools
            (wait-at a two (output_length d) (tools.waiting_tool g p f) o.0
            ∙ tools.resends g (length d.output) o.1 p f w.failed w.more a l);
        ends_no_answer = λ d p f h o w e.
            waited g bytes d p f w.more
            ∙ ap packed_tools
            (wait-at a two (output_length d) (tools.waiting_tool g p f) o.0
            ∙ tools.ends-no-answer g (length d.output) o.1 p f w.failed w.more a e);
        waits_on = λ d f h o w l. absurd (omega arith);
        ends_held_off = λ d f h o w l e. absurd (omega arith);
        ignores_time = λ d p f h o w l b. absurd (omega arith);
        ended_arrival = ended-arrival g bytes;
        ended_wait_end = ended-wait-end g bytes;
        same_itself = known.same_itself;
        same_later = known.same_later;
        same_refused = known.same_refused;
        frame_intact = known.frame_intact;
        frame_answers = known.frame_answers;
        time_no_frame = known.time_no_frame;
        time_intact = known.time_intact;
        time_at_first = known.time_at_first;
        time_not_later = known.time_not_later;
      }

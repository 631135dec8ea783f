-- The invariant of a transfer on the line, and that every allowed event preserves it.
use mathlib.Core.Path.{◌≡◌, refl}
use mathlib.Core.Bool.{Bool, true, false, cond}
use mathlib.Core.List.{List, [], ◌∷◌, ◌++◌, append-nil}
use Prim.Native.Nat.{ℕ, zero, suc, ◌+◌, ◌≤◌, ◌<◌}
use native.Mathlib.Omega.{arith}
use native.Mathlib.Nat.{add-zero}
use lib.Dec.{eqb}
use borrow.Author.Tests.{eq-eqb, ne_eqb, eqb-true, eqb-false}
use Rattle.line.specs.Line.{Result, silent, sends, Ends, End, unit_end, tool_end, System, unit_called, tool_called, unit_arrives, tool_arrives, host_acted}
use Rattle.line.specs.Line.{behind_begin, step}
use Rattle.line.specs.Line.{Change, line_changed, Event, arrives_at_unit, arrives_at_tool, wait_ends, line_changes, begin_refused, host_acts}
use Rattle.line.specs.Book.{Transfer, Outcome, waiting, done, no_answer, held_off, Book, new_book, failed_wait, while_waiting, waits_anew, fed}
use Rattle.line.specs.Book.{Run, next, run, start}
use Rattle.line.specs.Premises.{Spoils, Allowed, Unrepeated, Each}
use Rattle.line.specs.Facts.{Facts, Owes, Waits}
use Rattle.line.proofs.Cases.{by_test, by_zero, never}
use Rattle.line.proofs.Numbers.{UnitNumbers, unit_now, ToolNumbers, tool_now, book_at, sent_by, unchanged, Reached, Counts, first_counts, failed_counts}
use Rattle.line.proofs.Numbers.{time_counts, step_counts}
use Rattle.line.proofs.Queue.{empty, bare, numbered, lower, rest, changed_at, count, count-join, count-change_at}
use Rattle.line.proofs.Queue.{Strings, is_refused, asks_time, ToUnit, ToTool, Order, first_asked, other_to_unit, other_to_tool, asks_again, asks_next, sends_frame}
use Rattle.line.proofs.Queue.{sends_time}

itself : (n : ℕ) → eqb n n ≡ true
itself n = eq-eqb n n refl

-- One invariant for claims 1 and 3. Unrepeatedly is what claim 3 grants besides: no string to the tool is repeated and nothing is set.
-- For claim 1 it is the empty type, so that nothing more is asked and the budget of 78 replies says nothing.
module _ (E : Ends) (T : Transfer E) (facts : Facts E T) (Unrepeatedly : Type 0) where
  open T use {q, frame, unit_premise, tool_premise, has_room, time_most, owed}
  open facts use {request, unit_after, tool_at, time_reply, owed_after}

  abbrev pub unit_of : UnitNumbers → E.UnitState
  unit_of u = unit_after u.last u.owes u.replied

  abbrev pub tool_of : ToolNumbers → Outcome → E.ToolState
  tool_of v out = tool_at out v.taken v.failed v.time_asked

  abbrev pub strings : Strings E.String
  strings =
      record {
        request = request;
        frame = frame;
        unit_refuses = T.refused unit_end;
        tool_refuses = T.refused tool_end;
        time_reply = time_reply;
        time_most = time_most;
      }

  -- the strings on the way to the tool that ask for time
  abbrev pub asking : E.String → Bool
  asking x = cond (T.refused tool_end x) false (T.asks_time 0 x)

  -- While no frame is taken, each 78 reply that the book counted, is on the line or is still owed was owed at the begin.
  abbrev pub Budget : (owes : ℕ) → Book → List E.String → Type 0
  Budget o b ys = Unrepeatedly → b.taken ≡ 0 → b.time_asked + count asking ys + o ≤ owed

  -- The unit has these numbers; the tool, which has put out so many frames, has these numbers and this outcome.
  pub record UnitAt (u : UnitNumbers) (state : E.UnitState) : Type 0 where
    pub is : state ≡ unit_after u.last u.owes u.replied
    pub owes : Owes T u.last u.owes

  pub record ToolAt (v : ToolNumbers) (out : Outcome) (state : E.ToolState) (put_out : ℕ) : Type 0 where
    pub is : state ≡ tool_at out v.taken v.failed v.time_asked
    pub counts : Counts T v
    pub reached : Reached T v out
    pub sent : put_out ≡ sent_by v

  -- Both ends are at such numbers, and the strings on the line are in their order.
  pub record At (u : UnitNumbers) (v : ToolNumbers) (out : Outcome) (s : System E) : Type 0 where
    pub unit : UnitAt u s.unit
    pub tool : ToolAt v out s.tool s.put_out
    pub order : Order strings u.last v.taken s.to_unit s.to_tool
    pub budget : Budget u.owes (book_at v out) s.to_tool

  -- The invariant: the book is at the same outcome with the same numbers.
  pub record Invariant (r : Run E) : Type 0 where
    pub unit : UnitNumbers
    pub tool : ToolNumbers
    pub outcome : Outcome
    pub book : r.book ≡ book_at tool outcome
    pub before : r.put_out_before ≡ tool.before
    pub at : At unit tool outcome r.system

  abbrev Holds : System E → Book → ℕ → Type 0
  Holds s b before = Invariant (record { system = s; book = b; put_out_before = before })

  holds : {u : UnitNumbers} {v : ToolNumbers} {out : Outcome} {s : System E} → At u v out s → Holds s (book_at v out) v.before
  holds {u} {v} {out} k = record { unit = u; tool = v; outcome = out; book = refl; before = refl; at = k }

  -- What is to be shown of an event that takes the book from b to c and the system to s; m frames were put out before it.
  abbrev Preserved : (b : Book) (before m : ℕ) → System E → Book → Type 0
  Preserved b before m s c = Holds s c (cond (waits_anew b c) m before)

  -- the book takes no notice of the event
  unnoticed : (b : Book) (m : ℕ) {before : ℕ} {s : System E} → Holds s b before → Preserved b before m s (while_waiting b.outcome b b)
  unnoticed b m i = rw (unchanged b.outcome b, itself b.taken) i

  module _ {u : UnitNumbers} {v : ToolNumbers} {out : Outcome} {s : System E} (k : At u v out s) where
    -- What is to be shown of a string that arrives at the unit; xs is the queue to it.
    abbrev AtUnit : E.UnitGiven → List E.String → Type 0
    AtUnit c xs = Holds (unit_arrives E c s xs) (book_at v out) v.before

    -- A call leaves the unit as it was and puts nothing out; xs is left of its queue.
    unit_stays : {xs : List E.String} {call : Result E.String E.UnitState} → call ≡ silent (unit_of u) → ToUnit strings u.last v.taken xs
        → Holds (unit_called E s xs call) (book_at v out) v.before
    unit_stays e h =
        let unit : UnitAt u (unit_of u) = record { is = refl; owes = k.unit.owes } in
        rw (e, append-nil s.to_tool) (holds (record { unit = unit; tool = k.tool; order = other_to_unit k.order h; budget = k.budget }))

    -- It sends the frame that it is asked for.
    answers_now : (c : E.UnitGiven) {xs : List E.String} (i : ℕ) → unit_premise (unit_of u) c → has_room c ≡ true → u.last ≤ suc i → suc i ≤ suc v.taken
        → (i ≡ 0 → u.owes ≡ 0) → ToUnit strings (suc i) v.taken xs → AtUnit c (request (suc i) ∷ xs)
    answers_now c i o e a b z h =
        let unit : UnitAt (unit_now (suc i) u.owes true) (unit_after (suc i) u.owes true) =
        record { is = refl; owes = record { sent = omega arith; at_most = k.unit.owes.at_most } } in
        let budget : Budget u.owes (book_at v out) (s.to_tool ++ frame (suc i) ∷ []) = λ g y.
        rw (count-join asking, facts.frame_intact i (omega arith), facts.frame_answers 0 i (omega arith)) (omega (arith, k.budget g y)) in
        rw (k.unit.is, facts.answers c u.last u.owes i u.replied o e k.unit.owes a (omega arith) (omega arith) z)
        (holds (record { unit = unit; tool = k.tool; order = sends_frame k.order i a b h; budget = budget }))

    -- It owes a wait and asks for time.
    asks_for_time_now : (c : E.UnitGiven) {xs : List E.String} (o : ℕ) → unit_premise (unit_after u.last (suc o) u.replied) c → has_room c ≡ true
        → u.owes ≡ suc o → u.last ≤ 1 → ToUnit strings u.last v.taken xs → AtUnit c (request 1 ∷ xs)
    asks_for_time_now c o w e z a h =
        let l : 1 ≤ time_most = omega arith in
        let unit : UnitAt (unit_now u.last o true) (unit_after u.last o true) =
        record { is = refl; owes = record { sent = k.unit.owes.sent; at_most = omega arith } } in
        let budget : Budget o (book_at v out) (s.to_tool ++ time_reply ∷ []) = λ g y.
        rw (count-join asking, facts.time_intact l, facts.time_at_first l) (omega (arith, k.budget g y)) in
        rw (k.unit.is, z, facts.asks_for_time c u.last o u.replied w e (record { sent = k.unit.owes.sent; at_most = omega arith }) a)
        (holds (record { unit = unit; tool = k.tool; order = sends_time k.order l h; budget = budget }))

    -- A string arrives at the unit.
    at_unit : (c : E.UnitGiven) {xs : List E.String} → unit_premise (unit_of u) c → ToUnit strings u.last v.taken xs → AtUnit c xs
    at_unit c o empty = holds k
    at_unit c o (bare {x = x} r h) = unit_stays (rw k.unit.is (facts.unit_refuses c u.last u.owes u.replied x o r k.unit.owes)) h
    at_unit c o (numbered i a b h) =
        by_test (has_room c)
        (λ e.
        by_zero u.owes (λ z. answers_now c i o e a b (λ y. z) h)
        (λ w z.
        by_zero i (λ y. rw y (asks_for_time_now c w (rw z at o) e z (omega arith) (lower a h))) (λ j y. answers_now c i o e a b (λ x. absurd (omega arith)) h)))
        (λ e. unit_stays (rw k.unit.is (facts.lacks_room c u.last u.owes u.replied (request (suc i)) o e k.unit.owes)) (lower a h))

    -- A call leaves the tool as it was and puts nothing out; ys is left of its queue.
    tool_stays : {ys : List E.String} {call : Result E.String E.ToolState} (arrivals : ℕ) → call ≡ silent (tool_of v out) → ToTool strings u.last ys
        → Budget u.owes (book_at v out) ys → Preserved (book_at v out) v.before s.put_out (tool_called E s ys arrivals call) (book_at v out)
    tool_stays arrivals e h b =
        let tool : ToolAt v out (tool_of v out) s.put_out =
        record { is = refl; counts = k.tool.counts; reached = k.tool.reached; sent = k.tool.sent } in
        rw (e, itself (book_at v out).taken, append-nil s.to_unit, add-zero s.put_out)
        (holds (record { unit = k.unit; tool = tool; order = other_to_tool k.order h; budget = b }))

    -- A string arrives at a tool that has ended, or a wait ends there.
    ended_arrival : (d : E.ToolGiven) (ys : List E.String) → (out ≡ waiting → ⊥) → ToTool strings u.last ys → Budget u.owes (book_at v out) ys
        → Preserved (book_at v out) v.before s.put_out (tool_arrives E d s ys) (book_at v out)
    ended_arrival d [] e h b = rw (itself (book_at v out).taken) (holds k)
    ended_arrival d (x ∷ ys) e h b =
        tool_stays (suc s.tool_arrivals) (rw k.tool.is (facts.ended_arrival d out v.taken v.failed v.time_asked x e)) (rest h)
        (λ g y. omega (arith, b g y))

    ended_wait_end : (d : E.ToolGiven) → (out ≡ waiting → ⊥)
        → Preserved (book_at v out) v.before s.put_out (step E (wait_ends d) s) (book_at v out)
    ended_wait_end d e =
        tool_stays s.tool_arrivals (rw k.tool.is (facts.ended_wait_end d out v.taken v.failed v.time_asked e)) k.order.to_tool k.budget

  -- What is to be shown of an arrival at a tool that waits; ys is the queue to it.
  abbrev Arrives : E.ToolGiven → System E → ToolNumbers → List E.String → Type 0
  Arrives d s v ys = Preserved (book_at v waiting) v.before s.put_out (tool_arrives E d s ys) (fed E T (arrives_at_tool d) ys (book_at v waiting))

  module _ (d : E.ToolGiven) (o : tool_premise d) {u : UnitNumbers} {s : System E} where
    -- A failed wait; ys is left of the queue to the tool.
    fails : {v : ToolNumbers} {ys : List E.String} (arrivals : ℕ) → At u v waiting s → ToTool strings u.last ys → Budget u.owes (book_at v waiting) ys
        → Preserved (book_at v waiting) v.before s.put_out (tool_called E s ys arrivals (E.tool_wait_end d (tool_of v waiting)))
        (failed_wait (book_at v waiting))
    fails {v} arrivals k h b =
        by_test (eqb (suc v.failed) 3)
        (λ e.
        let t : suc v.failed ≡ 3 = eqb-true (suc v.failed) 3 e in
        let tool : ToolAt v no_answer (tool_of v no_answer) s.put_out = record { is = refl; counts = k.tool.counts; reached = t; sent = k.tool.sent } in
        rw (
          itself v.taken,
          facts.ends_no_answer d v.taken v.failed v.time_asked o k.tool.counts.waits t,
          e,
          append-nil s.to_unit,
          add-zero s.put_out,
        )
        (holds (record { unit = k.unit; tool = tool; order = other_to_tool k.order h; budget = b })))
        (λ e.
        let t : suc v.failed < 3 = omega (arith, eqb-false (suc v.failed) 3 e) in
        let w : ToolNumbers = tool_now v.taken (suc v.failed) v.time_asked v.before in
        let tool : ToolAt w waiting (tool_of w waiting) (s.put_out + 1) =
        record { is = refl; counts = failed_counts T k.tool.counts t; reached = tt; sent = omega arith } in
        rw (itself v.taken, facts.resends d v.taken v.failed v.time_asked o k.tool.counts.waits t, e)
        (holds (record { unit = k.unit; tool = tool; order = asks_again (other_to_tool k.order h); budget = b })))

    -- The expected frame, which the unit has sent, arrives.
    steps_forward : {v : ToolNumbers} {ys : List E.String} → At u v waiting s → suc v.taken ≤ u.last → ToTool strings u.last ys
        → Arrives d s v (frame (suc v.taken) ∷ ys)
    steps_forward {v} k sent h =
        by_test (eqb (suc v.taken) q)
        (λ e.
        let t : suc v.taken ≡ q = eqb-true (suc v.taken) q e in
        let tool : ToolAt v done (tool_of v done) (sent_by v) = record { is = refl; counts = k.tool.counts; reached = t; sent = refl } in
        rw (facts.same_itself (suc v.taken), e, ne_eqb (suc v.taken) v.taken (λ z. omega arith), k.tool.is)
        (rw (facts.ends_done d v.taken v.failed v.time_asked o k.tool.counts.waits t, append-nil s.to_unit, add-zero s.put_out, k.tool.sent)
        (holds (record { unit = k.unit; tool = tool; order = other_to_tool k.order h; budget = λ g z. absurd (omega arith) }))))
        (λ e.
        let t : suc v.taken < q = omega (arith, eqb-false (suc v.taken) q e) in
        let w : ToolNumbers = tool_now (suc v.taken) 0 0 (sent_by v) in
        let tool : ToolAt w waiting (tool_of w waiting) (sent_by v + 1) =
        record { is = refl; counts = step_counts T k.tool.counts t; reached = tt; sent = omega arith } in
        rw (facts.same_itself (suc v.taken), e, ne_eqb (suc v.taken) v.taken (λ z. omega arith), k.tool.is)
        (rw (facts.takes d v.taken v.failed v.time_asked o k.tool.counts.waits t, k.tool.sent)
        (holds (record { unit = k.unit; tool = tool; order = asks_next (other_to_tool k.order h) sent; budget = λ g z. absurd (omega arith) }))))

    module _ {ys : List E.String} (f h m : ℕ) (k : At u (tool_now 0 f h m) waiting s) (l : 1 ≤ time_most) (c : ToTool strings u.last ys)
        (b : Budget u.owes (book_at (tool_now 0 f h m) waiting) (time_reply ∷ ys)) where
      -- the reply leaves the line, and the book counts it
      counted : Unrepeatedly → suc h + count asking ys + u.owes ≤ owed
      counted g = omega (arith, rw (facts.time_intact l, facts.time_at_first l) at (b g refl))

      abbrev called : System E
      called = tool_called E s ys (suc s.tool_arrivals) (E.tool_arrival d (tool_at waiting 0 f h) time_reply)

      -- A 78 reply arrives before the first frame, and it is the twenty-first, or another.
      ends_held_off_now : h ≡ time_most → Holds called (book_at (tool_now 0 f h m) held_off) m
      ends_held_off_now t =
          let tool : ToolAt (tool_now 0 f h m) held_off (tool_at held_off 0 f h) s.put_out =
          record { is = refl; counts = k.tool.counts; reached = (t, refl, l); sent = k.tool.sent } in
          rw (facts.ends_held_off d f h o k.tool.counts.waits l t, append-nil s.to_unit, add-zero s.put_out)
          (holds (record { unit = k.unit; tool = tool; order = other_to_tool k.order c; budget = λ g z. counted g }))

      waits_on_now : suc h ≤ time_most → Holds called (book_at (tool_now 0 f (suc h) m) waiting) m
      waits_on_now t =
          let tool : ToolAt (tool_now 0 f (suc h) m) waiting (tool_at waiting 0 f (suc h)) (s.put_out + 1) =
          record { is = refl; counts = time_counts T k.tool.counts refl t; reached = tt; sent = omega arith } in
          rw (facts.waits_on d f h o k.tool.counts.waits t)
          (holds (record { unit = k.unit; tool = tool; order = asks_again (other_to_tool k.order c); budget = λ g z. counted g }))

      time_at_first : Arrives d s (tool_now 0 f h m) (time_reply ∷ ys)
      time_at_first =
          rw (facts.time_no_frame l 0 k.tool.counts.waits.more, facts.time_intact l, facts.time_at_first l, k.tool.is)
          (by_test (eqb (suc h) (suc time_most))
          (λ e. rw e (ends_held_off_now (omega (arith, eqb-true (suc h) (suc time_most) e))))
          (λ e. rw e (waits_on_now (omega (arith, eqb-false (suc h) (suc time_most) e)))))

    -- Behind the first frame it is ignored.
    time_later : {ys : List E.String} (p f h m : ℕ) → At u (tool_now (suc p) f h m) waiting s → 1 ≤ time_most → ToTool strings u.last ys
        → Arrives d s (tool_now (suc p) f h m) (time_reply ∷ ys)
    time_later p f h m k l c =
        rw (facts.time_no_frame l (suc p) k.tool.counts.waits.more, facts.time_intact l, facts.time_not_later l p)
        (tool_stays k (suc s.tool_arrivals) (rw k.tool.is (facts.ignores_time d (suc p) f h o k.tool.counts.waits l (omega arith))) c
        (λ g z. absurd (omega arith)))

    time_arrives : {ys : List E.String} (p f h m : ℕ) → At u (tool_now p f h m) waiting s → 1 ≤ time_most → ToTool strings u.last ys
        → Budget u.owes (book_at (tool_now p f h m) waiting) (time_reply ∷ ys) → Arrives d s (tool_now p f h m) (time_reply ∷ ys)
    time_arrives zero f h m k l c b = time_at_first f h m k l c b
    time_arrives (suc p) f h m k l c b = time_later p f h m k l c

    -- A string arrives at a tool that waits.
    waiting_arrival : {v : ToolNumbers} {ys : List E.String} → At u v waiting s → ToTool strings u.last ys → Budget u.owes (book_at v waiting) ys
        → Arrives d s v ys
    waiting_arrival {v} k empty b = unnoticed (book_at v waiting) s.put_out (holds k)
    waiting_arrival {v} k (bare {x = x} (is_refused r) c) b =
        let w : Waits T v.taken v.failed v.time_asked = k.tool.counts.waits in
        rw (facts.same_refused x v.taken w.more r, r, k.tool.is, facts.tool_refuses d v.taken v.failed v.time_asked x o w r)
        (fails (suc s.tool_arrivals) k c (λ g z. omega (arith, b g z)))
    waiting_arrival {v} k (bare (asks_time a) c) b = time_arrives v.taken v.failed v.time_asked v.before k a c b
    waiting_arrival {v} k (numbered i l n c) b =
        let w : Waits T v.taken v.failed v.time_asked = k.tool.counts.waits in
        by_test (eqb i v.taken)
        (λ e.
        let t : i ≡ v.taken = eqb-true i v.taken e in
        rw t (steps_forward k (omega arith) (lower l c)))
        (λ e.
        let t : suc i ≤ v.taken = omega (arith, eqb-false i v.taken e) in
        rw (facts.same_later i (suc v.taken) (omega arith) w.more, facts.frame_intact i (omega arith), facts.frame_answers v.taken i (omega arith))
        (tool_stays k (suc s.tool_arrivals) (rw k.tool.is (facts.ignores d v.taken v.failed v.time_asked i o w t)) (lower l c)
        (λ g z. omega (arith, b g z))))

  -- What is to be shown of an event.
  abbrev PreservedBy : Event E → ToolNumbers → Outcome → System E → Type 0
  PreservedBy e v out s = Preserved (book_at v out) v.before s.put_out (step E e s) (fed E T e s.to_tool (book_at v out))

  module _ (d : E.ToolGiven) (o : tool_premise d) {u : UnitNumbers} {v : ToolNumbers} where
    -- A string arrives at the tool, or a wait ends.
    at_tool : (out : Outcome) {s : System E} → At u v out s → PreservedBy (arrives_at_tool d) v out s
    at_tool waiting k = waiting_arrival d o k k.order.to_tool k.budget
    at_tool done {s} k = ended_arrival k d s.to_tool (λ z. never (cc)) k.order.to_tool k.budget
    at_tool no_answer {s} k = ended_arrival k d s.to_tool (λ z. never (cc)) k.order.to_tool k.budget
    at_tool held_off {s} k = ended_arrival k d s.to_tool (λ z. never (cc)) k.order.to_tool k.budget

    at_wait_end : (out : Outcome) {s : System E} → At u v out s → PreservedBy (wait_ends d) v out s
    at_wait_end waiting {s} k = rw k.tool.is (fails d o s.tool_arrivals k k.order.to_tool k.budget)
    at_wait_end done k = ended_wait_end k d (λ z. never (cc))
    at_wait_end no_answer k = ended_wait_end k d (λ z. never (cc))
    at_wait_end held_off k = ended_wait_end k d (λ z. never (cc))

  -- a refused string does not ask for time
  refused_is_silent : (x : E.String) → T.refused tool_end x ≡ true → asking x ≡ false
  refused_is_silent x r = rw r

  -- A string on the line is changed.
  at_change : (end : End) (i : ℕ) (c : Change E.String) → Spoils (T.refused end) c → (Unrepeatedly → Unrepeated E T (line_changes end i c))
      → {u : UnitNumbers} {v : ToolNumbers} {out : Outcome} {s : System E} → At u v out s → At u v out (line_changed E s end i c)
  at_change unit_end i c o n k =
      record { unit = k.unit; tool = k.tool; order = other_to_unit k.order (changed_at (λ x r. r) c o i k.order.to_unit); budget = k.budget }
  at_change tool_end i c o n {s = s} k =
      record {
        unit = k.unit;
        tool = k.tool;
        order = other_to_tool k.order (changed_at (λ x r. is_refused r) c o i k.order.to_tool);
        budget = λ g z. omega (arith, k.budget g z, count-change_at asking refused_is_silent c o (n g) i s.to_tool);
      }

  -- The host sets the waits owed.
  at_host : (a : E.HostGiven) → (Unrepeatedly → ⊥) → {u : UnitNumbers} {v : ToolNumbers} {out : Outcome} {s : System E} → At u v out s
      → At (unit_now u.last (owed_after a u.owes) u.replied) v out (host_acted E s (E.host_sets a s.unit))
  at_host a n {u} {s = s} k =
      let unit : UnitAt (unit_now u.last (owed_after a u.owes) u.replied) (E.host_sets a s.unit) =
      record {
        is = rw k.unit.is (facts.sets a u.last u.owes u.replied k.unit.owes);
        owes = record { sent = k.unit.owes.sent; at_most = facts.set_within a u.owes k.unit.owes.at_most };
      } in
      record { unit = unit; tool = k.tool; order = k.order; budget = λ g z. absurd (n g) }

  -- what is granted of an event
  abbrev pub Granted : Event E → System E → Type 0
  Granted e s = Allowed E T e s × (Unrepeatedly → Unrepeated E T e)

  -- Every allowed event preserves the invariant. The book takes no notice of a string at the unit, a change, a refused begin or the host.
  preserved_at : (e : Event E) {u : UnitNumbers} {v : ToolNumbers} (out : Outcome) {s : System E} → At u v out s → Granted e s → PreservedBy e v out s
  preserved_at (arrives_at_unit c) {v = v} out {s} k o = unnoticed (book_at v out) s.put_out (at_unit k c (rw k.unit.is at o.0) k.order.to_unit)
  preserved_at (arrives_at_tool d) out k o = at_tool d o.0 out k
  preserved_at (wait_ends d) out k o = at_wait_end d o.0 out k
  preserved_at (line_changes end i c) {v = v} out {s} k o = unnoticed (book_at v out) s.put_out (holds (at_change end i c o.0 o.1 k))
  preserved_at (begin_refused b) {v = v} out {s} k o = unnoticed (book_at v out) s.put_out (holds k)
  preserved_at (host_acts a) {v = v} out {s} k o = unnoticed (book_at v out) s.put_out (holds (at_host a o.1 k))

  preserved : (e : Event E) (r : Run E) → Invariant r → Granted e r.system → Invariant (next E T e r)
  preserved e r i o = rw (i.book, i.before) (preserved_at e i.outcome i.at o)

  preserved_by_all : (es : List (Event E)) (r : Run E) → Invariant r → Each E Granted es r.system → Invariant (run E T es r)
  preserved_by_all [] r i o = i
  preserved_by_all (e ∷ es) r i o = preserved_by_all es (next E T e r) (preserved e r i o.0) o.1

  -- It holds behind the accepted begin, and so after every such list of events.
  started_at : {w : E.UnitState} {call : Result E.String E.ToolState} → w ≡ unit_after 0 owed false → call ≡ sends (tool_at waiting 0 0 0) (request 1)
      → Holds (behind_begin E w call) new_book 0
  started_at e f =
      let unit : UnitAt (unit_now 0 owed false) (unit_after 0 owed false) =
      record { is = refl; owes = record { sent = omega arith; at_most = facts.owed_at_most } } in
      let tool : ToolAt (tool_now 0 0 0 0) waiting (tool_at waiting 0 0 0) 1 =
      record { is = refl; counts = first_counts T facts.some_frame; reached = tt; sent = refl } in
      rw (e, f) (holds (record { unit = unit; tool = tool; order = first_asked strings; budget = λ g z. omega arith }))

  pub always : (es : List (Event E)) → Each E Granted es (start E T).system → Invariant (run E T es (start E T))
  always es o = preserved_by_all es (start E T) (started_at facts.unit_starts facts.tool_starts) o

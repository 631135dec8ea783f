-- Demand 3: the facts about the two cable ends, and what they give after every list of events.
use Prim.Native.Nat.{ℕ, suc, ◌+◌, ◌≤◌}
use mathlib.Core.Bool.{true}
use mathlib.Core.List.{List, []}
use mathlib.Core.Path.{◌≡◌, refl, sym, ap, ◌∙◌}
use mathlib.Core.Logic.{◌↔◌}
use native.Mathlib.Omega.{arith}
use lib.ListN.{length, take, drop}
use lib.Seq.{drop-append_seam}
use Rattle.octets.specs.Buffer.{front}
use Rattle.octets.proofs.BufferLaws.{take-front}
use Rattle.frame.specs.declared.Addresses.{Addresses}
use Rattle.frame.specs.Frame.{lab}
use Rattle.frame.specs.Given.{different}
use Rattle.frame.proofs.GivenLaws.{different-ones}
use Rattle.split.specs.Split.{count_of}
use Rattle.progress.specs.declared.Request.TheVariants as requests
use Rattle.progress.specs.declared.Outcome.TheVariants.{Waiting, Done, NoAnswer}
use Rattle.requests.specs.Sent.{frame_sent}
use Rattle.tool.specs.Call.{begin_state, begin_sent, begin_result}
use Rattle.line.specs.Line.{silent, sends, Event}
use Rattle.line.specs.Book as books
use Rattle.line.specs.Book.{Run, run, start}
use Rattle.line.specs.Premises.{AllAllowed, AllClean}
use Rattle.line.specs.Claims.{AfterAllowed, AfterClean, ToolAs}
use Rattle.line.proofs.Cases.{never}
use Rattle.line.specs.Facts.{Facts}
use Rattle.line.proofs.Laws as laws
use Rattle.line.proofs.Clean as clean_laws
use Rattle.line.proofs.Theorem as line_theorem
use Rattle.download.specs.CableEnds.{ToolGiven, ToolRoom, cable_ends}
use Rattle.download.specs.Demand.{Premises, answer_data, held_with, transfer, outcome_of, Agrees, AgreesClean, Claim, Demand3}
use Rattle.download.proofs.AtDifferent.{unit-at, arrival-at, wait-at, begun-at, arrival-stays, wait-stays}
use Rattle.download.proofs.FrameFacts as frames
use Rattle.download.proofs.UnitFacts as units
use Rattle.download.proofs.ToolFacts as tools

-- the tool at an outcome of the book; "held off" never comes
abbrev pub tool_at : Premises → books.Outcome → (p f h : ℕ) → ToolRoom
tool_at g books.waiting p f h = tools.waiting_tool g p f
tool_at g books.done p f h = tools.done_tool g f
tool_at g books.no_answer p f h = tools.no_answer_tool g p
tool_at g books.held_off p f h = tools.no_answer_tool g p

-- an ended tool stays as it is, whatever addresses a call is given
module _ (g : Premises) (d : ToolGiven) where
  pub ended-arrival : (out : books.Outcome) (p f h : ℕ) (x : List ℕ) → (out ≡ books.waiting → ⊥)
      → cable_ends.tool_arrival d (tool_at g out p f h) x ≡ silent (tool_at g out p f h)
  ended-arrival books.waiting p f h x e = absurd (e refl)
  ended-arrival books.done p f h x e = arrival-stays (tools.done_tool g f) d x (tools.done-arrival g d.addresses d.output f x)
  ended-arrival books.no_answer p f h x e = arrival-stays (tools.no_answer_tool g p) d x (tools.no-answer-arrival g d.addresses d.output p x)
  ended-arrival books.held_off p f h x e = arrival-stays (tools.no_answer_tool g p) d x (tools.no-answer-arrival g d.addresses d.output p x)

  pub ended-wait-end : (out : books.Outcome) (p f h : ℕ) → (out ≡ books.waiting → ⊥)
      → cable_ends.tool_wait_end d (tool_at g out p f h) ≡ silent (tool_at g out p f h)
  ended-wait-end books.waiting p f h e = absurd (e refl)
  ended-wait-end books.done p f h e = wait-stays (tools.done_tool g f) d (tools.done-wait-end g d.addresses d.output f)
  ended-wait-end books.no_answer p f h e = wait-stays (tools.no_answer_tool g p) d (tools.no-answer-wait-end g d.addresses d.output p)
  ended-wait-end books.held_off p f h e = wait-stays (tools.no_answer_tool g p) d (tools.no-answer-wait-end g d.addresses d.output p)

module _ (a : Addresses) (two : different a ≡ true) (g : Premises) where
  -- an accepted begin sends the request and waits for frame 1
  pub begun-is : (transfer a g).begun ≡ sends (tools.waiting_tool g 0 0) (frame_sent a requests.Transfer g.name 1)
  unfolding begin_result begin_state begin_sent front
  begun-is = begun-at a two _ _ refl ∙ rw (g.accepted, frames.strings-asked a g.name 1)

  unfoldable pub facts : Facts cable_ends (transfer a g)
  facts =
      record {
        request = frame_sent a requests.Transfer g.name;
        time_reply = [];
        unit_after = λ n o x. units.unit_after g n;
        tool_at = tool_at g;
        owed_after = λ v o. o;
        some_frame = frames.some-frame g;
        owed_at_most = omega arith;
        unit_starts = refl;
        tool_starts = begun-is;
        set_within = λ v o h. h;
        sets = λ v n o x b. absurd v;
        answers = λ c n o k x u l b y z h w. unit-at a two c _ _ u.0 ∙ units.answers g c a n k u.1 l y z h;
        asks_for_time = λ c n o x u l b y. absurd (omega arith);
        lacks_room = λ c n o x s u l b. unit-at a two c _ s u.0 ∙ units.lacks-room g c a n u.1 b.sent s l;
        unit_refuses = λ c n o x s u r b. unit-at a two c _ s u.0 ∙ units.refuses g c a n u.1 b.sent s r;
        takes = λ d p f h o w l.
            arrival-at a two d (tools.waiting_tool g p f) ((transfer a g).frame (suc p)) o.0
            ∙ tools.takes g d.output o.1 p f w.failed w.more a l;
        ends_done = λ d p f h o w e.
            arrival-at a two d (tools.waiting_tool g p f) ((transfer a g).frame (suc p)) o.0
            ∙ tools.ends-done g d.output o.1 p f w.failed w.more a e;
        ignores = λ d p f h k o w b.
            arrival-at a two d (tools.waiting_tool g p f) ((transfer a g).frame (suc k)) o.0
            ∙ tools.ignores g d.output o.1 p f w.failed w.more a k b;
        tool_refuses = λ d p f h s o w r.
            arrival-at a two d (tools.waiting_tool g p f) s o.0
            ∙ tools.tool-refuses g d.output o.1 p f w.failed w.more a s r
            ∙ sym (wait-at a two d (tools.waiting_tool g p f) o.0);
        resends = λ d p f h o w l.
            wait-at a two d (tools.waiting_tool g p f) o.0
            ∙ tools.resends g d.output o.1 p f w.failed w.more a l;
        ends_no_answer = λ d p f h o w e.
            wait-at a two d (tools.waiting_tool g p f) o.0
            ∙ tools.ends-no-answer g d.output o.1 p f w.failed w.more a e;
        waits_on = λ d f h o w l. absurd (omega arith);
        ends_held_off = λ d f h o w l e. absurd (omega arith);
        ignores_time = λ d p f h o w l b. absurd (omega arith);
        ended_arrival = ended-arrival g;
        ended_wait_end = ended-wait-end g;
        same_itself = frames.same-itself g a;
        same_later = frames.same-later g a;
        same_refused = λ x k h r. frames.same-refused g a x (suc k) r;
        frame_intact = λ k h. frames.frame-intact g a (suc k);
        frame_answers = λ p k h. refl;
        time_no_frame = λ l k h. absurd (omega arith);
        time_intact = λ l. absurd (omega arith);
        time_at_first = λ l. absurd (omega arith);
        time_not_later = λ l p. absurd (omega arith);
      }

-- The tool's outcome and the book's
done-both : (o : books.Outcome) → (outcome_of o ≡ Done) ↔ (o ≡ books.done)
done-both books.waiting = ((λ z. never (cc)), (λ z. never (cc)))
done-both books.done = ((λ z. refl), (λ z. refl))
done-both books.no_answer = ((λ z. never (cc)), (λ z. never (cc)))
done-both books.held_off = ((λ z. never (cc)), (λ z. never (cc)))

no-answer-both : (o : books.Outcome) → (outcome_of o ≡ NoAnswer) ↔ (o ≡ books.no_answer)
no-answer-both books.waiting = ((λ z. never (cc)), (λ z. never (cc)))
no-answer-both books.done = ((λ z. never (cc)), (λ z. never (cc)))
no-answer-both books.no_answer = ((λ z. refl), (λ z. refl))
no-answer-both books.held_off = ((λ z. never (cc)), (λ z. never (cc)))

waiting-both : (o : books.Outcome) → outcome_of o ≡ Waiting → o ≡ books.waiting
waiting-both books.waiting z = refl
waiting-both books.done z = never (cc)
waiting-both books.no_answer z = never (cc)
waiting-both books.held_off z = never (cc)

module _ (a : Addresses) (two : different a ≡ true) (g : Premises) where
  -- what the tool holds in its room
  pub record InRoom (t : ToolRoom) (p : ℕ) : Type 0 where
    pub held_length : t.state.held ≡ length (held_with g p)
    pub held : take t.state.held t.room ≡ held_with g p
    pub behind : drop t.state.held t.room ≡ drop t.state.held g.room

  in-room : (t : ToolRoom) (p : ℕ) → t.state.held ≡ length (held_with g p) → t.room ≡ front (held_with g p) g.room → InRoom t p
  unfolding front
  in-room t p h r =
      record {
        held_length = h;
        held = rw (h, r) (take-front (length (held_with g p)) (held_with g p) g.room refl);
        behind = rw (h, r) (drop-append_seam (held_with g p) (drop (length (held_with g p)) g.room));
      }

  -- the tool at each outcome of the book
  pub record ToolAt (r : Run cable_ends) : Type 0 where
    pub outcome : r.system.tool.state.outcome ≡ outcome_of r.book.outcome
    pub room : InRoom r.system.tool r.book.taken
    pub sendings : r.put_out_before + r.system.tool.state.sendings ≡ r.system.put_out

  pub tool-at : (r : Run cable_ends) (o : books.Outcome) → r.book.outcome ≡ o
      → ToolAs cable_ends (transfer a g) (facts a two g) r.system.tool r.system.put_out r.put_out_before r.book.taken r.book.failed
      r.book.time_asked o
      → AfterAllowed cable_ends (transfer a g) r → ToolAt r
  unfolding facts
  tool-at r books.waiting e t w =
      record {
        outcome = rw (t, e);
        room = in-room r.system.tool r.book.taken (rw t) (rw t);
        sendings = rw t (sym (line_theorem.sent-waiting refl w e));
      }
  tool-at r books.done e t w =
      let q : r.book.taken ≡ count_of (length (answer_data g)) = w.done_at_q.0 e in
      record {
        outcome = rw (t.is, e);
        room = in-room r.system.tool r.book.taken (rw (t.is, q)) (rw (t.is, q));
        sendings = rw t.is (sym (line_theorem.sent-done refl (facts a two g) t));
      }
  tool-at r books.no_answer e t w =
      record {
        outcome = rw (t, e);
        room = in-room r.system.tool r.book.taken (rw t) (rw t);
        sendings = rw t (sym (line_theorem.sent-no-answer refl w e));
      }
  tool-at r books.held_off e t w = absurd (line_theorem.never-held-off refl w e)

  -- the unit by the last number that it sent
  pub record UnitAt (r : Run cable_ends) : Type 0 where
    pub last : ℕ
    pub most : last ≤ count_of (length (answer_data g))
    pub is : r.system.unit ≡ units.unit_after g last

  pub agrees_at : (r : Run cable_ends) → ToolAt r → UnitAt r → AfterAllowed cable_ends (transfer a g) r → Agrees a g r
  agrees_at r t u w =
      let o : books.Outcome = r.book.outcome in
      let d : r.system.tool.state.outcome ≡ Done → o ≡ books.done = λ z. (done-both o).0 (sym t.outcome ∙ z) in
      record {
        outcome = t.outcome;
        never_held_off = line_theorem.never-held-off refl w;
        held_length = t.room.held_length;
        held = t.room.held;
        behind = t.room.behind;
        beginning = t.room.held ∙ frames.held-front g r.book.taken w.taken_at_most ∙ ap (λ (n : ℕ). take n g.answer) (sym t.room.held_length);
        done_at_q = ((λ z. w.done_at_q.0 (d z)), (λ z. t.outcome ∙ (done-both o).1 (w.done_at_q.1 z)));
        whole = λ z. t.room.held ∙ ap (held_with g) (w.done_at_q.0 (d z)) ∙ frames.held_all g;
        no_answer_at_three = (
          (λ z. w.no_answer_at_three.0 ((no-answer-both o).0 (sym t.outcome ∙ z))),
          (λ z. t.outcome ∙ (no-answer-both o).1 (w.no_answer_at_three.1 z)),
        );
        put_out_at_most = line_theorem.three-each refl w;
        sendings = t.sendings;
        unit_kind = rw u.is (units.kind-after g u.last);
        unit_rate = rw u.is (units.rate-after g u.last);
        unit_granted = rw u.is (units.granted-after g u.last);
        unit_possible = rw u.is (units.possible-before g u.last u.most);
      }

  pub clean_at : (r : Run cable_ends) → Agrees a g r → AfterClean cable_ends (transfer a g) r → AgreesClean a g r
  clean_at r k w =
      let o : books.Outcome = r.book.outcome in
      record {
        agrees = k;
        done_at_arrival = (
          (λ z. (line_theorem.done-at-q refl refl w).0 ((done-both o).0 (sym k.outcome ∙ z))),
          (λ z. k.outcome ∙ (done-both o).1 ((line_theorem.done-at-q refl refl w).1 z)),
        );
        never_empty = λ z e. absurd (omega (arith, w.one_string (waiting-both o (sym k.outcome ∙ z)), ap length e));
        never_no_answer = λ z. w.never_no_answer ((no-answer-both o).0 (sym k.outcome ∙ z));
        in_time = λ z. k.outcome ∙ (done-both o).1 (line_theorem.in-time refl refl w z);
      }

  allowed : (es : List (Event cable_ends)) → AllAllowed cable_ends (transfer a g) es (start cable_ends (transfer a g)).system
      → Agrees a g (run cable_ends (transfer a g) es (start cable_ends (transfer a g)))
  unfolding facts
  allowed es o =
      let r : Run cable_ends = run cable_ends (transfer a g) es (start cable_ends (transfer a g)) in
      let w = laws.after-allowed cable_ends (transfer a g) (facts a two g) es o in
      let both = laws.agrees cable_ends (transfer a g) (facts a two g) es o in
      let unit : UnitAt r = record { last = both.last; most = both.bounds.sent; is = both.unit } in
      agrees_at r (tool-at r r.book.outcome refl both.tool w) unit w

  clean : (es : List (Event cable_ends)) → AllClean cable_ends (transfer a g) es (start cable_ends (transfer a g)).system
      → AgreesClean a g (run cable_ends (transfer a g) es (start cable_ends (transfer a g)))
  clean es o =
      let r : Run cable_ends = run cable_ends (transfer a g) es (start cable_ends (transfer a g)) in
      clean_at r (allowed es (clean_laws.all-clean-allowed cable_ends (transfer a g) es (start cable_ends (transfer a g)).system o))
      (clean_laws.after-clean cable_ends (transfer a g) (facts a two g) es o)

-- one claim about every list, for any two different addresses
pub demand3 : Demand3
demand3 a n g es = let two = different-ones a n in record { allowed = allowed a two g es; clean = clean a two g es }

-- at the lab's addresses
pub demand3-lab : (g : Premises) (es : List (Event cable_ends)) → Claim lab g es
demand3-lab = demand3 lab (λ e. omega arith)

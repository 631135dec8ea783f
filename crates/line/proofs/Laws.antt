-- Claims 1 and 3, read from the invariant.
use mathlib.Core.Path.{◌≡◌, refl}
use mathlib.Core.Bool.{true}
use mathlib.Core.List.{List, [], ◌∷◌}
use Prim.Native.Nat.{ℕ, suc}
use native.Mathlib.Omega.{arith}
use Rattle.line.specs.Line.{Ends, System, Event, step}
use Rattle.line.specs.Book.{Transfer, Outcome, waiting, done, no_answer, held_off, Book, Run, run, start}
use Rattle.line.specs.Premises.{Each, AllAllowed, AllPlain}
use Rattle.line.specs.Facts.{Facts}
use Rattle.line.specs.Claims.{unnumbered, AfterAllowed, AfterPlain, ToolIs, EndsAgree}
use Rattle.line.proofs.Cases.{never}
use Rattle.line.proofs.Queue.{BareToTool, is_refused, asks_time, every}
use Rattle.line.proofs.Numbers.{UnitNumbers, ToolNumbers, book_at, sent_by, Reached, Counts, with_replies}
use Rattle.line.proofs.Invariant.{strings, At, Invariant, Granted, always}

module _ (E : Ends) (T : Transfer E) (facts : Facts E T) (Unrepeatedly : Type 0) where
  open facts use {tool_at}

  -- the strings without a number, as the statement tests them
  is_unnumbered : (x : E.String) → BareToTool (strings E T facts Unrepeatedly) x → unnumbered E T x ≡ true
  is_unnumbered x (is_refused r) = rw r
  is_unnumbered x (asks_time l) = rw (facts.time_intact l, facts.time_at_first l)

  -- The claims at each outcome.
  module _ {u : UnitNumbers} {v : ToolNumbers} {s : System E} where
    claims_waiting : At E T facts Unrepeatedly u v waiting s → AfterAllowed E T (record { system = s; book = book_at v waiting; put_out_before = v.before })
    claims_waiting k =
        record {
          taken_at_most = omega arith;
          failed_at_most = omega arith;
          time_asked_at_most = omega arith;
          done_at_q = ((λ z. never (cc)), (λ z. absurd (omega arith)));
          no_answer_at_three = ((λ z. never (cc)), (λ z. absurd (omega arith)));
          held_off_behind_most = ((λ z. never (cc)), (λ z. absurd (omega arith)));
          held_off_some = λ z. never (cc);
          time_before_first = k.tool.counts.only_first;
          sent_waiting = λ z. k.tool.sent;
          sent_no_answer = λ z. never (cc);
          sent_held_off = λ z. never (cc);
          put_out_at_most = omega (arith, with_replies T k.tool.counts);
          none_above = every 1 (suc v.taken) is_unnumbered (omega arith) (omega arith) k.order.to_tool;
        }

    claims_done : At E T facts Unrepeatedly u v done s → AfterAllowed E T (record { system = s; book = book_at v done; put_out_before = v.before })
    claims_done k =
        record {
          taken_at_most = omega arith;
          failed_at_most = omega arith;
          time_asked_at_most = omega arith;
          done_at_q = ((λ z. k.tool.reached), (λ z. refl));
          no_answer_at_three = ((λ z. never (cc)), (λ z. absurd (omega arith)));
          held_off_behind_most = ((λ z. never (cc)), (λ z. absurd (omega arith)));
          held_off_some = λ z. never (cc);
          time_before_first = λ l. refl;
          sent_waiting = λ z. never (cc);
          sent_no_answer = λ z. never (cc);
          sent_held_off = λ z. never (cc);
          put_out_at_most = omega (arith, with_replies T k.tool.counts);
          none_above = every 1 (suc (suc v.taken)) is_unnumbered (omega arith) (omega arith) k.order.to_tool;
        }

    claims_no_answer : At E T facts Unrepeatedly u v no_answer s → AfterAllowed E T (record { system = s; book = book_at v no_answer; put_out_before = v.before })
    claims_no_answer k =
        record {
          taken_at_most = omega arith;
          failed_at_most = omega arith;
          time_asked_at_most = omega arith;
          done_at_q = ((λ z. never (cc)), (λ z. absurd (omega arith)));
          no_answer_at_three = ((λ z. k.tool.reached), (λ z. refl));
          held_off_behind_most = ((λ z. never (cc)), (λ z. absurd (omega arith)));
          held_off_some = λ z. never (cc);
          time_before_first = k.tool.counts.only_first;
          sent_waiting = λ z. never (cc);
          sent_no_answer = λ z. omega (arith, k.tool.reached);
          sent_held_off = λ z. never (cc);
          put_out_at_most = omega (arith, with_replies T k.tool.counts);
          none_above = every 1 (suc v.taken) is_unnumbered (omega arith) (omega arith) k.order.to_tool;
        }

    claims_held_off : At E T facts Unrepeatedly u v held_off s → AfterAllowed E T (record { system = s; book = book_at v held_off; put_out_before = v.before })
    claims_held_off k =
        let h : v.time_asked ≡ T.time_most = k.tool.reached.0 in
        let p : v.taken ≡ 0 = k.tool.reached.1 in
        record {
          taken_at_most = omega arith;
          failed_at_most = omega arith;
          time_asked_at_most = omega arith;
          done_at_q = ((λ z. never (cc)), (λ z. absurd (omega arith)));
          no_answer_at_three = ((λ z. never (cc)), (λ z. absurd (omega arith)));
          held_off_behind_most = ((λ z. omega arith), (λ z. refl));
          held_off_some = λ z. k.tool.reached.2;
          time_before_first = λ l. absurd (omega arith);
          sent_waiting = λ z. never (cc);
          sent_no_answer = λ z. never (cc);
          sent_held_off = λ z. omega arith;
          put_out_at_most = omega (arith, with_replies T k.tool.counts);
          none_above = every 1 (suc v.taken) is_unnumbered (omega arith) (omega arith) k.order.to_tool;
        }

  claims : {u : UnitNumbers} {v : ToolNumbers} (out : Outcome) {s : System E} {b : Book} {before : ℕ} → b ≡ book_at v out → before ≡ v.before
      → At E T facts Unrepeatedly u v out s → AfterAllowed E T (record { system = s; book = b; put_out_before = before })
  claims waiting e m k = rw (e, m) (claims_waiting k)
  claims done e m k = rw (e, m) (claims_done k)
  claims no_answer e m k = rw (e, m) (claims_no_answer k)
  claims held_off e m k = rw (e, m) (claims_held_off k)

  pub after_at : (r : Run E) → Invariant E T facts Unrepeatedly r → AfterAllowed E T r
  after_at r i = claims i.outcome i.book i.before i.at

  -- Where the invariant holds, both ends are as the book has it.
  tool_is : (t : E.ToolState) (v : ToolNumbers) (put_out : ℕ) (out : Outcome) → Reached T v out → Counts T v
      → t ≡ tool_at out v.taken v.failed v.time_asked
      → put_out ≡ sent_by v → ToolIs E T facts t put_out v.before (book_at v out)
  tool_is t v m waiting h c e s = e
  tool_is t v m done h c e s = record { taken = v.taken; failed = v.failed; time_asked = v.time_asked; waits = c.waits; last = refl; is = e; sent = s }
  tool_is t v m no_answer h c e s =
      let f : v.failed ≡ 2 = omega arith in
      rw f at e
  tool_is t v m held_off h c e s = rw h.0 at e

  pub agrees_at : (r : Run E) → Invariant E T facts Unrepeatedly r → EndsAgree E T facts r
  agrees_at r i =
      record {
        tool = rw (i.book, i.before) (tool_is r.system.tool i.tool r.system.put_out i.outcome i.at.tool.reached
            i.at.tool.counts i.at.tool.is i.at.tool.sent);
        last = i.unit.last;
        owes = i.unit.owes;
        replied = i.unit.replied;
        unit = i.at.unit.is;
        bounds = i.at.unit.owes;
        asked = every i.unit.last (suc i.unit.last) (λ x r. r) (omega arith) (omega arith) i.at.order.to_unit;
      }

  -- Where no string to the tool is repeated and nothing is set, there are not enough 78 replies.
  not_held_off : Unrepeatedly → {u : UnitNumbers} {v : ToolNumbers} (out : Outcome) {s : System E} → At E T facts Unrepeatedly u v out s
      → (book_at v out).outcome ≡ held_off → ⊥
  not_held_off g waiting k z = never (cc)
  not_held_off g done k z = never (cc)
  not_held_off g no_answer k z = never (cc)
  not_held_off g held_off k z = omega (arith, k.budget g k.tool.reached.1, k.tool.reached.0, facts.owed_at_most)

  pub plain_at : Unrepeatedly → (r : Run E) → Invariant E T facts Unrepeatedly r → AfterPlain E T r
  plain_at g r i = record { never_held_off = rw i.book (not_held_off g i.outcome i.at) }

module _ (E : Ends) (T : Transfer E) (facts : Facts E T) where
  -- what is granted of each event of a list, in another form
  allowed_granted : (es : List (Event E)) (s : System E) → AllAllowed E T es s → Each E (Granted E T facts ⊥) es s
  allowed_granted [] s o = tt
  allowed_granted (e ∷ es) s o = ((o.0, (λ z. absurd z)), allowed_granted es (step E e s) o.1)

  plain_granted : (es : List (Event E)) (s : System E) → AllPlain E T es s → Each E (Granted E T facts (Unit {0})) es s
  plain_granted [] s o = tt
  plain_granted (e ∷ es) s o = ((o.0.0, (λ z. o.0.1)), plain_granted es (step E e s) o.1)

  -- After every list of allowed events the claims on the book hold, and both ends agree with it.
  invariant : (es : List (Event E)) → AllAllowed E T es (start E T).system → Invariant E T facts ⊥ (run E T es (start E T))
  invariant es o = always E T facts ⊥ es (allowed_granted es (start E T).system o)

  pub after-allowed : (es : List (Event E)) → AllAllowed E T es (start E T).system → AfterAllowed E T (run E T es (start E T))
  after-allowed es o = after_at E T facts ⊥ (run E T es (start E T)) (invariant es o)

  pub agrees : (es : List (Event E)) → AllAllowed E T es (start E T).system → EndsAgree E T facts (run E T es (start E T))
  agrees es o = agrees_at E T facts ⊥ (run E T es (start E T)) (invariant es o)

  -- Where no string to the tool is repeated and nothing is set, "held off" never comes.
  pub after-plain : (es : List (Event E)) → AllPlain E T es (start E T).system → AfterPlain E T (run E T es (start E T))
  after-plain es o = plain_at E T facts (Unit {0}) tt (run E T es (start E T)) (always E T facts (Unit {0}) es (plain_granted es (start E T).system o))

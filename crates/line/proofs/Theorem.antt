-- The three claims about every list of events, and what they are where no unit asks for time.
use mathlib.Core.Path.{◌≡◌}
use mathlib.Core.List.{List}
use mathlib.Core.Logic.{◌↔◌}
use Prim.Native.Nat.{ℕ, suc, ◌+◌, ◌*◌, ◌≤◌}
use native.Mathlib.Omega.{arith}
use lib.Dec.{eqb}
use borrow.Author.Tests.{eqb-true, eqb-false}
use Rattle.line.specs.Line.{Ends, Event}
use Rattle.line.specs.Book.{Transfer, waiting, done, no_answer, held_off, Run}
use Rattle.line.specs.Facts.{Facts}
use Rattle.line.specs.Claims.{AfterAllowed, AfterClean, DoneBy, Claims}
use Rattle.line.proofs.Cases.{by_test}
use Rattle.line.proofs.Laws.{after-allowed, agrees, after-plain}
use Rattle.line.proofs.Clean.{after-clean}

pub every-list : (E : Ends) (T : Transfer E) (facts : Facts E T) (es : List (Event E)) → Claims E T facts es
every-list E T facts es =
    record {
      allowed = λ o. (after-allowed E T facts es o, agrees E T facts es o);
      clean = after-clean E T facts es;
      plain = after-plain E T facts es;
    }

-- Where no unit asks for time, time_most is 0 and asks_time never holds: the facts about the 78 reply are empty, and the claims are
-- document 01's own.
module _ {E : Ends} {T : Transfer E} {r : Run E} (none : T.time_most ≡ 0) where
  pub never-held-off : AfterAllowed E T r → r.book.outcome ≡ held_off → ⊥
  never-held-off w e = omega (arith, w.held_off_some e)

  pub no-time-asked : AfterAllowed E T r → r.book.time_asked ≡ 0
  no-time-asked w =
      by_test (eqb r.book.time_asked (suc T.time_most))
      (λ e. absurd (never-held-off w (w.held_off_behind_most.1 (eqb-true r.book.time_asked (suc T.time_most) e))))
      (λ e. omega (arith, eqb-false r.book.time_asked (suc T.time_most) e))

  -- the tool "has put out at most 3q frames", and its count of sendings is the frames put out since the last step forward
  pub three-each : AfterAllowed E T r → r.system.put_out ≤ 3 * T.q
  three-each w = omega arith

  pub sent-waiting : AfterAllowed E T r → r.book.outcome ≡ waiting → r.system.put_out ≡ r.put_out_before + suc r.book.failed
  sent-waiting w e = omega (arith, w.sent_waiting e, no-time-asked w)

  pub sent-no-answer : AfterAllowed E T r → r.book.outcome ≡ no_answer → r.system.put_out ≡ r.put_out_before + 3
  sent-no-answer w e = omega (arith, w.sent_no_answer e, no-time-asked w)

  -- "done comes at the q-th arrival at the tool", and 2q arrivals in all are enough
  pub done-at-q : T.owed ≡ 0 → AfterClean E T r → (r.book.outcome ≡ done) ↔ (r.system.tool_arrivals ≡ T.q)
  done-at-q z w = ((λ e. omega (arith, w.done_at_arrival.0 e)), (λ e. w.done_at_arrival.1 (omega arith)))

  pub in-time : T.owed ≡ 0 → AfterClean E T r → 2 * T.q ≤ r.system.unit_arrivals + r.system.tool_arrivals → r.book.outcome ≡ done
  in-time z w h = w.in_time (omega arith)

pub sent-done : {E : Ends} {T : Transfer E} → T.time_most ≡ 0
    → (facts : Facts E T) {t : E.ToolState} {put_out before p : ℕ} (d : DoneBy E T facts t put_out before p)
    → put_out ≡ before + suc d.failed
sent-done none facts d = omega (arith, d.sent, d.waits.time_asked)

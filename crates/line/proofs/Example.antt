-- The smallest two ends: numbered strings, a string that asks for time, and noise that both ends refuse. They meet the facts, so that
-- what is proved from the facts is of something, and the definitions run on them.
use mathlib.Core.Path.{◌≡◌, refl}
use mathlib.Core.Bool.{Bool, true, false, cond, ◌&&◌}
use mathlib.Core.List.{List, [], ◌∷◌}
use mathlib.Core.Option.{Option, none, some}
use Prim.Native.Nat.{ℕ, zero, suc, ◌≤◌}
use native.Mathlib.Omega.{arith}
use lib.Dec.{eqb, leb}
use borrow.Author.Tests.{eq-eqb, ne_eqb, le-leb, leb-true}
use Rattle.line.specs.Line.{Result, silent, sends, Ends, End, unit_end, tool_end, lost, repeated, spoiled}
use Rattle.line.specs.Line.{Event, arrives_at_unit, arrives_at_tool, wait_ends, line_changes, begin_refused, host_acts}
use Rattle.line.specs.Book.{Transfer, Outcome, waiting, done, no_answer, held_off, Run, run, start}
use Rattle.line.specs.Premises.{AllAllowed, AllClean}
use Rattle.line.specs.Facts.{Facts}
use Rattle.line.specs.Claims.{AfterAllowed, AfterClean}
use Rattle.line.proofs.Cases.{by_test, never}
use Rattle.line.proofs.Laws.{after-allowed}
use Rattle.line.proofs.Clean.{after-clean}

data Text : Type 0 where
  ask answer : ℕ → Text
  later noise : Text

-- the last number sent, and the waits owed
data Sender : Type 0 where
  sender : (n o : ℕ) → Sender

data Tool : Type 0 where
  tool : Outcome → (p f h : ℕ) → Tool

-- The unit sends the last frame again, or the next one; while it owes a wait, it asks for time instead of frame 1. The call is given
-- whether there is room for a reply.
abbrev frame_asked : ℕ → ℕ → ℕ → Result Text Sender
frame_asked n o k = cond (leb n k && leb k (suc n)) (sends (sender k o) (answer k)) (silent (sender n o))

abbrev asked : ℕ → ℕ → ℕ → Result Text Sender
asked n zero k = frame_asked n 0 k
asked n (suc o) k = cond (eqb k 1) (sends (sender n o) later) (frame_asked n (suc o) k)

abbrev unit_call : Bool → Sender → Text → Result Text Sender
unit_call false u x = silent u
unit_call true (sender n o) (ask k) = asked n o k
unit_call true u (answer k) = silent u
unit_call true u later = silent u
unit_call true u noise = silent u

abbrev wait_end : Tool → Result Text Tool
wait_end (tool waiting p f h) = cond (eqb (suc f) 3) (silent (tool no_answer p f h)) (sends (tool waiting p (suc f) h) (ask (suc p)))
wait_end (tool done p f h) = silent (tool done p f h)
wait_end (tool no_answer p f h) = silent (tool no_answer p f h)
wait_end (tool held_off p f h) = silent (tool held_off p f h)

abbrev begin : Tool → Option (Result Text Tool)
begin (tool waiting p f h) = none
begin (tool done p f h) = some (sends (tool waiting 0 0 0) (ask 1))
begin (tool no_answer p f h) = some (sends (tool waiting 0 0 0) (ask 1))
begin (tool held_off p f h) = some (sends (tool waiting 0 0 0) (ask 1))

abbrev is_noise : End → Text → Bool
is_noise e (ask k) = false
is_noise e (answer k) = false
is_noise e later = false
is_noise e noise = true

is-noise : (e : End) (x : Text) → is_noise e x ≡ true → x ≡ noise
is-noise e (ask k) r = never (cc)
is-noise e (answer k) r = never (cc)
is-noise e later r = never (cc)
is-noise e noise r = refl

abbrev same : Text → Text → Bool
same (answer j) (answer k) = eqb j k
same (answer j) (ask k) = false
same (answer j) later = false
same (answer j) noise = false
same (ask j) x = false
same later x = false
same noise x = false

-- behind the first frame another string would ask for time, which no unit sends
abbrev asks_time : ℕ → Text → Bool
asks_time zero later = true
asks_time zero (ask k) = false
asks_time zero (answer k) = false
asks_time zero noise = false
asks_time (suc p) x = false

-- the tool is asked for time: h of most replies came already
abbrev asked_for_time : ℕ → (p f h : ℕ) → Result Text Tool
asked_for_time most zero f h = cond (eqb h most) (silent (tool held_off 0 f h)) (sends (tool waiting 0 f (suc h)) (ask 1))
asked_for_time most (suc p) f h = silent (tool waiting (suc p) f h)

abbrev arrival : (q most : ℕ) → Tool → Text → Result Text Tool
arrival q most (tool waiting p f h) (ask k) = silent (tool waiting p f h)
arrival q most (tool waiting p f h) (answer k) =
    cond (eqb k (suc p)) (cond (eqb (suc p) q) (silent (tool done p f h)) (sends (tool waiting (suc p) 0 0) (ask (suc (suc p))))) (silent (tool waiting p f h))
arrival q most (tool waiting p f h) later = asked_for_time most p f h
arrival q most (tool waiting p f h) noise = wait_end (tool waiting p f h)
arrival q most (tool done p f h) x = silent (tool done p f h)
arrival q most (tool no_answer p f h) x = silent (tool no_answer p f h)
arrival q most (tool held_off p f h) x = silent (tool held_off p f h)

-- the host sets at most `most` waits
abbrev set_to : (most v o : ℕ) → ℕ
set_to most v o = cond (leb v most) v o

abbrev host_sets : (most : ℕ) → ℕ → Sender → Sender
host_sets most v (sender n o) = sender n (set_to most v o)

module _ (q most : ℕ) where
  abbrev ends : Ends
  ends =
      record {
        String = Text;
        UnitState = Sender;
        ToolState = Tool;
        UnitGiven = Bool;
        ToolGiven = Unit {0};
        BeginGiven = Unit {0};
        HostGiven = ℕ;
        unit_call = unit_call;
        tool_arrival = λ d. arrival q most;
        tool_wait_end = λ d. wait_end;
        tool_begin = λ b. begin;
        host_sets = host_sets most;
      }

  -- a transfer of q frames to a unit that owes w waits
  abbrev transfer : ℕ → Transfer ends
  transfer w =
      record {
        q = q;
        frame = answer;
        same = same;
        refused = is_noise;
        asks_time = asks_time;
        time_most = most;
        owed = w;
        unit_premise = λ u c. Unit {0};
        tool_premise = λ d. Unit {0};
        has_room = λ c. c;
        unit = sender 0 w;
        begun = sends (tool waiting 0 0 0) (ask 1);
      }

  -- the facts that go by cases
  answers : (n o k : ℕ) → n ≤ suc k → k ≤ n → (k ≡ 0 → o ≡ 0) → asked n o (suc k) ≡ sends (sender (suc k) o) (answer (suc k))
  answers n zero k a b z =
      let h : suc k ≤ suc n = omega arith in
      rw (le-leb n (suc k) a, le-leb (suc k) (suc n) h)
  answers n (suc o) zero a b z = absurd (omega (arith, z refl))
  answers n (suc o) (suc k) a b z =
      let h : suc (suc k) ≤ suc n = omega arith in
      rw (ne_eqb (suc (suc k)) 1 (λ y. omega arith), le-leb n (suc (suc k)) a, le-leb (suc (suc k)) (suc n) h)

  unit-noise : (c : Bool) (u : Sender) → unit_call c u noise ≡ silent u
  unit-noise true u = refl
  unit-noise false u = refl

  set-within : (v o : ℕ) → o ≤ most → set_to most v o ≤ most
  set-within v o h = by_test (leb v most) (λ e. rw e (leb-true v most e)) (λ e. rw e h)

  ignores-time : (p f h : ℕ) → 1 ≤ p → asked_for_time most p f h ≡ silent (tool waiting p f h)
  ignores-time zero f h l = absurd (omega arith)
  ignores-time (suc p) f h l = refl

  ended-arrival : (out : Outcome) (p f h : ℕ) (x : Text) → (out ≡ waiting → ⊥) → arrival q most (tool out p f h) x ≡ silent (tool out p f h)
  ended-arrival waiting p f h x e = absurd (e refl)
  ended-arrival done p f h x e = refl
  ended-arrival no_answer p f h x e = refl
  ended-arrival held_off p f h x e = refl

  ended-wait-end : (out : Outcome) (p f h : ℕ) → (out ≡ waiting → ⊥) → wait_end (tool out p f h) ≡ silent (tool out p f h)
  ended-wait-end waiting p f h e = absurd (e refl)
  ended-wait-end done p f h e = refl
  ended-wait-end no_answer p f h e = refl
  ended-wait-end held_off p f h e = refl

  frame-answers : (p k : ℕ) → asks_time p (answer k) ≡ false
  frame-answers zero k = refl
  frame-answers (suc p) k = refl

  facts : (w : ℕ) → 1 ≤ q → w ≤ most → Facts ends (transfer w)
  facts w h l =
      record {
        request = ask;
        time_reply = later;
        unit_after = λ n o x. sender n o;
        tool_at = tool;
        owed_after = set_to most;
        some_frame = h;
        owed_at_most = l;
        unit_starts = refl;
        tool_starts = refl;
        set_within = set-within;
        sets = λ v n o x b. refl;
        answers = λ c n o k x u room b a e y z. rw room (answers n o k a e z);
        asks_for_time = λ c n o x u room b a. rw room;
        lacks_room = λ c n o x s u room b. rw room;
        unit_refuses = λ c n o x s u r b. rw (is-noise unit_end s r) (unit-noise c (sender n o));
        takes = λ d p f h o w b. rw (eq-eqb (suc p) (suc p) refl, ne_eqb (suc p) q (λ z. omega arith));
        ends_done = λ d p f h o w b. rw (eq-eqb (suc p) (suc p) refl, eq-eqb (suc p) q b);
        ignores = λ d p f h k o w b. rw (ne_eqb (suc k) (suc p) (λ z. omega arith));
        tool_refuses = λ d p f h s o w r. rw (is-noise tool_end s r);
        resends = λ d p f h o w b. rw (ne_eqb (suc f) 3 (λ z. omega arith));
        ends_no_answer = λ d p f h o w b. rw (eq-eqb (suc f) 3 b);
        waits_on = λ d f h o w b. rw (ne_eqb h most (λ z. omega arith));
        ends_held_off = λ d f h o w a b. rw (eq-eqb h most b);
        ignores_time = λ d p f h o w a b. ignores-time p f h b;
        ended_arrival = λ d out p f h s e. ended-arrival out p f h s e;
        ended_wait_end = λ d out p f h e. ended-wait-end out p f h e;
        same_itself = λ k. eq-eqb k k refl;
        same_later = λ k e a b. ne_eqb (suc k) e (λ z. omega arith);
        same_refused = λ s k a r. rw (is-noise tool_end s r);
        frame_intact = λ k a. refl;
        frame_answers = λ p k a. frame-answers p (suc k);
        time_no_frame = λ a k b. refl;
        time_intact = λ a. refl;
        time_at_first = λ a. refl;
        time_not_later = λ a p. refl;
      }

-- A transfer of two frames; the tool waits on two 78 replies, and the third ends it.
abbrev after : ℕ → List (Event (ends 2 2)) → Run (ends 2 2)
after w es = run (ends 2 2) (transfer 2 2 w) es (start (ends 2 2) (transfer 2 2 w))

-- a string arrives at the unit, and one at the tool
abbrev turn : List (Event (ends 2 2)) → List (Event (ends 2 2))
turn es = arrives_at_unit true ∷ arrives_at_tool tt ∷ es

-- One wait owed, a clean line: done at the third arrival, q + w.
clean : List (Event (ends 2 2))
clean = turn (turn (turn []))

clean_run : after 1 clean
    ≡ record {
      system = record { to_unit = []; to_tool = []; unit = sender 2 0; tool = tool done 1 0 0; put_out = 3; unit_arrivals = 3; tool_arrivals = 3 };
      book = record { taken = 2; failed = 0; time_asked = 0; outcome = done };
      put_out_before = 2;
    }
unfolding clean
clean_run = refl

all-clean : AllClean (ends 2 2) (transfer 2 2 1) clean (start (ends 2 2) (transfer 2 2 1)).system
unfolding clean
all-clean = ((tt, refl), (tt, ((tt, refl), (tt, ((tt, refl), (tt, tt))))))

clean-claims : AfterClean (ends 2 2) (transfer 2 2 1) (after 1 clean)
clean-claims = after-clean (ends 2 2) (transfer 2 2 1) (facts 2 2 1 (omega arith) (omega arith)) clean all-clean

-- One wait owed, and its reply repeated twice: "held off" at the third, 3 frames put out.
repeated_reply : List (Event (ends 2 2))
repeated_reply =
    arrives_at_unit true ∷ line_changes tool_end 0 repeated ∷ line_changes tool_end 0 repeated ∷ arrives_at_tool tt ∷ arrives_at_tool tt ∷ arrives_at_tool tt ∷ []

repeated-run : after 1 repeated_reply
    ≡ record {
      system = record {
        to_unit = ask 1 ∷ ask 1 ∷ [];
        to_tool = [];
        unit = sender 0 0;
        tool = tool held_off 0 0 2;
        put_out = 3;
        unit_arrivals = 1;
        tool_arrivals = 3;
      };
      book = record { taken = 0; failed = 0; time_asked = 3; outcome = held_off };
      put_out_before = 0;
    }
unfolding repeated_reply
repeated-run = refl

-- Two waits owed, and the host sets one more when they are over: "held off" too.
host_sets_more : List (Event (ends 2 2))
host_sets_more = turn (turn (host_acts 1 ∷ turn []))

host-run : after 2 host_sets_more
    ≡ record {
      system = record { to_unit = []; to_tool = []; unit = sender 0 0; tool = tool held_off 0 0 2; put_out = 3; unit_arrivals = 3; tool_arrivals = 3 };
      book = record { taken = 0; failed = 0; time_asked = 3; outcome = held_off };
      put_out_before = 0;
    }
unfolding host_sets_more
host-run = refl

-- The bound is reached: two failed waits and two 78 replies before frame 1, two failed waits before frame 2; 3q + 2 frames are put out.
slow : List (Event (ends 2 2))
slow = wait_ends tt ∷ wait_ends tt ∷ turn (turn (turn (wait_ends tt ∷ wait_ends tt ∷ turn (turn (turn (turn (turn [])))))))

slow-run : ((after 2 slow).system.put_out ≡ 8) × ((after 2 slow).book.outcome ≡ done)
unfolding slow
slow-run = (refl, refl)

-- A wait ends early, a 78 reply comes in behind frame 1 and is ignored, frame 2 is spoiled, the unit has no room, the host sets too many.
rough : List (Event (ends 2 2))
rough =
    wait_ends tt ∷ arrives_at_unit true ∷ line_changes tool_end 0 repeated ∷ arrives_at_tool tt ∷ arrives_at_unit true ∷ host_acts 3 ∷ arrives_at_tool tt ∷ host_acts 1
    ∷ arrives_at_tool tt ∷ arrives_at_unit true ∷ arrives_at_tool tt ∷ line_changes unit_end 0 lost ∷ arrives_at_unit true
    ∷ line_changes tool_end 0 (spoiled noise) ∷ begin_refused tt ∷ arrives_at_tool tt ∷ arrives_at_unit false ∷ []

rough-run : after 1 rough
    ≡ record {
      system = record { to_unit = []; to_tool = []; unit = sender 2 0; tool = tool waiting 1 1 0; put_out = 6; unit_arrivals = 5; tool_arrivals = 5 };
      book = record { taken = 1; failed = 1; time_asked = 0; outcome = waiting };
      put_out_before = 4;
    }
unfolding rough
rough-run = refl

rough-allowed : AllAllowed (ends 2 2) (transfer 2 2 1) rough (start (ends 2 2) (transfer 2 2 1)).system
unfolding rough
rough-allowed = (tt, (tt, (tt, (tt, (tt, (tt, (tt, (tt, (tt, (tt, (tt, (tt, (tt, (refl, (refl, (tt, (tt, tt)))))))))))))))))

rough-claims : AfterAllowed (ends 2 2) (transfer 2 2 1) (after 1 rough)
rough-claims = after-allowed (ends 2 2) (transfer 2 2 1) (facts 2 2 1 (omega arith) (omega arith)) rough rough-allowed

-- The request is lost, and nothing arrives any more.
silence : List (Event (ends 2 2))
silence = line_changes unit_end 0 lost ∷ wait_ends tt ∷ wait_ends tt ∷ wait_ends tt ∷ []

silent-run : after 1 silence
    ≡ record {
      system = record {
        to_unit = ask 1 ∷ ask 1 ∷ [];
        to_tool = [];
        unit = sender 0 1;
        tool = tool no_answer 0 2 0;
        put_out = 3;
        unit_arrivals = 0;
        tool_arrivals = 0;
      };
      book = record { taken = 0; failed = 3; time_asked = 0; outcome = no_answer };
      put_out_before = 0;
    }
unfolding silence
silent-run = refl

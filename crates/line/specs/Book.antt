-- Document 01, "The line and the book", second paragraph, and Req 09: one transfer, its book, and the run of both over
-- a list of events.
use Rattle.std.specs.Prelude.{Bool, true, false, cond, not, ◌&&◌, List, [], ◌∷◌, ℕ, suc, eqb}
use Rattle.line.specs.Line.{Result, Ends, End, tool_end, System, Event, arrives_at_unit, arrives_at_tool, wait_ends}
use Rattle.line.specs.Line.{line_changes, begin_refused, host_acts, behind_begin, step}

-- One transfer.
pub record Transfer (E : Ends) : Type 1 where
  -- "the answer's frames 1 to q"
  pub q : ℕ
  pub frame : ℕ → E.String
  -- two strings are the same
  pub same : E.String → E.String → Bool
  -- the frame rules of that end refuse the string: this is what "spoiled" means
  pub refused : End → E.String → Bool
  -- with that many frames taken, the string asks for time: it is the 78 reply that names the service last asked for
  pub asks_time : ℕ → E.String → Bool
  -- so many of them the tool waits on, and so many waits a unit owes at most: 20, and 0 where no unit asks for time
  pub time_most : ℕ
  -- the waits that the unit owes at the begin
  pub owed : ℕ
  -- what is granted of what a unit's call is given, in the unit's state at that call; and of what a tool's event is
  -- given
  pub unit_premise : E.UnitState → E.UnitGiven → Type 0
  pub tool_premise : E.ToolGiven → Type 0
  -- a unit's call is given room for a reply
  pub has_room : E.UnitGiven → Bool
  -- the unit at the begin, and what the tool's accepted begin left
  pub unit : E.UnitState
  pub begun : Result E.String E.ToolState

pub data Outcome : Type 0 where
  waiting done no_answer held_off : Outcome

-- The book is document 01's own term: it keeps the frames taken (the document's p), the failed waits and the 78 replies
-- since the last step forward (its f, and h), and whether the transfer has ended.
pub record Book : Type 0 where
  pub taken : ℕ
  pub failed : ℕ
  pub time_asked : ℕ
  pub outcome : Outcome

-- "both are 0 at the begin, the first step forward", and so is h
abbrev pub new_book : Book
new_book = record { taken = 0; failed = 0; time_asked = 0; outcome = waiting }

-- "p grows by 1, f is 0 again, and p = q is done"; h is 0 again too: it counts "since its last step forward"
abbrev pub step_forward : ℕ → Book → Book
step_forward q b =
    record { taken = suc b.taken; failed = 0; time_asked = 0; outcome = cond (eqb (suc b.taken) q) done waiting }

-- "raises f by 1; f = 3 is 'no answer'"
abbrev pub failed_wait : Book → Book
failed_wait b =
    record {
      taken = b.taken;
      failed = suc b.failed;
      time_asked = b.time_asked;
      outcome = cond (eqb (suc b.failed) 3) no_answer waiting;
    }

-- "the twenty-first ends the request 'held off' .. the book ends at that twenty-first reply too"
abbrev pub asked_for_time : ℕ → Book → Book
asked_for_time most b =
    record {
      taken = b.taken;
      failed = b.failed;
      time_asked = suc b.time_asked;
      outcome = cond (eqb (suc b.time_asked) (suc most)) held_off waiting;
    }

-- ".. and all behind an end, changes nothing"
abbrev pub while_waiting : Outcome → Book → Book → Book
while_waiting waiting before after = after
while_waiting done before after = before
while_waiting no_answer before after = before
while_waiting held_off before after = before

-- the transfer has not ended
abbrev pub is_waiting : Outcome → Bool
is_waiting waiting = true
is_waiting done = false
is_waiting no_answer = false
is_waiting held_off = false

-- a step forward behind which the tool waits again: a frame is taken, and it is not the last one
abbrev pub waits_anew : Book → Book → Bool
waits_anew before after = not (eqb after.taken before.taken) && is_waiting after.outcome

-- System and book after some events. put_out_before: the frames that the tool had put out before the step forward with
-- which its last wait began, so that put_out less put_out_before is the frames put out since. At done no wait begins:
-- it stays.
pub record Run (E : Ends) : Type 0 where
  pub system : System E
  pub book : Book
  pub put_out_before : ℕ

module _ (E : Ends) (T : Transfer E) where
  -- "Frame p+1 arriving at the tool is a step forward .. a spoiled string arriving at the tool, raises f by 1 .. All
  -- else .. changes nothing." And "the tool counts 78 replies since its last step forward": those that it counts, h
  -- counts. Of the three, the first that applies.
  abbrev pub arrived : List E.String → Book → Book
  arrived [] b = b
  arrived (x ∷ xs) b =
      cond (T.same x (T.frame (suc b.taken))) (step_forward T.q b)
      (cond (T.refused tool_end x) (failed_wait b) (cond (T.asks_time b.taken x) (asked_for_time T.time_most b) b))

  -- what an event changes in the book of a transfer that waits; queue is the one to the tool, whose front string
  -- arrives
  abbrev pub noted : Event E → List E.String → Book → Book
  noted (arrives_at_unit c) queue b = b
  noted (arrives_at_tool d) queue b = arrived queue b
  noted (wait_ends d) queue b = failed_wait b
  noted (line_changes end i c) queue b = b
  noted (begin_refused g) queue b = b
  noted (host_acts v) queue b = b

  -- "The book is fed these events and the answer's frames"; it sees neither end's state
  abbrev pub fed : Event E → List E.String → Book → Book
  fed e queue b = while_waiting b.outcome b (noted e queue b)

  -- one event
  abbrev pub next : Event E → Run E → Run E
  next e r =
      let b = fed e r.system.to_tool r.book in
      record {
        system = step E e r.system;
        book = b;
        put_out_before = cond (waits_anew r.book b) r.system.put_out r.put_out_before;
      }

  abbrev pub run : List (Event E) → Run E → Run E
  run [] r = r
  run (e ∷ es) r = run es (next e r)

  -- where a list starts
  abbrev pub start : Run E
  start = record { system = behind_begin E T.unit T.begun; book = new_book; put_out_before = 0 }

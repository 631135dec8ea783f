-- What holds after every list of events: of book, counts and queues, and of the two ends by the facts about them.
use Rattle.std.specs.Prelude.{◌≡◌, Bool, true, cond, List, [], ◌∷◌, ◌++◌, ◌↔◌, ℕ, suc, ◌+◌, ◌*◌, ◌≤◌, length}
use Rattle.line.specs.Line.{Ends, unit_end, tool_end, Event}
use Rattle.line.specs.Book.{Transfer, Outcome, waiting, done, no_answer, held_off, Book, Run, run, start}
use Rattle.line.specs.Premises.{AllAllowed, AllClean, AllPlain}
use Rattle.line.specs.Facts.{Facts, Owes, Waits}

-- A string has no number, or it is string k of a numbered series with low ≤ k ≤ high; the series counts from 1.
pub data Within {S : Type 0} (unnumbered : S → Bool) (series : ℕ → S) (low high : ℕ) : S → Type 0 where
  no_number : {x : S} → unnumbered x ≡ true → Within unnumbered series low high x
  is_number : (k : ℕ) → low ≤ suc k → suc k ≤ high → Within unnumbered series low high (series (suc k))

abbrev pub Every : {S : Type 0} → (S → Type 0) → List S → Type 0
Every P [] = Unit {0}
Every P (x ∷ xs) = P x × Every P xs

module _ (E : Ends) (T : Transfer E) where
  -- on the way to the tool, a refused string and one that asks for time have no number
  abbrev pub unnumbered : E.String → Bool
  unnumbered x = cond (T.refused tool_end x) true (T.asks_time 0 x)

  -- Claim 1: after every list of allowed events
  pub record AfterAllowed (r : Run E) : Type 0 where
    -- p, f and h stay within their bounds
    pub taken_at_most : r.book.taken ≤ T.q
    pub failed_at_most : r.book.failed ≤ 3
    pub time_asked_at_most : r.book.time_asked ≤ suc T.time_most
    -- "p = q is done", and nothing else is
    pub done_at_q : (r.book.outcome ≡ done) ↔ (r.book.taken ≡ T.q)
    -- "f = 3 is 'no answer'", and nothing else is
    pub no_answer_at_three : (r.book.outcome ≡ no_answer) ↔ (r.book.failed ≡ 3)
    -- the twenty-first 78 reply is "held off", and nothing else is; where no unit asks for time it never comes
    pub held_off_behind_most : (r.book.outcome ≡ held_off) ↔ (r.book.time_asked ≡ suc T.time_most)
    pub held_off_some : r.book.outcome ≡ held_off → 1 ≤ T.time_most
    -- "An acknowledgement never meets 78": 78 replies count before the first frame only
    pub time_before_first : 1 ≤ r.book.taken → r.book.time_asked ≡ 0
    -- since the last step forward the tool put out one frame at the step, one at each failed wait but the third and one
    -- at each 78 reply but the twenty-first: its count of sendings, which leaves the 78 replies out, and its count of
    -- these
    pub sent_waiting : r.book.outcome ≡ waiting
        → r.system.put_out ≡ r.put_out_before + suc r.book.failed + r.book.time_asked
    pub sent_no_answer : r.book.outcome ≡ no_answer → r.system.put_out ≡ r.put_out_before + 3 + r.book.time_asked
    pub sent_held_off : r.book.outcome ≡ held_off
        → r.system.put_out ≡ r.put_out_before + suc r.book.failed + T.time_most
    -- "The bound of three for each frame grows by 20 in all"
    pub put_out_at_most : r.system.put_out ≤ 3 * T.q + T.time_most
    -- an answer frame with a number above the expected one, p + 1, is never on its way to the tool
    pub none_above : Every (Within unnumbered T.frame 1 (suc r.book.taken)) r.system.to_tool

  -- Claim 2: "a clean line still finishes, with one more arrival at the tool for each wait owed"
  pub record AfterClean (r : Run E) : Type 0 where
    pub done_at_arrival : (r.book.outcome ≡ done) ↔ (r.system.tool_arrivals ≡ T.q + T.owed)
    pub never_no_answer : r.book.outcome ≡ no_answer → ⊥
    pub never_held_off : r.book.outcome ≡ held_off → ⊥
    -- exactly one string is on the line before
    pub one_string : r.book.outcome ≡ waiting → length (r.system.to_unit ++ r.system.to_tool) ≡ 1
    -- so 2 (q + w) arrivals in all, at the latest, are enough; then as many frames as replies have gone
    pub in_time : 2 * (T.q + T.owed) ≤ r.system.unit_arrivals + r.system.tool_arrivals → r.book.outcome ≡ done
    pub put_out_at_done : r.book.outcome ≡ done → r.system.put_out ≡ T.q + T.owed

  -- Claim 3: no string on the way to the tool is repeated and nothing is set
  pub record AfterPlain (r : Run E) : Type 0 where
    pub never_held_off : r.book.outcome ≡ held_off → ⊥

module _ (E : Ends) (T : Transfer E) (facts : Facts E T) where
  open facts use {request, unit_after, tool_at}

  -- A tool that is done, by its last wait: it had one frame less, and put out one frame, and one more at each failed
  -- wait and each 78 reply of that wait.
  pub record DoneBy (t : E.ToolState) (put_out before p : ℕ) : Type 0 where
    pub taken : ℕ
    pub failed : ℕ
    pub time_asked : ℕ
    pub waits : Waits T taken failed time_asked
    pub last : suc taken ≡ p
    pub is : t ≡ tool_at done taken failed time_asked
    pub sent : put_out ≡ before + suc failed + time_asked

  -- The tool by the book. Ended, it is as at its last wait: p is one less at done, f at "no answer", h at "held off".
  abbrev pub ToolAs : E.ToolState → (put_out before p f h : ℕ) → Outcome → Type 0
  ToolAs t put_out before p f h waiting = t ≡ tool_at waiting p f h
  ToolAs t put_out before p f h done = DoneBy t put_out before p
  ToolAs t put_out before p f h no_answer = t ≡ tool_at no_answer p 2 h
  ToolAs t put_out before p f h held_off = t ≡ tool_at held_off p f T.time_most

  abbrev pub ToolIs : E.ToolState → (put_out before : ℕ) → Book → Type 0
  ToolIs t put_out before b = ToolAs t put_out before b.taken b.failed b.time_asked b.outcome

  -- The two ends after a list of allowed events.
  pub record EndsAgree (r : Run E) : Type 0 where
    -- "After every list the tool waits or has ended as the book has"
    pub tool : ToolIs r.system.tool r.system.put_out r.put_out_before r.book
    -- the unit by the last number that it sent, the waits owed, and whether it has replied
    pub last : ℕ
    pub owes : ℕ
    pub replied : Bool
    pub unit : r.system.unit ≡ unit_after last owes replied
    pub bounds : Owes T last owes
    -- the unit is asked only for the frame last sent or the next one
    pub asked : Every (Within (T.refused unit_end) request last (suc last)) r.system.to_unit

  -- The three claims about every list
  pub record Claims (es : List (Event E)) : Type 0 where
    pub allowed : AllAllowed E T es (start E T).system
        → AfterAllowed E T (run E T es (start E T)) × EndsAgree (run E T es (start E T))
    pub clean : AllClean E T es (start E T).system → AfterClean E T (run E T es (start E T))
    pub plain : AllPlain E T es (start E T).system → AfterPlain E T (run E T es (start E T))

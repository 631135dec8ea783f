-- The numbers behind a system and its book: what the tool's last wait was, what ended it, and the bounds of the counts.
use mathlib.Core.Path.{◌≡◌, refl}
use mathlib.Core.Bool.{Bool}
use Prim.Native.Nat.{ℕ, zero, suc, ◌+◌, ◌*◌, ◌≤◌, ◌<◌}
use native.Mathlib.Omega.{arith}
use Rattle.line.specs.Line.{Ends}
use Rattle.line.specs.Book.{Transfer, Outcome, waiting, done, no_answer, held_off, Book, while_waiting}
use Rattle.line.specs.Facts.{Waits}

-- The unit's numbers: the last number sent, the waits owed, and whether it has replied.
pub record UnitNumbers : Type 0 where
  pub last : ℕ
  pub owes : ℕ
  pub replied : Bool

abbrev pub unit_now : (last owes : ℕ) → Bool → UnitNumbers
unit_now n o x = record { last = n; owes = o; replied = x }

-- The tool's numbers as at its last wait: the frames taken, the failed waits, the 78 replies, and the frames put out before the
-- step forward with which it began.
pub record ToolNumbers : Type 0 where
  pub taken : ℕ
  pub failed : ℕ
  pub time_asked : ℕ
  pub before : ℕ

abbrev pub tool_now : (taken failed time_asked before : ℕ) → ToolNumbers
tool_now p f h m = record { taken = p; failed = f; time_asked = h; before = m }

-- The book at an outcome: it goes on from the tool's last wait by what ended it.
abbrev pub book_at : ToolNumbers → Outcome → Book
book_at v waiting = record { taken = v.taken; failed = v.failed; time_asked = v.time_asked; outcome = waiting }
book_at v done = record { taken = suc v.taken; failed = 0; time_asked = 0; outcome = done }
book_at v no_answer = record { taken = v.taken; failed = suc v.failed; time_asked = v.time_asked; outcome = no_answer }
book_at v held_off = record { taken = v.taken; failed = v.failed; time_asked = suc v.time_asked; outcome = held_off }

-- the frames put out up to the tool's last wait; its end puts nothing out
abbrev pub sent_by : ToolNumbers → ℕ
sent_by v = v.before + suc v.failed + v.time_asked

-- a book that an event leaves as it was
pub unchanged : (o : Outcome) (b : Book) → while_waiting o b b ≡ b
unchanged waiting b = refl
unchanged done b = refl
unchanged no_answer b = refl
unchanged held_off b = refl

module _ {E : Ends} (T : Transfer E) where
  -- what ended the tool's last wait
  abbrev pub Reached : ToolNumbers → Outcome → Type 0
  Reached v waiting = Unit {0}
  Reached v done = suc v.taken ≡ T.q
  Reached v no_answer = suc v.failed ≡ 3
  Reached v held_off = (v.time_asked ≡ T.time_most) × (v.taken ≡ 0) × (1 ≤ T.time_most)

  -- The counts. 78 replies come before the first frame only, and before the first step nothing was put out; before the last one
  -- at most three frames for each frame taken, and one for each 78 reply.
  pub record Counts (v : ToolNumbers) : Type 0 where
    pub waits : Waits T v.taken v.failed v.time_asked
    pub only_first : 1 ≤ v.taken → v.time_asked ≡ 0
    pub none_before : v.taken ≡ 0 → v.before ≡ 0
    pub earlier : v.before ≤ 3 * v.taken + T.time_most

  -- earlier frames and 78 replies together keep the bound
  together : (p h m most : ℕ) → h ≤ most → (1 ≤ p → h ≡ 0) → (p ≡ 0 → m ≡ 0) → m ≤ 3 * p + most → m + h ≤ 3 * p + most
  together zero h m most a b c d = omega (arith, c refl)
  together (suc p) h m most a b c d = omega (arith, b (omega arith))

  pub with_replies : {v : ToolNumbers} → Counts v → v.before + v.time_asked ≤ 3 * v.taken + T.time_most
  with_replies {v} c = together v.taken v.time_asked v.before T.time_most c.waits.time_asked c.only_first c.none_before c.earlier

  -- behind the begin, after one more failed wait, after one more 78 reply, and after a step forward
  pub first_counts : 1 ≤ T.q → Counts (tool_now 0 0 0 0)
  first_counts h =
      record {
        waits = record { more = h; failed = omega arith; time_asked = omega arith };
        only_first = λ l. refl;
        none_before = λ l. refl;
        earlier = omega arith;
      }

  pub failed_counts : {v : ToolNumbers} → Counts v → suc v.failed < 3 → Counts (tool_now v.taken (suc v.failed) v.time_asked v.before)
  failed_counts c t =
      record {
        waits = record { more = c.waits.more; failed = t; time_asked = c.waits.time_asked };
        only_first = c.only_first;
        none_before = c.none_before;
        earlier = c.earlier;
      }

  pub time_counts : {v : ToolNumbers} → Counts v → v.taken ≡ 0 → suc v.time_asked ≤ T.time_most
      → Counts (tool_now 0 v.failed (suc v.time_asked) v.before)
  time_counts c z t =
      record {
        waits = record { more = omega arith; failed = c.waits.failed; time_asked = t };
        only_first = λ l. absurd (omega arith);
        none_before = λ l. c.none_before z;
        earlier = omega (arith, c.none_before z);
      }

  pub step_counts : {v : ToolNumbers} → Counts v → suc v.taken < T.q → Counts (tool_now (suc v.taken) 0 0 (sent_by v))
  step_counts c t =
      record {
        waits = record { more = t; failed = omega arith; time_asked = omega arith };
        only_first = λ l. refl;
        none_before = λ l. absurd (omega arith);
        earlier = omega (arith, with_replies c);
      }

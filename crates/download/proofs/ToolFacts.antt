-- What the tool does at the strings of one transfer.
use Prim.Native.Nat.{ℕ, zero, suc, ◌+◌, ◌-◌, ◌*◌, ◌/◌, ◌%◌, ◌<◌, ◌≤◌}
use mathlib.Core.Bool.{true, false}
use mathlib.Core.List.{List, [], ◌++◌}
use mathlib.Core.Path.{◌≡◌, refl, sym, ap, ◌∙◌}
use native.Mathlib.Omega.{arith}
use native.Mathlib.Numerals.{add-one}
use lib.Dec.{eqb, ltb}
use lib.ListN.{length, drop, length-append}
use borrow.Author.Tests.{eq-eqb, ne_eqb, le-leb, lt-leb, lt-ltb, le-ltb, ltb-true, ltb-false, not-true}
use Rattle.octets.proofs.Tests.{and-false}
use Rattle.octets.specs.Buffer.{front, put}
use Rattle.fields.specs.BigEndian.{number_at}
use Rattle.octets.proofs.Tests.{and-false}
use Rattle.octets.proofs.BufferLaws.{length_front, put_front}
use Rattle.frame.specs.declared.Addresses.{Addresses}
use Rattle.frame.specs.declared.End.TheVariants as ends
use Rattle.frame.specs.Frame.{judged}
use Rattle.split.specs.Codes.{sub}
use Rattle.split.specs.Split.{count_of, carries, sub_field}
use Rattle.split.specs.Join.{is_whole, received_as, carried_by}
use Rattle.split.specs.declared.Received.{Received}
use Rattle.split.specs.declared.Received.TheVariants.{Whole, Full, Last, Other}
use Rattle.split.proofs.SplitLaws.{carries-split, field-split}
use Rattle.split.proofs.JoinLaws.{whole-answer, other-below, last, full}
use Rattle.split.proofs.Theorems.{sub-good, sub-reads-back, answers-back, count-one, count-split, length-one, length-full, length_last_lem, number-reads-back}
use Rattle.progress.specs.declared.Request.TheVariants as requests
use Rattle.progress.specs.declared.Outcome.{Outcome}
use Rattle.progress.specs.declared.Outcome.TheVariants.{Waiting, Done, NoAnswer}
use Rattle.progress.specs.declared.ToolState.{ToolState}
use Rattle.arrival.specs.declared.Meaning.{Meaning}
use Rattle.arrival.specs.declared.Meaning.TheVariants.{FailedWait, WholeAnswer, SubMessageTaken, LastTaken}
use Rattle.progress.specs.State.{held_right, transfer_possible, possible}
use Rattle.requests.specs.Sent.{frame_sent}
use Rattle.arrival.specs.Meaning.{header, new_bytes, fits, meaning_of, transfer_meaning, is_refusal, data_meaning, arrival_meaning, arrival_bytes}
use Rattle.arrival.specs.Meaning.{takes as takes_bytes}
use Rattle.progress.specs.Next.{after_failed_wait}
use Rattle.tool.specs.After.{state_after, sent_after, room_after}
use Rattle.tool.specs.Call.{event_number, event_state, event_sent, event_room, event_result}
use Rattle.line.specs.Line.{Result, silent, sends, tool_end}
use Rattle.line.proofs.Cases.{by_test}
use Rattle.download.specs.CableEnds.{ToolRoom, strings, refused}
use Rattle.download.specs.Demand.{Premises, answer_data, held_with, transfer}
use Rattle.download.proofs.AtDifferent.{tool_arrival, tool_wait_end}
use Rattle.download.proofs.FrameFacts as frames
use Rattle.download.proofs.UnitFacts.{name-allowed}

-- An event that is not refused: what follows from its meaning and its new bytes

abbrev leaves : Addresses → ToolRoom → Meaning → List ℕ → Result (List ℕ) ToolRoom
leaves a t m new =
    record {
      next = record { state = state_after t.state m (length new); room = room_after t.state m new t.room };
      out = strings (sent_after a t.state m);
    }

module _ (a : Addresses) (output : ℕ) (t : ToolRoom) (z : event_number t.state (length t.room) output ≡ 0) where
  arrived : (b : List ℕ) (m : Meaning) (new : List ℕ) → arrival_meaning a (length t.room) t.state b ≡ m → arrival_bytes a t.state b ≡ new
      → tool_arrival a output t b ≡ leaves a t m new
  unfolding event_result event_state event_sent event_room
  arrived b m new e n = rw (z, e, n)

  ended : tool_wait_end a output t ≡ leaves a t FailedWait []
  unfolding event_result event_state event_sent room_after takes_bytes
  ended = rw z

  -- a refused string is a failed wait, as a wait's end is
  refused-ends : (b : List ℕ) → refused a tool_end b ≡ true → tool_arrival a output t b ≡ tool_wait_end a output t
  unfolding arrival_meaning state_after room_after takes_bytes
  refused-ends b r =
      let e : eqb (judged a ends.Tool b) 0 ≡ false = not-true _ r in
      arrived b FailedWait (arrival_bytes a t.state b) (rw e) refl ∙ sym ended

-- The answer's frames, to a tool that expects e

no-refusal : (t : ToolState) (trep k : ℕ) (d : List ℕ) → is_refusal t (sub_field trep k d) ≡ false
unfolding is_refusal sub_field
no-refusal t trep k d = and-false (eqb (length (sub_field trep k d)) 3) false refl

whole_is : (trep : ℕ) (d : List ℕ) → length d ≤ 252 → received_as trep 1 (sub_field trep 1 d) ≡ Whole
whole_is trep d h =
    let w : is_whole 1 (length (sub_field trep 1 d)) ≡ true = lt-ltb (length (sub_field trep 1 d)) 255 (omega (arith, length-one trep d 1 h)) in
    sym (whole-answer trep 1 (sub_field trep 1 d) (answers-back trep 1 d) w)

module _ (trep : ℕ) (d : List ℕ) (h : 252 < length d) (k : ℕ) (b : k < 65536) where
  four : 4 ≤ length (sub_field trep k d)
  four = rw (← field-split trep k d h) (omega arith)

  read_back : k ≡ number_at 2 2 (sub_field trep k d)
  read_back = sym (number-reads-back trep d h k b)

  lower-is : (e : ℕ) → 1 ≤ k → k < e → received_as trep e (sub_field trep k d) ≡ Other
  lower-is e f l =
      let w : is_whole e (length (sub_field trep k d)) ≡ false = rw (ne_eqb e 1 (λ z. omega arith)) in
      sym (other-below trep e (sub_field trep k d) (answers-back trep k d) w k four read_back l)

  full_is : 1 ≤ k → k ≤ length d / 251 → received_as trep k (sub_field trep k d) ≡ Full
  full_is f l =
      let n : length (sub_field trep k d) ≡ 255 = length-full trep d h k f l in
      let w : is_whole k (length (sub_field trep k d)) ≡ false = rw n (and-false (eqb k 1) false refl) in
      sym (full trep k (sub_field trep k d) (answers-back trep k d) w k four read_back (omega arith) (omega arith) (omega arith))

  last-is : k ≡ length d / 251 + 1 → received_as trep k (sub_field trep k d) ≡ Last
  last-is e =
      let n : length (sub_field trep k d) ≡ 4 + length d % 251 = rw e (length_last_lem trep d h) in
      let w : is_whole k (length (sub_field trep k d)) ≡ false = rw (ne_eqb k 1 (λ z. omega arith)) in
      sym (last trep k (sub_field trep k d) (answers-back trep k d) w k four read_back (omega arith) (omega arith) (omega arith))

  carried : drop 4 (sub_field trep k d) ≡ carries k d
  carried = rw (← field-split trep k d h, carries-split k d h)

-- The tool through the transfer
module _ (g : Premises) where
  abbrev tool_with : Outcome → (sendings expected p : ℕ) → ToolRoom
  tool_with outcome sendings expected p =
      record {
        state = record {
          request = requests.Transfer;
          outcome = outcome;
          name = g.name;
          sendings = sendings;
          expected = sub expected;
          held = length (held_with g p);
        };
        room = front (held_with g p) g.room;
      }

  -- it waits, with p frames taken and f failed waits since; it ended done, or "no answer"
  abbrev pub waiting_tool : ℕ → ℕ → ToolRoom
  waiting_tool p f = tool_with Waiting (suc f) (suc p) p

  abbrev pub done_tool : ℕ → ToolRoom
  done_tool f = tool_with Done (suc f) (count_of (length (answer_data g))) (count_of (length (answer_data g)))

  abbrev pub no_answer_tool : ℕ → ToolRoom
  no_answer_tool p = tool_with NoAnswer 3 (suc p) p

  -- the held bytes fit
  pub within : (p : ℕ) → p ≤ count_of (length (answer_data g)) → length (held_with g p) ≤ length (answer_data g) + 2
  within p h =
      by_test (ltb p (count_of (length (answer_data g))))
      (λ e. omega (arith, frames.held-within g p (ltb-true _ _ e), frames.long g))
      (λ e.
      let q : p ≡ count_of (length (answer_data g)) = omega (arith, ltb-false p (count_of (length (answer_data g))) e) in
      omega (arith, ap (λ (k : ℕ). length (held_with g k)) q, ap length (frames.held_all g), frames.long g))

  room-length : (p : ℕ) → p ≤ count_of (length (answer_data g)) → length (front (held_with g p) g.room) ≡ length g.room
  room-length p h = length_front (held_with g p) g.room (omega (arith, within p h, frames.fits g))

  held-right : (p : ℕ) → suc p ≤ count_of (length (answer_data g)) → held_right (suc p) (length (held_with g p)) ≡ true
  unfolding held_right
  held-right zero h = refl
  held-right (suc p) h =
      rw (ne_eqb (suc (suc p)) 1 (λ z. omega arith), le-leb 2 (suc (suc p)) (omega arith))
      (eq-eqb (length (held_with g (suc p))) (2 + 251 * (suc (suc p) - 1)) (omega (arith, frames.held-length g p h)))

  waiting-possible : (p f : ℕ) → f < 3 → suc p ≤ count_of (length (answer_data g)) → possible (length (waiting_tool p f).room) (waiting_tool p f).state ≡ true
  unfolding possible transfer_possible
  waiting-possible p f l h =
      let n : length (held_with g p) ≤ length (answer_data g) + 2 = within p (omega arith) in
      rw (
        room-length p (omega arith),
        le-leb 1 (suc f) (omega arith),
        le-leb (suc f) 3 (omega arith),
        name-allowed g,
        held-right p h,
        le-leb (length (held_with g p)) (length g.room) (omega (arith, frames.fits g)),
        le-leb (length (held_with g p)) 60000 (omega (arith, frames.data-most g)),
      )

  -- the bytes that frame p + 1 adds
  joins-split : (p sendings : ℕ) → 252 < length (answer_data g) → suc p < 65536
      → held_with g p ++ new_bytes (tool_with Waiting sendings (suc p) p).state Full (sub_field g.name.trep (suc p) (answer_data g)) ≡ held_with g (suc p)
  unfolding header carried_by
  joins-split zero sendings h b = rw (carried g.name.trep (answer_data g) h 1 b)
  joins-split (suc p) sendings h b = rw (ne_eqb (suc (suc p)) 1 (λ z. omega arith), carried g.name.trep (answer_data g) h (suc (suc p)) b)

  joins-whole : (sendings : ℕ) → length (answer_data g) ≤ 252
      → held_with g 0 ++ new_bytes (tool_with Waiting sendings 1 0).state Whole (sub_field g.name.trep 1 (answer_data g)) ≡ held_with g 1
  unfolding header carried_by sub_field
  joins-whole sendings h = rw (le-ltb 252 (length (answer_data g)) h)

  module _ (output : ℕ) (roomy : 260 ≤ output) (p f : ℕ) (few : f < 3) (more : suc p ≤ count_of (length (answer_data g))) where
    number : event_number (waiting_tool p f).state (length (waiting_tool p f).room) output ≡ 0
    unfolding event_number
    number = rw (waiting-possible p f few more, le-leb 260 output roomy)

    module _ (a : Addresses) where
      -- a refused string is a failed wait, as a wait's end is
      pub tool-refuses : (b : List ℕ) → refused a tool_end b ≡ true → tool_arrival a output (waiting_tool p f) b ≡ tool_wait_end a output (waiting_tool p f)
      tool-refuses b r = refused-ends a output (waiting_tool p f) number b r

      -- after a failed wait the same request goes out again
      pub resends : suc f < 3 → tool_wait_end a output (waiting_tool p f) ≡ sends (waiting_tool p (suc f)) (frame_sent a requests.Transfer g.name (suc p))
      unfolding state_after after_failed_wait sent_after room_after takes_bytes
      resends l = ended a output (waiting_tool p f) number ∙ rw (lt-leb 3 (suc f) (omega arith), add-one (suc f), frames.strings-asked a g.name (suc p))

      -- after the third sending the tool ends "no answer"
      pub ends-no-answer : suc f ≡ 3 → tool_wait_end a output (waiting_tool p f) ≡ silent (no_answer_tool p)
      unfolding state_after after_failed_wait sent_after room_after takes_bytes
      ends-no-answer e = ended a output (waiting_tool p f) number ∙ rw e

      -- frame k arrives, and is r to the tool
      framed : (k : ℕ) (r : Received) → received_as g.name.trep (suc p) (sub_field g.name.trep k (answer_data g)) ≡ r
          → tool_arrival a output (waiting_tool p f) ((transfer a g).frame k)
          ≡ leaves a (waiting_tool p f)
          (meaning_of r (fits (length g.room) (waiting_tool p f).state
          (length (new_bytes (waiting_tool p f).state r (sub_field g.name.trep k (answer_data g))))))
          (new_bytes (waiting_tool p f).state r (sub_field g.name.trep k (answer_data g)))
      unfolding arrival_meaning data_meaning transfer_meaning arrival_bytes
      framed k r e =
          arrived a output (waiting_tool p f) number ((transfer a g).frame k) _ _
          (rw (
            room-length p (omega arith),
            sub-good a g.name.trep k (answer_data g),
            sub-reads-back a g.name.trep k (answer_data g),
            no-refusal (waiting_tool p f).state g.name.trep k (answer_data g),
            e,
          ))
          (rw (sub-reads-back a g.name.trep k (answer_data g), e))

      -- a frame below the expected one is ignored
      pub ignores : (k : ℕ) → suc k ≤ p → tool_arrival a output (waiting_tool p f) ((transfer a g).frame (suc k)) ≡ silent (waiting_tool p f)
      unfolding meaning_of state_after sent_after room_after takes_bytes
      ignores k l =
          let s = frames.splits g (omega arith) in
          framed (suc k) Other (lower-is g.name.trep (answer_data g) s (suc k) (omega (arith, frames.frames-most g)) (suc p) (omega arith) (omega arith))

      -- the expected frame is taken; new bytes go right behind those held
      module _ (new : List ℕ) (joins : held_with g p ++ new ≡ held_with g (suc p)) where
        grown : length (held_with g p) + length new ≡ length (held_with g (suc p))
        grown = sym (length-append (held_with g p) new) ∙ ap length joins

        new-fits : fits (length g.room) (waiting_tool p f).state (length new) ≡ true
        unfolding fits
        new-fits =
            let n = within (suc p) more in
            rw (
              grown,
              le-leb (length (held_with g (suc p))) (length g.room) (omega (arith, frames.fits g)),
              le-leb (length (held_with g (suc p))) 60000 (omega (arith, frames.data-most g)),
            )

        put-behind : put (length (held_with g p)) new (front (held_with g p) g.room) ≡ front (held_with g (suc p)) g.room
        put-behind = put_front (length (held_with g p)) (held_with g p) new g.room refl ∙ ap (λ (l : List ℕ). front l g.room) joins

        goes_on : leaves a (waiting_tool p f) SubMessageTaken new ≡ sends (waiting_tool (suc p) 0) (frame_sent a requests.Transfer g.name (suc (suc p)))
        unfolding state_after sent_after room_after takes_bytes
        goes_on = rw (grown, put-behind, add-one (suc p), frames.strings-asked a g.name (suc (suc p)))

        ends-whole : leaves a (waiting_tool p f) WholeAnswer new ≡ silent (tool_with Done (suc f) (suc p) (suc p))
        unfolding state_after sent_after room_after takes_bytes
        ends-whole = rw (grown, put-behind)

        ends_last : leaves a (waiting_tool p f) LastTaken new ≡ silent (tool_with Done (suc f) (suc p) (suc p))
        unfolding state_after sent_after room_after takes_bytes
        ends_last = rw (grown, put-behind)

      -- the expected frame, and more to follow: the next one is asked for
      pub takes : suc p < count_of (length (answer_data g))
          → tool_arrival a output (waiting_tool p f) ((transfer a g).frame (suc p))
          ≡ sends (waiting_tool (suc p) 0) (frame_sent a requests.Transfer g.name (suc (suc p)))
      unfolding meaning_of
      takes l =
          let s = frames.splits g (omega arith) in
          let c = count-split (length (answer_data g)) s in
          let r = full_is g.name.trep (answer_data g) s (suc p) (omega (arith, frames.frames-most g)) (omega arith) (omega arith) in
          let j = joins-split p (suc f) s (omega (arith, frames.frames-most g)) in
          framed (suc p) Full r ∙ rw (new-fits _ j) (goes_on _ j)

      -- the expected frame is the last one: done
      pub ends-done : suc p ≡ count_of (length (answer_data g)) → tool_arrival a output (waiting_tool p f) ((transfer a g).frame (suc p)) ≡ silent (done_tool f)
      unfolding meaning_of carried_by
      ends-done e =
          by_test (ltb 252 (length (answer_data g)))
          (λ t.
          let s = ltb-true 252 (length (answer_data g)) t in
          let c = count-split (length (answer_data g)) s in
          let r = last-is g.name.trep (answer_data g) s (suc p) (omega (arith, frames.frames-most g)) (omega arith) in
          let j = joins-split p (suc f) s (omega (arith, frames.frames-most g)) in
          framed (suc p) Last r ∙ rw (new-fits _ j) (ends_last _ j) ∙ at_last)
          (λ t.
          let s = ltb-false 252 (length (answer_data g)) t in
          let z : p ≡ 0 = omega (arith, count-one (length (answer_data g)) s) in
          let r : received_as g.name.trep (suc p) (sub_field g.name.trep (suc p) (answer_data g)) ≡ Whole =
          rw z (whole_is g.name.trep (answer_data g) s) in
          let j : held_with g p ++ new_bytes (tool_with Waiting (suc f) (suc p) p).state Whole (sub_field g.name.trep (suc p) (answer_data g))
          ≡ held_with g (suc p) = rw z (joins-whole (suc f) s) in
          framed (suc p) Whole r ∙ rw (new-fits _ j) (ends-whole _ j) ∙ at_last)
        where
          at_last : ◌≡◌ {A = Result (List ℕ) ToolRoom} (silent (tool_with Done (suc f) (suc p) (suc p))) (silent (done_tool f))
          at_last = ap (λ (k : ℕ). silent (tool_with Done (suc f) k k)) e

  -- Ended, the tool stays as it is
  module _ (a : Addresses) (output : ℕ) where
    pub done-arrival : (f : ℕ) (b : List ℕ) → tool_arrival a output (done_tool f) b ≡ silent (done_tool f)
    unfolding event_result event_state event_sent event_room event_number
    done-arrival f b = refl

    pub done-wait-end : (f : ℕ) → tool_wait_end a output (done_tool f) ≡ silent (done_tool f)
    unfolding event_result event_state event_sent event_number
    done-wait-end f = refl

    pub no-answer-arrival : (p : ℕ) (b : List ℕ) → tool_arrival a output (no_answer_tool p) b ≡ silent (no_answer_tool p)
    unfolding event_result event_state event_sent event_room event_number
    no-answer-arrival p b = refl

    pub no-answer-wait-end : (p : ℕ) → tool_wait_end a output (no_answer_tool p) ≡ silent (no_answer_tool p)
    unfolding event_result event_state event_sent event_number
    no-answer-wait-end p = refl

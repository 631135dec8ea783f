-- The tool's calls at other addresses: what a string means stays, and what is sent is written at these.
use Prim.Native.Nat.{ℕ, ◌+◌}
use mathlib.Core.Bool.{Bool, true, false, cond}
use mathlib.Core.List.{List, []}
use mathlib.Core.Path.{◌≡◌, sym, ap, ◌∙◌}
use lib.Dec.{eqb, leb}
use lib.ListN.{length}
use Rattle.octets.specs.Order.{unless}
use Rattle.octets.specs.Buffer.{front}
use Rattle.frame.specs.declared.Addresses.{Addresses}
use Rattle.frame.specs.declared.End.TheVariants as ends
use Rattle.frame.specs.Given.{different}
use Rattle.frame.specs.Readdressed.{readdressed}
use Rattle.frame.proofs.GivenLaws.{equal-ones, different-ones, at-equal, at-different}
use Rattle.frame.proofs.Readdressed.{readdressed-number, readdressed-data, readdressed-length, readdressed-none, readdressed-frame, readdressed-start}
use Rattle.catalog.specs.declared.AnswerName.{AnswerName}
use Rattle.progress.specs.declared.Request.{Request}
use Rattle.progress.specs.declared.Request.TheVariants as requests
use Rattle.progress.specs.declared.ToolState.{ToolState}
use Rattle.requests.specs.Sent.{frame_sent}
use Rattle.arrival.specs.declared.Meaning.{Meaning}
use Rattle.arrival.specs.declared.Meaning.TheVariants.{Ignored, FailedWait, Confirmed, WholeAnswer, SubMessageTaken, LastTaken, NoRoomForAnswer}
use Rattle.arrival.specs.declared.Meaning.TheVariants.{NoRoomForSubMessage, RefusedBy}
use Rattle.arrival.specs.Meaning.{arrival_meaning, arrival_bytes}
use Rattle.tool.specs.After.{sent_after}
use Rattle.tool.specs.Call.{begin_number, begin_sent, begin_result, begin_out, event_number, event_sent, event_result, event_out}
use Rattle.tool.specs.Call.{begin_result_given, begin_out_given}
use Rattle.tool.specs.Call.{event_result_given, event_room_given, event_out_given}
use Rattle.tool.specs.Given.{Equal, Different, Readdressed, ToolGivenClaims}

equal : (a : Addresses) (t : ToolState) → different a ≡ false → Equal a t
unfolding begin_result_given begin_out_given event_result_given event_room_given event_out_given
equal a t e =
    record {
      begin = λ request name out_len. at-equal a _ _ e;
      begin_out = λ request name out. at-equal a _ _ e;
      arrival = λ f room_len out_len. at-equal a _ _ e;
      arrival_room = λ f out_len room. at-equal a _ _ e;
      arrival_out = λ f room_len out. at-equal a _ _ e;
      wait = λ room_len out_len. at-equal a _ _ e;
      wait_out = λ room_len out. at-equal a _ _ e;
    }

two-different : (a : Addresses) (t : ToolState) → different a ≡ true → Different a t
unfolding begin_result_given begin_out_given event_result_given event_room_given event_out_given
two-different a t e =
    record {
      begin = λ request name out_len. at-different a _ _ e;
      begin_out = λ request name out. at-different a _ _ e;
      arrival = λ f room_len out_len. at-different a _ _ e;
      arrival_room = λ f out_len room. at-different a _ _ e;
      arrival_out = λ f room_len out. at-different a _ _ e;
      wait = λ room_len out_len. at-different a _ _ e;
      wait_out = λ room_len out. at-different a _ _ e;
    }

module _ (a b : Addresses) where
  -- what a string means, and the bytes that it adds
  same-meaning : (room_len : ℕ) (t : ToolState) (f : List ℕ) → arrival_meaning b room_len t (readdressed a b ends.Tool f) ≡ arrival_meaning a room_len t f
  unfolding arrival_meaning
  same-meaning room_len t f = rw (readdressed-number a b ends.Tool f, readdressed-data a b ends.Tool f)

  same_bytes : (t : ToolState) (f : List ℕ) → arrival_bytes b t (readdressed a b ends.Tool f) ≡ arrival_bytes a t f
  unfolding arrival_bytes
  same_bytes t f = rw (readdressed-data a b ends.Tool f)

  -- what is sent, and nothing where nothing is
  other-frame : (q : Request) (name : AnswerName) (e : ℕ) → frame_sent b q name e ≡ readdressed a b ends.Unit (frame_sent a q name e)
  unfolding frame_sent
  other-frame requests.Start name e = sym (readdressed-start a b)
  other-frame requests.Session name e = sym (readdressed-frame a b ends.Unit _)
  other-frame requests.Upload name e = sym (readdressed-frame a b ends.Unit _)
  other-frame requests.Exit name e = sym (readdressed-frame a b ends.Unit _)
  other-frame requests.Stop name e = sym (readdressed-frame a b ends.Unit _)
  other-frame requests.Transfer name e = sym (readdressed-frame a b ends.Unit _)

  none : [] ≡ readdressed a b ends.Unit []
  none = sym (readdressed-none a b ends.Unit)

  held_back : (t : Bool) (x y : List ℕ) → x ≡ readdressed a b ends.Unit y → cond t x [] ≡ readdressed a b ends.Unit (cond t y [])
  held_back true x y e = e
  held_back false x y e = none

  sent-last : (t : Bool) (x y : List ℕ) → x ≡ readdressed a b ends.Unit y → cond t [] x ≡ readdressed a b ends.Unit (cond t [] y)
  sent-last true x y e = none
  sent-last false x y e = e

  other_after : (t : ToolState) (m : Meaning) → sent_after b t m ≡ readdressed a b ends.Unit (sent_after a t m)
  unfolding sent_after
  other_after t Ignored = none
  other_after t FailedWait = sent-last (leb 3 t.sendings) _ _ (other-frame t.request t.name t.expected.0)
  other_after t Confirmed = none
  other_after t WholeAnswer = none
  other_after t SubMessageTaken = other-frame t.request t.name (t.expected.0 + 1)
  other_after t LastTaken = none
  other_after t NoRoomForAnswer = none
  other_after t NoRoomForSubMessage = sym (readdressed-frame a b ends.Unit _)
  other_after t (RefusedBy code) = none

  module _ (t : ToolState) where
    other-event : (m : Meaning) (room_len out_len : ℕ) → event_sent b t m room_len out_len ≡ readdressed a b ends.Unit (event_sent a t m room_len out_len)
    unfolding event_sent
    other-event m room_len out_len = held_back (eqb (event_number t room_len out_len) 0) _ _ (other_after t m)

    same-event : (m : Meaning) (new room_len out_len : ℕ) → event_result b t m new room_len out_len ≡ event_result a t m new room_len out_len
    unfolding event_result
    same-event m new room_len out_len = rw (other-event m room_len out_len, readdressed-length a b ends.Unit (event_sent a t m room_len out_len))

    other-begin : (q : Request) (name : AnswerName) (out_len : ℕ) → begin_sent b t q name out_len ≡ readdressed a b ends.Unit (begin_sent a t q name out_len)
    unfolding begin_sent
    other-begin q name out_len = held_back (eqb (begin_number t q name out_len) 0) _ _ (other-frame q name 1)

    same-begin : (q : Request) (name : AnswerName) (out_len : ℕ) → begin_result b t q name out_len ≡ begin_result a t q name out_len
    unfolding begin_result
    same-begin q name out_len = rw (other-begin q name out_len, readdressed-length a b ends.Unit (begin_sent a t q name out_len))

    -- the calls, at two different addresses each
    module _ (n : different a ≡ true) (m : different b ≡ true) where
      both : {A : Type 0} (p q x y : A) → y ≡ x → unless (different b) q y ≡ unless (different a) p x
      both p q x y e = at-different b q y m ∙ e ∙ sym (at-different a p x n)

      same : Readdressed a b t
      unfolding begin_result_given begin_out_given event_result_given event_room_given event_out_given begin_out event_out
      same =
          record {
            begin = λ q name out_len. both _ _ _ _ (same-begin q name out_len);
            begin_out = λ q name out. at-different b _ _ m ∙ ap (λ (f : List ℕ). front f out) (other-begin q name (length out));
            arrival = λ f room_len out_len.
                both _ _ _ _
                (rw (same-meaning room_len t f, same_bytes t f) (same-event (arrival_meaning a room_len t f) (length (arrival_bytes a t f)) room_len out_len));
            arrival_room = λ f out_len room. both _ _ _ _ (rw (same-meaning (length room) t f, same_bytes t f));
            arrival_out = λ f room_len out.
                at-different b _ _ m
                ∙ ap (λ (x : List ℕ). front x out) (rw (same-meaning room_len t f) (other-event (arrival_meaning a room_len t f) room_len (length out)));
            wait = λ room_len out_len. both _ _ _ _ (same-event FailedWait 0 room_len out_len);
            wait_out = λ room_len out. at-different b _ _ m ∙ ap (λ (x : List ℕ). front x out) (other-event FailedWait room_len (length out));
          }

pub claims : ToolGivenClaims
claims =
    record {
      equal = λ a e t. equal a t (equal-ones a e);
      different = λ a n t. two-different a t (different-ones a n);
      readdressed = λ a b n m t. same a b t (different-ones a n) (different-ones b m);
    }

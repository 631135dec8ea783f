-- The claims of specs/Claims.antt, each from its theorem. An arrival is the event that the string means; a wait's end is a failed wait without bytes.
use Prim.Native.Nat.{ℕ}
use mathlib.Core.List.{List, []}
use mathlib.Core.Bool.{true, false}
use mathlib.Core.Path.{◌≡◌, refl}
use native.Mathlib.Omega.{arith}
use lib.ListN.{length}
use borrow.Author.Tests.{le-leb}
use Rattle.frame.specs.declared.Addresses.{Addresses}
use Rattle.frame.specs.Given.{different, judged_given, data_place_given, write_result_given, write_out_given}
use Rattle.split.specs.Split.{sub_result_given, sub_out_given}
use Rattle.frame.proofs.GivenLaws.{equal-ones, different-ones}
use Rattle.arrival.specs.declared.Meaning.{Meaning}
use Rattle.arrival.specs.declared.Meaning.TheVariants.{FailedWait}
use Rattle.arrival.specs.Meaning.{arrival_meaning, arrival_bytes}
use Rattle.unit.specs.Call.{unit_result_given, unit_out_given}
use Rattle.tool.specs.Call.{event_result_given, event_room_given, event_out_given}
use Rattle.states.specs.Packed.{unpacked_tool}
use Rattle.host.specs.Calls.{tool_begin, tool_begin_out}
use Rattle.host.specs.Claims.{HostClaims, EqualClaims, DifferentClaims, AddressClaims, LabClaims, FreshClaims}
use Rattle.host.proofs.Theorems.{unit-refused-result, unit-refused-state, unit-refused-reply, unit-no-state, unit-fresh-refused, tool-fresh-refused}
use Rattle.host.proofs.Theorems.{step-fault, step-not-five}
use Rattle.host.proofs.Theorems.{begin-refused-result, begin-refused-state, begin-refused-out, begin-no-state}
use Rattle.host.proofs.Theorems.{event-refused-result, event-refused-state, event-refused-room, event-refused-out, event-no-state}

-- what the string f means to the tool whose state bytes are b, with a room of so many bytes, and the bytes that it adds
abbrev means : Addresses → List ℕ → List ℕ → ℕ → Meaning
means a b f room = arrival_meaning a room (unpacked_tool b) f

abbrev adds : Addresses → List ℕ → List ℕ → List ℕ
adds a b f = arrival_bytes a (unpacked_tool b) f

module _ (a : Addresses) where
  any-claims : HostClaims a
  unfolding event_result_given event_room_given event_out_given
  any-claims =
      record {
        step_refused = λ b store f reply no.
            record {
              handed = unit-refused-result a b store f reply _ refl no;
              state_kept = unit-refused-state a b store f reply _ refl no;
              reply_kept = unit-refused-reply a b store f reply _ refl no;
            };
        begin_refused = λ b request name out no.
            record {
              handed = begin-refused-result a b out request name _ refl no;
              state_kept = begin-refused-state a b out request name _ refl no;
              out_kept = begin-refused-out a b out request name _ refl no;
            };
        arrival_refused = λ b f room out no.
            record {
              handed = event-refused-result a b room out (adds a b f) (means a b f (length room)) _ refl no;
              state_kept = event-refused-state a b room out (adds a b f) (means a b f (length room)) _ refl no;
              room_kept = event-refused-room a b room out (adds a b f) (means a b f (length room)) _ refl no;
              out_kept = event-refused-out a b room out (adds a b f) (means a b f (length room)) _ refl no;
            };
        wait_refused = λ b room out no.
            record {
              handed = event-refused-result a b room out [] FailedWait _ refl no;
              state_kept = event-refused-state a b room out [] FailedWait _ refl no;
              out_kept = event-refused-out a b room out [] FailedWait _ refl no;
            };
        step_not_five = step-not-five a;
      }

  equal-claims : different a ≡ false → EqualClaims a
  unfolding unit_result_given tool_begin event_result_given
  equal-claims e =
      record {
        step = λ b store f reply. rw e;
        begin = λ b request name out. rw e;
        arrival = λ b f room out. rw e;
        wait = λ b room out. rw e;
      }

  different-claims : different a ≡ true → DifferentClaims a
  unfolding event_result_given
  different-claims d =
      record {
        step_fault = λ b store f reply. step-fault a b store f reply d;
        step_no_state = λ b store f reply h unbroken. unit-no-state a b store f reply d unbroken h;
        begin_no_state = λ b request name out h r s. begin-no-state a b out request name d r s h;
        arrival_no_state = λ b f room out. event-no-state a b room out (adds a b f) (means a b f (length room)) d;
        wait_no_state = λ b room out. event-no-state a b room out [] FailedWait d;
      }

pub claims : AddressClaims
claims =
    record {
      any = any-claims;
      equal = λ a e. equal-claims a (equal-ones a e);
      different = λ a n. different-claims a (different-ones a n);
    }

-- at the lab's addresses the test of the two computes
pub lab-claims : LabClaims
unfolding different unit_result_given unit_out_given tool_begin tool_begin_out event_result_given event_room_given event_out_given judged_given data_place_given
    write_result_given write_out_given sub_result_given sub_out_given
lab-claims =
    record {
      lab_different = λ e. omega arith;
      step = λ b store n f. refl;
      step_reply = λ b store f reply. refl;
      begin = λ b request name n h. rw (le-leb request 5 h);
      begin_out = λ b request name out h. rw (le-leb request 5 h);
      arrival = λ b f m n. refl;
      arrival_room = λ b f n room. refl;
      arrival_out = λ b f m out. refl;
      wait = λ b m n. refl;
      wait_out = λ b m out. refl;
      check = λ end s. refl;
      place = λ end s. refl;
      write = λ d n. refl;
      write_out = λ end d out. refl;
      sub = λ trep k d n. refl;
      sub_out = λ trep k d out. refl;
    }

pub fresh-claims : FreshClaims
fresh-claims = record { unit_fresh_refused = unit-fresh-refused; tool_fresh_refused = tool-fresh-refused }

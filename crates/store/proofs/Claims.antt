-- The claims of specs/Claims.antt, each from its theorem.
use Rattle.store.specs.Layout.{Form, Sized}
use Rattle.store.specs.Claims.{NumberClaims, ListClaims, NarrowClaims, StoreClaims}
use Rattle.store.proofs.ContentsLaws.{contents-holdable}
use Rattle.store.proofs.ListLaws.{is_among_lem, answer-of}
use Rattle.store.proofs.OwnBytes.{own-bytes}
use Rattle.store.proofs.Theorems.{written-unbroken, written-contents, lookup-is, lookup-bytes, stream-is, kth-is, kth-bytes, none_left_lem}
use Rattle.store.proofs.Refusals.{broken-number, number-broken, lookup-fault, held-fault, stream-number, count-number, lookup-not-five}
use Rattle.store.proofs.Refusals.{held-not-five, lookup-six, answer-either, unlisted-number, number-unlisted}
use Rattle.store.proofs.Faults.{fault-claims}
use Rattle.store.proofs.Days.{day-claims}
use Rattle.store.proofs.NarrowLaws.{empty-is, empty-unbroken, empty-contents, w12-is, fault-examples}

numbers : (f : Form) → NumberClaims f
numbers f =
    record {
      broken = λ s. (number-broken f s, broken-number f s);
      lookup_fault = λ name s. lookup-fault f s name;
      stream_fault = stream-number f;
      count_fault = count-number f;
      held_fault = λ i s. held-fault f s i;
      lookup_not_five = λ name s. lookup-not-five f s name;
      held_not_five = λ i s. held-not-five f s i;
      six = λ name s. lookup-six f s name;
    }

list : (f : Form) → Sized f → ListClaims f
list f sized =
    record {
      own = λ s formed z. own-bytes f sized s z formed.bytes formed.marked;
      holdable = λ s formed z. contents-holdable f s z formed.bytes;
      unbroken = written-unbroken f sized;
      back = written-contents f sized;
      named = λ gs i fit. is_among_lem f gs fit i;
      named_bytes = λ gs i fit. answer-of f gs fit i;
      lookup = λ name s z. lookup-is f s z name;
      lookup_bytes = λ name s z. lookup-bytes f s z name;
      stream = stream-is f;
      kth = λ k s z. kth-is f s z k;
      kth_bytes = λ k s z. kth-bytes f s z k;
      none_left = λ k s z. none_left_lem f s z k;
    }

narrow-form : NarrowClaims
narrow-form = record { empty = empty-is; empty_unbroken = empty-unbroken; empty_contents = empty-contents; w12 = w12-is }

pub claims : StoreClaims
claims =
    record {
      numbers = numbers;
      faults = fault-claims;
      fault_examples = fault-examples;
      twelve = λ a day. (number-unlisted a day, unlisted-number a day);
      twelve_only = answer-either;
      list = list;
      days = day-claims;
      narrow_form = narrow-form;
    }

-- The claims of specs/Claims.antt, each from its theorem.
use Rattle.store.specs.Layout.{Form, Sized}
use Rattle.append.specs.Claims.{NumberClaims, ListClaims, ReadBackClaims, AppendClaims}
use Rattle.append.proofs.Theorems.{append-is, append-out, appended, appends}
use Rattle.append.proofs.Refusals.{append-fault, append-not-five, append-twelve, already-held, already-held-only, over-bound, over-bound-only}
use Rattle.append.proofs.Refusals.{buffer-short, buffer-short-only, append-taken, append-taken-only}
use Rattle.append.proofs.Days.{day-claims, day-examples}
use Rattle.append.proofs.Bounds.{fills, one_more_lem}

numbers : (f : Form) → NumberClaims f
numbers f =
    record {
      fault = append-fault f;
      not_five = append-not-five f;
      twelve = append-twelve f;
      seven = λ a day s. (already-held-only f a day s, λ b. already-held f a day s b.0 b.1);
      eight = λ a day s. (over-bound-only f a day s, λ b. over-bound f a day s b.0 b.1);
      four = λ a day s. (buffer-short-only f a day s, λ b. buffer-short f a day s b.0 b.1);
      taken = λ a day s. (append-taken-only f a day s, λ b. append-taken f a day s b.0 b.1);
    }

list : (f : Form) → Sized f → ListClaims f
list f sized = record { append_refusal = λ g s z. append-is f s z g; append = append-out f sized }

leaves : (f : Form) → Sized f → ReadBackClaims f
leaves f sized = record { append = appended f sized; appends = appends f sized }

pub claims : AppendClaims
claims =
    record {
      numbers = numbers;
      list = list;
      leaves = leaves;
      days = day-claims;
      day_examples = day-examples;
      narrow_form = record { fills = λ name d s allowed. fills name d s allowed; one_more = one_more_lem };
    }

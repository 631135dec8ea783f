-- The claims of specs/Days.antt.
use Prim.Native.Nat.{ℕ, ◌<◌}
use mathlib.Core.Bool.{Bool, true, false, ◌&&◌}
use mathlib.Core.List.{List}
use mathlib.Core.Logic.{◌↔◌}
use mathlib.Core.Path.{◌≡◌, refl, sym, ap, ◌∙◌}
use lib.Dec.{eqb}
use lib.ListN.{get_or}
use Rattle.octets.specs.Order.{unless}
use Rattle.catalog.specs.Table.{listed, is_activities}
use Rattle.catalog.specs.Name.{day_of, day_stored, rounded}
use Rattle.catalog.specs.Claims.{name_number_before}
use Rattle.catalog.proofs.Claims.{claims}
use Rattle.catalog.specs.declared.AnswerName.{AnswerName}
use Rattle.catalog.proofs.DayLaws.{rounded-other, rounded-multiple, rounded-stored, same-rounded, rounded-day}
use Rattle.store.specs.Layout.{Form, answers, answer_start, name_at}
use Rattle.store.specs.Check.{answer_right, store_number}
use Rattle.store.specs.Read.{lookup_number, lookup_place}
use Rattle.store.specs.Answer.{name_of, answer_number}
use Rattle.store.specs.Days.{lookup_number_before, lookup_place_before, answer_number_before, DayClaims}
use Rattle.store.proofs.StoreLaws.{held}

module _ (f : Form) (name : AnswerName) (i : ℕ) (s : List ℕ) where
  activities-is : store_number f s ≡ 0 → i < answers f s → is_activities name.trep ≡ true
      → (name_at f i s ≡ rounded name) ↔ (((name_at f i s).trep ≡ name.trep) × (day_of (name_at f i s).day ≡ day_of name.day))
  activities-is z h a =
      let own : rounded (name_at f i s) ≡ name_at f i s = rounded-stored (name_at f i s) (held f s z i h).day in (
        (λ e. let q = rounded-day name (name_at f i s) a (sym (own ∙ e)) in (sym q.0, sym q.1)),
        (λ q. sym (same-rounded name (name_at f i s) a (sym q.0) (sym q.1) ∙ own)),
      )

  other-is : is_activities name.trep ≡ false → (name_at f i s ≡ rounded name) ↔ (name_at f i s ≡ name)
  other-is a = ((λ e. e ∙ rounded-other name a), (λ e. e ∙ sym (rounded-other name a)))

-- 12 refuses exactly what is not listed, or has no day of an entry
check-is : (f : Form) (i : ℕ) (s : List ℕ)
    → answer_right f i s ≡ (eqb (get_or s (answer_start f i s) 0) 0x76 && eqb (name_number_before (name_at f i s)) 0)
unfolding answer_right name_number_before
check-is f i s = ap (λ (t : Bool). eqb (get_or s (answer_start f i s) 0) 0x76 && t) (go (listed (name_at f i s).trep) (day_stored (name_at f i s)))
  where
    go : (l d : Bool) → (l && d) ≡ eqb (unless l 12 (unless d 12 0)) 0
    go true true = refl
    go true false = refl
    go false d = refl

pub day-claims : (f : Form) → DayClaims f
unfolding lookup_number lookup_place lookup_number_before lookup_place_before answer_number answer_number_before
day-claims f =
    record {
      activities = activities-is f;
      others = other-is f;
      alike = λ a b s e. rw e;
      check = check-is f;
      whole_number = λ name s e. rw (rounded-multiple name e);
      whole_place = λ name s e. rw (rounded-multiple name e);
      whole_answer = λ a day e. rw (claims.whole_days.number (name_of a day) e);
    }

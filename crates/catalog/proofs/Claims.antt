-- The claims of specs/Claims.antt, each from its law.
use Prim.Native.Nat.{ℕ}
use mathlib.Core.Bool.{Bool, true, false, ◌||◌}
use mathlib.Core.Logic.{◌⊎◌, inl}
use mathlib.Core.Path.{◌≡◌, refl, ap}
use native.Mathlib.Omega.{arith}
use lib.Dec.{eqb}
use borrow.Author.Tests.{ne_eqb, eqb-false}
use Rattle.octets.specs.Order.{unless}
use Rattle.octets.proofs.OrderLaws.{unless-either}
use Rattle.catalog.specs.Table.{listed, is_activities}
use Rattle.catalog.specs.Name.{first_second, day_named, name_number, rounded}
use Rattle.catalog.specs.declared.AnswerName.{AnswerName}
use Rattle.catalog.specs.Claims.{DayClaims, Unnamed, unlisted, dated, NameClaims, name_number_before, WholeDayClaims, CatalogClaims}
use Rattle.catalog.proofs.DayLaws.{first-in-day, first-least, one-first, one-day, rounded-multiple, rounded-stored, multiple-named}
use Rattle.catalog.proofs.DayLaws.{rounded-number, stored-rounded, same-rounded, rounded-day, rounded-equal}

days : DayClaims
unfolding first_second
days =
    record {
      in_day = first-in-day;
      least = first-least;
      same = λ a b. (one-day a b, one-first a b);
      end_of_zero = (refl, refl);
      begin_of_one = (refl, refl);
      end_of_one = (refl, refl);
      end_of_all = (refl, refl);
    }

-- 12, each way
module _ (name : AnswerName) where
  either : (name_number name ≡ 0) ⊎ (name_number name ≡ 12)
  unfolding name_number
  either = unless-either (listed name.trep) 12 _ (unless-either (day_named name) 12 0 (inl refl))

  twelve-only : name_number name ≡ 12 → Unnamed name
  unfolding name_number day_named
  twelve-only = go (listed name.trep) (is_activities name.trep) (eqb name.day 0) refl refl refl
    where
      go : (l a z : Bool) → listed name.trep ≡ l → is_activities name.trep ≡ a → eqb name.day 0 ≡ z
          → ◌≡◌ {A = ℕ} (unless l 12 (unless (a || z) 12 0)) 12 → Unnamed name
      go false a z el ea ez e = unlisted el
      go true true z el ea ez e = absurd (omega arith)
      go true false true el ea ez e = absurd (omega arith)
      go true false false el ea ez e = dated ea (eqb-false _ _ ez)

  twelve : Unnamed name → name_number name ≡ 12
  unfolding name_number day_named
  twelve (unlisted e) = rw e
  twelve (dated a z) = rw (a, ne_eqb name.day 0 z) (go (listed name.trep))
    where
      go : (l : Bool) → ◌≡◌ {A = ℕ} (unless l 12 12) 12
      go true = refl
      go false = refl

names : NameClaims
names =
    record {
      twelve = λ name. (twelve-only name, twelve name);
      twelve_only = either;
      number = rounded-number;
      stored = stored-rounded;
      of_entry = rounded-stored;
      activities = λ a b e. (rounded-day a b e, λ q. same-rounded a b e q.0 q.1);
      others = λ a b e. (rounded-equal a b e, λ q. ap rounded q);
    }

whole-days : WholeDayClaims
unfolding name_number name_number_before
whole-days = record { name = rounded-multiple; number = λ name e. rw (multiple-named name e) }

pub claims : CatalogClaims
claims = record { days = days; names = names; whole_days = whole-days }

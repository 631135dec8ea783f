-- An answer as a store keeps it: its name is the rounded one, 12 asks the same of it, and a store may hold it.
use Prim.Native.Nat.{ℕ}
use mathlib.Core.List.{List, [], ◌∷◌, map}
use mathlib.Core.Path.{◌≡◌, refl}
use native.Mathlib.Omega.{arith}
use lib.ListN.{get_or, get_or-map}
use Rattle.catalog.specs.Table.{is_activities}
use Rattle.catalog.specs.Name.{rounded}
use Rattle.catalog.proofs.DayLaws.{rounded-number, rounded-least, stored-rounded}
use Rattle.store.specs.Answer.{answer_number}
use Rattle.store.specs.Contents.{Stored, name_for, kept, nothing, back_to_back, InBytes, Listed}
use Rattle.store.proofs.AnswerLaws.{answer-allowed}

module _ (g : Stored) where
  pub kept-name : name_for (kept g) ≡ rounded (name_for g)
  unfolding rounded
  kept-name = refl

  kept-number : answer_number g.answer (kept g).day ≡ answer_number g.answer g.day
  unfolding answer_number
  kept-number = rw (kept-name, rounded-number (name_for g))

  pub kept-listed : InBytes g → answer_number g.answer g.day ≡ 0 → Listed (kept g)
  kept-listed given e =
      record {
        in_bytes = record { bytes = given.bytes; day = omega (arith, given.day, rounded-least (name_for g)) };
        number = rw kept-number e;
        day = rw kept-name (stored-rounded (name_for g) (answer-allowed g.answer g.day e));
      }

-- lists of them
pub back-kept : (gs : List Stored) → back_to_back (map kept gs) ≡ back_to_back gs
unfolding back_to_back
back-kept [] = refl
back-kept (g ∷ gs) = rw (back-kept gs)

pub kept_at : (gs : List Stored) (i : ℕ) → get_or (map kept gs) i nothing ≡ kept (get_or gs i nothing)
unfolding rounded is_activities
kept_at gs i = get_or-map kept gs i nothing

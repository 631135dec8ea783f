-- What the search for a name says of the names held.
use Prim.Native.Nat.{ℕ, ◌<◌, ◌≤◌}
use mathlib.Core.Bool.{Bool, true, false}
use mathlib.Core.List.{List}
use mathlib.Core.Path.{◌≡◌}
use native.Mathlib.Omega.{arith}
use native.Mathlib.Decide.{dec_lt}
use borrow.Author.Tests.{lt-ltb, le-ltb, ltb-false}
use Rattle.octets.proofs.SearchLaws.{first_holds, first-least}
use Rattle.catalog.specs.Name.{same_answer}
use Rattle.catalog.specs.declared.AnswerName.{AnswerName}
use Rattle.catalog.proofs.NameLaws.{same_self, same-is}
use Rattle.store.specs.Layout.{Form, answers, name_at}
use Rattle.store.specs.Read.{position, is_held}
use Rattle.store.specs.Claims.{HeldAs, Missing}

module _ (f : Form) (name : AnswerName) (s : List ℕ) where
  abbrev pub has_name : ℕ → Bool
  has_name i = same_answer (name_at f i s) name

  -- the answer that it stops at has the name
  pub position-named : position f name s < answers f s → name_at f (position f name s) s ≡ name
  position-named h = same-is (name_at f (position f name s) s) name (first_holds has_name (answers f s) h)

  -- it does not pass an answer with the name
  pub position_first : (j : ℕ) → name_at f j s ≡ name → position f name s ≤ j
  position_first j e = first-least has_name (answers f s) j (rw e (same_self name))

  pub held-position : HeldAs f name s → position f name s < answers f s
  held-position h = omega (arith, h.below, position_first h.at h.named)

  pub position-held : position f name s < answers f s → HeldAs f name s
  position-held h = record { at = position f name s; below = h; named = position-named h }

  pub position-missing : answers f s ≤ position f name s → Missing f name s
  position-missing h i l e = let p = held-position (record { at = i; below = l; named = e }) in omega arith

  pub missing-position : Missing f name s → answers f s ≤ position f name s
  missing-position h =
      elim (dec_lt (position f name s) (answers f s)) as (λ _. answers f s ≤ position f name s) [
        | yes l ↦ absurd (h (position f name s) l (position-named l))
        | no l ↦ omega arith
      ]

  -- the same of the test whether it is held
  pub held-is : HeldAs f name s → is_held f name s ≡ true
  held-is h = lt-ltb (position f name s) (answers f s) (held-position h)

  pub missing-not : Missing f name s → is_held f name s ≡ false
  missing-not h = le-ltb (position f name s) (answers f s) (missing-position h)

  pub not-held : is_held f name s ≡ false → Missing f name s
  not-held h = position-missing (ltb-false _ _ h)

-- An answer to append: its number from the tests of the code, and what number 0 says of it.
use Prim.Native.Nat.{ℕ, ◌<◌, ◌≤◌}
use mathlib.Core.List.{List}
use mathlib.Core.Path.{◌≡◌, refl}
use lib.Dec.{eqb, leb}
use lib.ListN.{length, get_or}
use borrow.Author.Tests.{le-leb, lt-leb, eq-eqb, ne_eqb, leb-true, eqb-true}
use Rattle.octets.proofs.OrderLaws.{unless-is}
use Rattle.catalog.specs.Name.{name_number}
use Rattle.store.specs.Answer.{name_of, answer_number}

module _ (a : List ℕ) (day : ℕ) where
  pub answer-short : length a < 2 → 12 ≡ answer_number a day
  unfolding answer_number
  answer-short h = rw (lt-leb 2 (length a) h)

  pub answer-other : 2 ≤ length a → (get_or a 0 0 ≡ 0x76 → ⊥) → 12 ≡ answer_number a day
  unfolding answer_number
  answer-other l h = rw (le-leb 2 (length a) l, ne_eqb (get_or a 0 0) 0x76 h)

  pub answer-named : (r : ℕ) → 2 ≤ length a → get_or a 0 0 ≡ 0x76 → r ≡ name_number (name_of a day) → r ≡ answer_number a day
  unfolding answer_number
  answer-named r l h e = rw (le-leb 2 (length a) l, eq-eqb (get_or a 0 0) 0x76 h) e

  -- what number 0 says: at least two bytes, 76 first, and a name that number 12 allows
  pub answer-long : answer_number a day ≡ 0 → 2 ≤ length a
  unfolding answer_number
  answer-long e = leb-true 2 (length a) (unless-is (leb 2 (length a)) 12 _ 0 refl e).first

  pub answer-begun : answer_number a day ≡ 0 → get_or a 0 0 ≡ 0x76
  unfolding answer_number
  answer-begun e = eqb-true _ _ (unless-is (eqb (get_or a 0 0) 0x76) 12 _ 0 refl (unless-is (leb 2 (length a)) 12 _ 0 refl e).rest).first

  pub answer-allowed : answer_number a day ≡ 0 → name_number (name_of a day) ≡ 0
  unfolding answer_number
  answer-allowed e = (unless-is (eqb (get_or a 0 0) 0x76) 12 _ 0 refl (unless-is (leb 2 (length a)) 12 _ 0 refl e).rest).rest

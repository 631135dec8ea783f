-- Sizes over the form, as sums: a product of the entry's size and a count is read by these laws alone.
use Prim.Native.Nat.{ℕ, suc, ◌+◌, ◌*◌, ◌<◌, ◌≤◌}
use mathlib.Core.Path.{◌≡◌, refl, sym, ap, ◌∙◌}
use native.Mathlib.Omega.{arith}
use native.Mathlib.Nat.{mul-suc, mul-zero, mul-le-mul_left}
use native.Mathlib.Numerals.{add-one}
use lib.ListN.{length}
use Rattle.store.specs.Layout.{Form, Sized, narrow, header_size, entry_size, entries_size, entry_start}

pub narrow-sized : Sized narrow
narrow-sized = record { field = refl; counts = omega arith; streams = omega arith }

module _ (f : Form) where
  pub header-size : header_size f ≡ length f.mark + (f.width + f.width)
  unfolding header_size
  header-size = refl

  pub entry-size : entry_size f ≡ 4 + (f.width + f.width)
  unfolding entry_size
  entry-size = refl

  pub entries_none : entries_size f 0 ≡ 0
  unfolding entries_size
  entries_none = mul-zero (entry_size f)

  pub entries_next : (i : ℕ) → entries_size f (i + 1) ≡ entries_size f i + entry_size f
  unfolding entries_size
  entries_next i = ap (λ (k : ℕ). entry_size f * k) (add-one i) ∙ mul-suc (entry_size f) i

  pub entries-suc : (i : ℕ) → entries_size f (suc i) ≡ entry_size f + entries_size f i
  entries-suc i = ap (entries_size f) (sym (add-one i)) ∙ omega (arith, entries_next i)

  pub entries-within : (i n : ℕ) → i ≤ n → entries_size f i ≤ entries_size f n
  unfolding entries_size
  entries-within i n h = mul-le-mul_left (entry_size f) h

  -- an entry below n lies before the n-th
  pub entry-below : (i n : ℕ) → i < n → entry_start f i + entry_size f ≤ entry_start f n
  entry-below i n h = omega (arith, entries_next i, entries-within (i + 1) n (omega arith))

-- Lists by index: their length, their values, and the list of a list's own values.
use Rattle.std.proofs.Common.{◌≡◌, ℕ, zero, suc, ◌<◌, List, [], ◌∷◌, length, get_or, refl, ap, ap₂, arith}
use Rattle.octets.specs.Values.{up_to}

module _ {A : Type 0} where
  pub same-values : (n : ℕ) (f g : ℕ → A) → ((i : ℕ) → i < n → f i ≡ g i) → up_to n f ≡ up_to n g
  unfolding up_to
  same-values zero f g e = refl
  same-values (suc n) f g e =
      ap₂ (λ (x : A) (xs : List A). x ∷ xs) (e 0 (omega arith)) (same-values n (λ i. f (suc i)) (λ i. g (suc i)) (λ i h. e (suc i) (omega arith)))

  pub length-values : (n : ℕ) (f : ℕ → A) → length (up_to n f) ≡ n
  unfolding up_to
  length-values zero f = refl
  length-values (suc n) f = ap suc (length-values n (λ i. f (suc i)))

  pub value-at : (n : ℕ) (f : ℕ → A) (i : ℕ) (d : A) → i < n → get_or (up_to n f) i d ≡ f i
  unfolding up_to
  value-at zero f i d h = absurd (omega arith)
  value-at (suc n) f zero d h = refl
  value-at (suc n) f (suc i) d h = value-at n (λ j. f (suc j)) i d (omega arith)

  pub values_of : (l : List A) (d : A) → up_to (length l) (λ i. get_or l i d) ≡ l
  unfolding up_to
  values_of [] d = refl
  values_of (x ∷ l) d = ap (λ (xs : List A). x ∷ xs) (values_of l d)

-- Lists by index.
use Rattle.std.specs.Prelude.{ℕ, zero, suc, List, [], ◌∷◌}

module _ {A : Type 0} where
  -- the values at 0, 1, .. below n
  unfoldable pub up_to : ℕ → (ℕ → A) → List A
  up_to zero value = []
  up_to (suc n) value = value 0 ∷ up_to n (λ i. value (suc i))

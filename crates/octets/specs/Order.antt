-- Checks in order: each one gives its refusal where it fails, and hands on to the next where it holds.
use Rattle.std.specs.Prelude.{ℕ, Bool, cond, ◌==◌}

module _ {A : Type 0} where
  -- the refusal unless the check holds, else the rest
  abbrev pub unless : Bool → A → A → A
  unless holds refusal rest = cond holds rest refusal

-- the number of the checks before, or, where that is 0, the number of those that follow
abbrev pub or_else : ℕ → ℕ → ℕ
or_else number rest = cond (number == 0) rest number

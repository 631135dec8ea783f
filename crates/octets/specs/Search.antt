-- The first place where a test holds.
use Rattle.std.specs.Prelude.{ℕ, zero, suc, ◌+◌, Bool, cond, not, nat_lt}

-- of k places from i on; the place behind them all where it holds at none
unfoldable pub first_from : (ℕ → Bool) → ℕ → ℕ → ℕ
first_from test zero i = i
first_from test (suc k) i = cond (test i) i (first_from test k (i + 1))

-- of the places below n; n where it holds at none
abbrev pub first_of : (ℕ → Bool) → ℕ → ℕ
first_of test n = first_from test n 0

-- it holds at one of the places below n; at none of them
abbrev pub any_of : (ℕ → Bool) → ℕ → Bool
any_of test n = nat_lt (first_of test n) n

abbrev pub none_of : (ℕ → Bool) → ℕ → Bool
none_of test n = not (any_of test n)

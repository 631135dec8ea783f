-- States read from bytes, from what `state_in` gave: a state, or none.
use Prim.Native.Nat.{ℕ}
use mathlib.Core.Bool.{Bool, true, false, cond}
use mathlib.Core.Path.{◌≡◌, refl, ap, ◌∙◌}
use Rattle.std.specs.Prelude.{Option, Some, None}
use Rattle.std.specs.Option.{unwrap_or}
use Rattle.octets.proofs.Tests.{never}

module _ {A : Type 0} where
  -- none: the impossible state n
  either-way : (is : Bool) (v n : A) → unwrap_or (cond is (Some (cond is v n)) None) n ≡ cond is v n
  either-way true v n = refl
  either-way false v n = refl

  pub unpacked-or : (is : Bool) (v n : A) (o : Option A) (d r : A) → o ≡ cond is (Some (cond is v n)) None → d ≡ n → r ≡ unwrap_or o d → r ≡ cond is v n
  unpacked-or is v n o d r e q h = h ∙ rw (e, q) (either-way is v n)

  -- the number of the state t that was read from bytes of the state u
  pub read-some : (is : Bool) (t u : A) (value : A → ℕ) (x other : ℕ) → Some t ≡ cond is (Some u) None → x ≡ value t → x ≡ cond is (value u) other
  read-some true t u value x other e h = h ∙ ap (λ (o : Option A). value (unwrap_or o t)) e
  read-some false t u value x other e h = never (cc)

  pub read-none : (is : Bool) (u : A) (value : A → ℕ) (other : ℕ) → ◌≡◌ {A = Option A} None (cond is (Some u) None) → other ≡ cond is (value u) other
  read-none true u value other e = never (cc)
  read-none false u value other e = refl

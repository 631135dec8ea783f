-- What a call hands back, from its number: the laws that the proofs of all calls cite at their returns.
use native.Mathlib.Omega.{arith}
use Rattle.std.proofs.Common.{◌≡◌, refl, ℕ, Bool, true, false, eqb, List, sym, ◌∙◌, ne_eqb}
use Rattle.octets.specs.Buffer.{part_at}
use Rattle.octets.specs.declared.refusal.Refusal.{Refusal}
use Rattle.octets.specs.declared.refusal.Refusal.TheVariants as refusals
use Rattle.std.specs.Prelude.{Result, Ok, Err, is_err, ⊤}
use Rattle.octets.specs.Numbers.{number, judgement, changed_by, written_by, place_by, refused_place, counted_by}
use Rattle.octets.specs.declared.Written.{Written}
use Rattle.octets.specs.declared.Place.{Place}
use Rattle.octets.specs.declared.Counted.{Counted}

module _ {A : Type 0} where
  -- refused with the number k that the call gave: as it was
  pub kept : (k number : ℕ) (new old : A) → k ≡ number → eqb k 0 ≡ false → old ≡ changed_by number new old
  kept k number new old e n = rw (← e, n)

  -- not refused: the new value
  pub changed : (number : ℕ) (x new old : A) → 0 ≡ number → x ≡ new → x ≡ changed_by number new old
  changed number x new old e q = rw (← e) q

-- the results, field by field
pub written_is : (k n number m : ℕ) → k ≡ number → n ≡ changed_by number m 0 → ◌≡◌ {A = Written} (record { number = k; len = n }) (written_by number m)
written_is k n number m e q = cc

pub place_is : (k s n number start m : ℕ) → k ≡ number → s ≡ changed_by number start 0 → n ≡ changed_by number m 0
    → ◌≡◌ {A = Place} (record { number = k; start = s; len = n }) (place_by number start m)
place_is k s n number start m e p q = cc

pub counted_is : (k n number m : ℕ) → k ≡ number → n ≡ changed_by number m 0 → ◌≡◌ {A = Counted} (record { number = k; count = n }) (counted_by number m)
counted_is k n number m e q = cc

-- the same where the number is what a call gave: r is tested by the code
module _ {A : Type 0} where
  pub kept_by : (r number : ℕ) (new old : A) → r ≡ number → (r ≡ 0 → ⊥) → old ≡ changed_by number new old
  kept_by r number new old e n = kept r number new old e (ne_eqb r 0 n)

  pub changed-by : (r number : ℕ) (x new old : A) → r ≡ number → r ≡ 0 → x ≡ new → x ≡ changed_by number new old
  changed-by r number x new old e n q = changed number x new old (sym n ∙ e) q

pub place-refused : (r number start m : ℕ) (place : Place) → r ≡ number → (r ≡ 0 → ⊥) → place ≡ refused_place r → place ≡ place_by number start m
place-refused r number start m place e n q = q ∙ place_is r 0 0 number start m e (kept_by r number start 0 e n) (kept_by r number m 0 e n)

pub zero-by : (r number : ℕ) → r ≡ number → r ≡ 0 → 0 ≡ number
zero-by r number e n = sym n ∙ e

-- `search (rules, calls)` for the returns of a call that tests its number
pub ruleset calls = (written_is, place_is, counted_is, kept_by, changed-by, zero-by)

-- the part at the place that a call gave
pub part_of : (place place' : Place) (s r : List ℕ) → place ≡ place' → r ≡ part_at place.start place.len s → r ≡ part_at place'.start place'.len s
part_of place place' s r e q = rw (← e) q

-- no refusal has number 0
pub refused-number : (refusal : Refusal) → number refusal ≡ 0 → ⊥
refused-number refusals.FrameCount e = omega arith
refused-number refusals.FormatOrAddress e = omega arith
refused-number refusals.ChecksumWrong e = omega arith
refused-number refusals.BufferShort e = omega arith
refused-number refusals.NotHeld e = omega arith
refused-number refusals.AlreadyHeld e = omega arith
refused-number refusals.OverBound e = omega arith
refused-number refusals.NotArrays e = omega arith
refused-number refusals.NoSuch e = omega arith
refused-number refusals.OutOfTurn e = omega arith
refused-number refusals.NotInTable e = omega arith
refused-number refusals.StoreShort e = omega arith
refused-number refusals.StoreBounds e = omega arith
refused-number refusals.StoreEntry e = omega arith
refused-number refusals.StoreAnswer e = omega arith
refused-number refusals.StoreTwice e = omega arith

-- a judgement that the code asked for an error: t is the answer
pub judged-refused : (judged : Result ⊤ Refusal) (t : Bool) → t ≡ is_err judged → t ≡ true → judgement judged ≡ 0 → ⊥
judged-refused (Ok x) t e h z = absurd (let w : false ≡ true = sym e ∙ h in cc)
judged-refused (Err refusal) t e h z = refused-number refusal z

pub judged-done : (judged : Result ⊤ Refusal) (t : Bool) → t ≡ is_err judged → t ≡ false → judgement judged ≡ 0
judged-done (Ok x) t e h = refl
judged-done (Err refusal) t e h = absurd (let w : true ≡ false = sym e ∙ h in cc)

-- The state, from the tests of the code: the answer that is being sent, and what is possible.
use Prim.Native.Nat.{ℕ, ◌<◌, ◌≤◌}
use mathlib.Core.Bool.{Bool, true, false, not, ◌&&◌}
use mathlib.Core.Path.{◌≡◌, sym, ap, ◌∙◌}
use lib.Dec.{eqb, ltb, leb}
use borrow.Author.Tests.{le-leb, lt-leb, eq-eqb, ne_eqb, leb-true, ltb-true, eqb-true, not-true, not-false}
use Rattle.octets.specs.declared.Place.{Place}
use Rattle.octets.specs.declared.Part.{Part}
use Rattle.octets.specs.Numbers.{part_of_place}
use Rattle.octets.proofs.Tests.{and_left, and_right}
use Rattle.split.specs.Split.{single_most, is_split, count_of}
use Rattle.split.specs.declared.SubMessage.{SubMessage}
use Rattle.services.specs.declared.UnitState.{UnitState}
use Rattle.services.specs.State.{data_length, data_length_at, sendable, phase_possible, possible_at}

-- whether an answer is split, from the code's own tests: n is the length of its data, t whether that is split
pub split-is : (part : Part) (n : ℕ) (t : Bool) → n ≡ data_length part → t ≡ is_split n → is_split (data_length part) ≡ t
split-is part n t measured asked = sym (asked ∙ ap is_split measured)

-- The returns of `sendable`, from its tests; n and t as above
module _ (place : Place) (k : SubMessage) where
  pub sendable-missing : (place.number ≡ 0 → ⊥) → false ≡ sendable place k
  unfolding sendable
  sendable-missing z = rw (ne_eqb place.number 0 z)

  module _ (held : place.number ≡ 0) (n : ℕ) (measured : n ≡ data_length_at place) (t : Bool) (asked : t ≡ is_split n) where
    is-split : is_split (data_length_at place) ≡ t
    is-split = split-is (part_of_place place) n t measured asked

    pub sendable-whole : not t ≡ true → false ≡ sendable place k
    unfolding sendable
    sendable-whole h = rw (eq-eqb place.number 0 held, is-split, not-true t h)

    module _ (split : not t ≡ false) where
      pub sendable-zero : k.0 < 1 → false ≡ sendable place k
      unfolding sendable
      sendable-zero h = rw (eq-eqb place.number 0 held, is-split, not-false t split, lt-leb 1 k.0 h)

      pub sendable-is : (c : ℕ) → 1 ≤ k.0 → c ≡ count_of n → leb k.0 c ≡ sendable place k
      unfolding sendable
      sendable-is c h e = rw (eq-eqb place.number 0 held, is-split, not-false t split, le-leb 1 k.0 h, e, measured)

-- what `sendable` says
pub record Sendable (place : Place) (k : ℕ) : Type 0 where
  pub held : place.number ≡ 0
  pub split : single_most < data_length_at place
  pub first : 1 ≤ k
  pub last : k ≤ count_of (data_length_at place)

pub sendable-says : (place : Place) (k : SubMessage) → sendable place k ≡ true → Sendable place k.0
unfolding sendable
sendable-says place k e =
    let p = and_right (eqb place.number 0) _ e in
    let q = and_right (is_split (data_length_at place)) _ p in
    record {
      held = eqb-true _ _ (and_left (eqb place.number 0) _ e);
      split = ltb-true _ _ (and_left (is_split (data_length_at place)) _ p);
      first = leb-true _ _ (and_left (leb 1 k.0) _ q);
      last = leb-true _ _ (and_right (leb 1 k.0) _ q);
    }

-- possible, from the answer about the phase
pub possible-is : (u : UnitState) (place : Place) (k r : Bool) → k ≡ ltb u.kind 3 → r ≡ phase_possible place u.phase
    → (k && ((leb 1 u.rate && leb u.rate 5) && (leb u.pending 5 && r))) ≡ possible_at place u
unfolding possible_at
possible-is u place k r d e = rw (d, e)

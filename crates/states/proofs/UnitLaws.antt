-- The unit's packed state: the functions' returns, and that packing and unpacking undo each other.
use Prim.Native.Nat.{ℕ, zero, suc, ◌<◌, ◌≤◌}
use mathlib.Core.Bool.{true, false, ◌&&◌, ◌||◌}
use mathlib.Core.List.{List, [], ◌∷◌, ◌++◌}
use mathlib.Core.Path.{◌≡◌, refl, sym, ap, ap₂, ◌∙◌}
use native.Mathlib.Omega.{arith}
use lib.Dec.{eqb, leb}
use lib.ListN.{length, get_or}
use borrow.Author.Tests.{le-leb, lt-leb, eq-eqb, ne_eqb, eqb-true}
use Rattle.fields.specs.BigEndian.{number_of, bytes_of, number_at}
use Rattle.fields.proofs.NumberLaws.{number-of-bytes, be-two, be-four}
use Rattle.std.specs.Int.{w16, w32, to_be_bytes}
use Rattle.octets.proofs.Tests.{and_left, and_right, never}
use Rattle.catalog.specs.declared.AnswerName.{AnswerName}
use Rattle.split.specs.declared.SubMessage.{SubMessage}
use Rattle.split.specs.Codes.{sub}
use Rattle.services.specs.declared.Phase.{Phase}
use Rattle.services.specs.declared.Phase.TheVariants.{Closed, Started, Session, Granted, Sending}
use Rattle.services.specs.declared.UnitState.{UnitState}
use Rattle.catalog.specs.Name.{zero_name}
use Rattle.states.specs.Packed.{phase_byte, phase_from, name_packed, last_packed, packed_unit, unit_name, unit_last, sends_nothing, is_unit, no_unit, unpacked_unit}
use Rattle.states.proofs.FieldLaws.{spelled, field-two, field_back}

-- Whether bytes are a state, from the tests of the code in their order; d and n are the numbers it read
module _ (b : List ℕ) where
  pub unit-length : (length b ≡ 11 → ⊥) → false ≡ is_unit b
  unfolding is_unit
  unit-length h = rw (ne_eqb (length b) 11 h)

  module _ (l : length b ≡ 11) where
    pub unit-sending : get_or b 3 0 ≡ 4 → true ≡ is_unit b
    unfolding is_unit
    unit-sending h = rw (eq-eqb (length b) 11 l, eq-eqb (get_or b 3 0) 4 h)

    module _ (s : get_or b 3 0 ≡ 4 → ⊥) where
      pub unit-phase : 3 < get_or b 3 0 → false ≡ is_unit b
      unfolding is_unit
      unit-phase h = rw (eq-eqb (length b) 11 l, ne_eqb (get_or b 3 0) 4 s, lt-leb (get_or b 3 0) 3 h)

      module _ (p : get_or b 3 0 ≤ 3) where
        pub unit-trep : (get_or b 4 0 ≡ 0 → ⊥) → false ≡ is_unit b
        unfolding is_unit
        unit-trep h = rw (eq-eqb (length b) 11 l, ne_eqb (get_or b 3 0) 4 s, le-leb (get_or b 3 0) 3 p, ne_eqb (get_or b 4 0) 0 h)

        module _ (t : get_or b 4 0 ≡ 0) (d : ℕ) (e : d ≡ number_at 4 5 b) where
          pub unit-day : (d ≡ 0 → ⊥) → false ≡ is_unit b
          unfolding is_unit
          unit-day h =
              rw (eq-eqb (length b) 11 l, ne_eqb (get_or b 3 0) 4 s, le-leb (get_or b 3 0) 3 p, eq-eqb (get_or b 4 0) 0 t, ← e, ne_eqb d 0 h)

          pub unit-last : (n : ℕ) → d ≡ 0 → n ≡ number_at 2 9 b → eqb n 0 ≡ is_unit b
          unfolding is_unit
          unit-last n z q =
              rw (eq-eqb (length b) 11 l, ne_eqb (get_or b 3 0) 4 s, le-leb (get_or b 3 0) 3 p, eq-eqb (get_or b 4 0) 0 t, ← e, eq-eqb d 0 z, q)

-- Unpacking

pub unit_size : (b : List ℕ) → is_unit b ≡ true → length b ≡ 11
unfolding is_unit
unit_size b h = eqb-true (length b) 11 (and_left (eqb (length b) 11) _ h)

module _ (b : List ℕ) where
  pub unit-none : (r : UnitState) → is_unit b ≡ false → r ≡ no_unit → r ≡ unpacked_unit b
  unfolding unpacked_unit
  unit-none r h e = rw h e

  -- each field as it was read
  pub unit-some : (kind rate pending byte trep day last high low : ℕ) (phase : Phase) → is_unit b ≡ true →
      kind ≡ get_or b 0 0 → rate ≡ get_or b 1 0 → pending ≡ get_or b 2 0 → byte ≡ get_or b 3 0 → trep ≡ get_or b 4 0 → day ≡ number_at 4 5 b →
      high ≡ get_or b 9 0 → low ≡ get_or b 10 0 → last ≡ number_of (high ∷ low ∷ []) →
      phase ≡ phase_from byte (record { trep = trep; day = day }) (sub last) →
      ◌≡◌ {A = UnitState} (record { kind = kind; rate = rate; pending = pending; phase = phase }) (unpacked_unit b)
  unfolding unpacked_unit
  unit-some kind rate pending byte trep day last high low phase h e₀ e₁ e₂ e₃ e₄ e₅ p q e₆ e₇ =
      let l : length b ≡ 11 = unit_size b h in
      let n : last ≡ number_at 2 9 b = field-two 9 last high low b (omega arith) e₆ p q in
      rw (h, ← e₀, ← e₁, ← e₂, ← e₃, ← e₄, ← e₅, ← n, e₇)

-- Packing

-- d and l are the bytes of the day and the last number
pub unit-packed : (u : UnitState) (byte : ℕ) (name : AnswerName) (last : SubMessage) (d l : List ℕ) → byte ≡ phase_byte u.phase → name ≡ name_packed u.phase
    → last ≡ last_packed u.phase → d ≡ to_be_bytes w32 name.day → l ≡ to_be_bytes w16 last.0
    → u.kind ∷ u.rate ∷ u.pending ∷ byte ∷ name.trep ∷ get_or d 0 0 ∷ get_or d 1 0 ∷ get_or d 2 0 ∷ get_or d 3 0
    ∷ get_or l 0 0 ∷ get_or l 1 0 ∷ []
    ≡ packed_unit u
unfolding packed_unit
unit-packed u byte name last d l p q r v w =
    rw (← p, ← q, ← r, v ∙ be-four name.day, w ∙ be-two last.0) refl

pub length-unit : (u : UnitState) → length (packed_unit u) ≡ 11
unfolding packed_unit
length-unit u = refl

-- A state comes back from its packed bytes; its day and number fit their fields
pub unit-back : (u : UnitState) → (name_packed u.phase).day < 4294967296 → (last_packed u.phase).0 < 65536 → unpacked_unit (packed_unit u) ≡ u
unfolding unpacked_unit packed_unit is_unit phase_from number_at
unit-back u = at u.kind u.rate u.pending u.phase
  where
    at : (k r p : ℕ) (h : Phase) → (name_packed h).day < 4294967296 → (last_packed h).0 < 65536
        → unpacked_unit (packed_unit (record { kind = k; rate = r; pending = p; phase = h })) ≡ record { kind = k; rate = r; pending = p; phase = h }
    at k r p Closed d l = refl
    at k r p Started d l = refl
    at k r p Session d l = refl
    at k r p Granted d l = refl
    at k r p (Sending name last) d l = rw (number-of-bytes 4 name.day d, number-of-bytes 2 last.0 l)

-- Bytes that are a state are what it is packed as

-- what stands for no answer
nothing-named : (trep day : ℕ) → trep ≡ 0 → day ≡ 0 → ◌≡◌ {A = AnswerName} zero_name (record { trep = trep; day = day })
nothing-named trep day p q = rw (p, q)

-- a byte of a phase with the answer that goes with it: the phase has both back
record Again (byte : ℕ) (name : AnswerName) (last : SubMessage) : Type 0 where
  tag : phase_byte (phase_from byte name last) ≡ byte
  named : name_packed (phase_from byte name last) ≡ name
  ended : last_packed (phase_from byte name last) ≡ last

module _ (name : AnswerName) (last : SubMessage) where
  no_name : sends_nothing name last ≡ true → zero_name ≡ name
  no_name h =
      nothing-named name.trep name.day (eqb-true _ _ (and_left (eqb name.trep 0) _ h))
      (eqb-true _ _ (and_left (eqb name.day 0) _ (and_right (eqb name.trep 0) _ h)))

  no_last : sends_nothing name last ≡ true → sub 0 ≡ last
  no_last h = ap sub (sym (eqb-true last.0 0 (and_right (eqb name.day 0) _ (and_right (eqb name.trep 0) _ h))))

  again : (byte : ℕ) → (eqb byte 4 || (leb byte 3 && sends_nothing name last)) ≡ true → Again byte name last
  unfolding phase_from
  again zero h = record { tag = refl; named = no_name h; ended = no_last h }
  again (suc zero) h = record { tag = refl; named = no_name h; ended = no_last h }
  again (suc (suc zero)) h = record { tag = refl; named = no_name h; ended = no_last h }
  again (suc (suc (suc zero))) h = record { tag = refl; named = no_name h; ended = no_last h }
  again (suc (suc (suc (suc zero)))) h = record { tag = refl; named = refl; ended = refl }
  again (suc (suc (suc (suc (suc n))))) h =
      let byte : ℕ = suc (suc (suc (suc (suc n)))) in
      let e : (eqb byte 4 || (leb byte 3 && sends_nothing name last)) ≡ false =
      rw (ne_eqb byte 4 (λ q. omega arith), lt-leb byte 3 (omega arith)) in
      never (cc)

pub unit-again : (b : List ℕ) → ((i : ℕ) → get_or b i 0 < 256) → is_unit b ≡ true → packed_unit (unpacked_unit b) ≡ b
unfolding unpacked_unit packed_unit is_unit
unit-again b bytes h =
    let l : length b ≡ 11 = unit_size b h in
    let a = again (unit_name b) (unit_last b) (get_or b 3 0) (and_right (eqb (length b) 11) _ h) in
    let e : packed_unit (unpacked_unit b) ≡ get_or b 0 0 ∷ get_or b 1 0 ∷ get_or b 2 0 ∷ get_or b 3 0 ∷ get_or b 4 0
    ∷ (bytes_of 4 (number_at 4 5 b) ++ bytes_of 2 (number_at 2 9 b)) =
    rw (h, a.tag, a.named, a.ended) in
    e
    ∙ ap₂ (λ (x y : List ℕ). get_or b 0 0 ∷ get_or b 1 0 ∷ get_or b 2 0 ∷ get_or b 3 0 ∷ get_or b 4 0 ∷ (x ++ y)) (field_back 4 5 b bytes refl (omega arith))
    (field_back 2 9 b bytes refl (omega arith))
    ∙ spelled 11 b l

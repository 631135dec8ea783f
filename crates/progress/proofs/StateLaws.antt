-- The tool's state: whether it is possible, from the tests of the code, and what a possible waiting transfer has.
use Prim.Native.Nat.{ℕ, ◌+◌, ◌-◌, ◌*◌, ◌<◌, ◌≤◌}
use mathlib.Core.Bool.{Bool, true, false, cond, not, ◌&&◌, ◌||◌}
use mathlib.Core.Path.{◌≡◌, refl}
use native.Mathlib.Omega.{arith}
use lib.Dec.{eqb, leb}
use borrow.Author.Tests.{le-leb, lt-leb, eq-eqb, ne_eqb, leb-true, eqb-true}
use Rattle.octets.proofs.Tests.{and_left, and_right, never}
use Rattle.catalog.specs.Name.{name_number}
use Rattle.progress.specs.declared.ToolState.{ToolState}
use Rattle.progress.specs.State.{held_most, is_transfer, is_waiting, held_right, transfer_possible, possible}

-- The bytes held with number e expected

module _ (e held : ℕ) where
  pub held_first : e ≡ 1 → eqb held 0 ≡ held_right e held
  unfolding held_right
  held_first h = rw (eq-eqb e 1 h)

  pub held-never : (e ≡ 1 → ⊥) → e < 2 → false ≡ held_right e held
  unfolding held_right
  held-never n h = rw (ne_eqb e 1 n, lt-leb 2 e h)

  pub held_more : (e ≡ 1 → ⊥) → 2 ≤ e → eqb held (2 + 251 * (e - 1)) ≡ held_right e held
  unfolding held_right
  held_more n h = rw (ne_eqb e 1 n, le-leb 2 e h)

-- A waiting transfer; r is the number of its name

module _ (room_len : ℕ) (t : ToolState) (r : ℕ) (e : r ≡ name_number t.name) where
  pub transfer-unnamed : (r ≡ 0 → ⊥) → false ≡ transfer_possible room_len t
  unfolding transfer_possible
  transfer-unnamed h = rw (← e, ne_eqb r 0 h)

  pub transfer-held : r ≡ 0 → held_right t.expected.0 t.held ≡ false → false ≡ transfer_possible room_len t
  unfolding transfer_possible
  transfer-held z h = rw (← e, eq-eqb r 0 z, h)

  pub transfer-room : r ≡ 0 → held_right t.expected.0 t.held ≡ true → room_len < t.held → false ≡ transfer_possible room_len t
  unfolding transfer_possible
  transfer-room z h l = rw (← e, eq-eqb r 0 z, h, lt-leb t.held room_len l)

  pub transfer-most : r ≡ 0 → held_right t.expected.0 t.held ≡ true → t.held ≤ room_len → leb t.held held_most ≡ transfer_possible room_len t
  unfolding transfer_possible
  transfer-most z h l = rw (← e, eq-eqb r 0 z, h, le-leb t.held room_len l)

-- Every state

module _ (room_len : ℕ) (t : ToolState) where
  pub possible-still : is_waiting t.outcome ≡ false → true ≡ possible room_len t
  unfolding possible
  possible-still w = rw w

  module _ (w : is_waiting t.outcome ≡ true) where
    pub possible-unsent : t.sendings < 1 → false ≡ possible room_len t
    unfolding possible
    possible-unsent h = rw (w, lt-leb 1 t.sendings h)

    pub possible-over : 1 ≤ t.sendings → 3 < t.sendings → false ≡ possible room_len t
    unfolding possible
    possible-over l h = rw (w, le-leb 1 t.sendings l, lt-leb t.sendings 3 h)

    pub possible-fixed : 1 ≤ t.sendings → t.sendings ≤ 3 → is_transfer t.request ≡ false → true ≡ possible room_len t
    unfolding possible
    possible-fixed l h f = rw (w, le-leb 1 t.sendings l, le-leb t.sendings 3 h, f)

    pub possible-transfer : (r : Bool) → 1 ≤ t.sendings → t.sendings ≤ 3 → is_transfer t.request ≡ true → r ≡ transfer_possible room_len t
        → r ≡ possible room_len t
    unfolding possible
    possible-transfer r l h f q = rw (w, le-leb 1 t.sendings l, le-leb t.sendings 3 h, f) q

-- What a possible waiting transfer has: a name that 12 allows, a number expected from 1 to 240, and held bytes within room and 60,000
pub record WaitingTransfer (room_len : ℕ) (t : ToolState) : Type 0 where
  pub named : name_number t.name ≡ 0
  pub expected_least : 1 ≤ t.expected.0
  pub expected_most : t.expected.0 ≤ 240
  pub held_room : t.held ≤ room_len
  pub held_bound : t.held ≤ held_most
  pub held_is : held_right t.expected.0 t.held ≡ true

expected-bounds : (e held : ℕ) → held_right e held ≡ true → held ≤ held_most → (1 ≤ e) × (e ≤ 240)
unfolding held_right
expected-bounds e held h m = go (eqb e 1) refl h
  where
    go : (b : Bool) → eqb e 1 ≡ b → cond b (eqb held 0) (leb 2 e && eqb held (2 + 251 * (e - 1))) ≡ true → (1 ≤ e) × (e ≤ 240)
    go true p q = let z : e ≡ 1 = eqb-true e 1 p in (omega arith, omega arith)
    go false p q =
        let l : 2 ≤ e = leb-true 2 e (and_left (leb 2 e) _ q) in
        let s : held ≡ 2 + 251 * (e - 1) = eqb-true held _ (and_right (leb 2 e) _ q) in
        (omega arith, omega arith)

sent-and-fits : (s f p : Bool) → (s && (not f || p)) ≡ true → f ≡ true → p ≡ true
sent-and-fits true true p e q = e
sent-and-fits false f p e q = never (cc)
sent-and-fits true false p e q = never (cc)

pub waiting-transfer : (room_len : ℕ) (t : ToolState) → is_waiting t.outcome ≡ true → possible room_len t ≡ true → is_transfer t.request ≡ true
    → WaitingTransfer room_len t
unfolding possible transfer_possible
waiting-transfer room_len t w p f =
    let x : transfer_possible room_len t ≡ true = sent-and-fits (leb 1 t.sendings && leb t.sendings 3) _ _ (rw w at p) f in
    let y = and_right (eqb (name_number t.name) 0) _ x in
    let h : held_right t.expected.0 t.held ≡ true = and_left (held_right t.expected.0 t.held) _ y in
    let z = and_right (held_right t.expected.0 t.held) _ y in
    let m : t.held ≤ held_most = leb-true t.held held_most (and_right (leb t.held room_len) _ z) in
    let b = expected-bounds t.expected.0 t.held h m in
    record {
      named = eqb-true _ 0 (and_left (eqb (name_number t.name) 0) _ x);
      expected_least = b.0;
      expected_most = b.1;
      held_room = leb-true t.held room_len (and_left (leb t.held room_len) _ z);
      held_bound = m;
      held_is = h;
    }

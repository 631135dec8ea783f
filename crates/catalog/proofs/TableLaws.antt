-- The constant table of the code is the table of document 01, entry by entry; and where a TRTP stands in it.
use mathlib.Core.Path.{◌≡◌, refl, sym, ◌∙◌}
use mathlib.Core.Bool.{Bool, true, false, ◌||◌}
use mathlib.Core.List.{List, [], ◌∷◌}
use Prim.Native.Nat.{ℕ, zero, suc, ◌+◌, ◌*◌, ◌/◌, ◌%◌, ◌<◌, ◌≤◌}
use native.Mathlib.Omega.{arith}
use native.Mathlib.Decide.{dec_lt}
use lib.Dec.{eqb, ltb}
use lib.ListN.{length, get_or, get_or-eq_default}
use borrow.Author.Tests.{lt-ltb, le-ltb, eq-eqb, ne_eqb, eqb-true}
use Rattle.octets.specs.Search.{first_of, any_of}
use Rattle.octets.proofs.SearchLaws.{first-least, first-none, any_none, any-more}
use Rattle.catalog.specs.Kinds.{kind_number, Kinds}
use Rattle.catalog.specs.declared.kind.UnknownKind.{UnknownKind}
use Rattle.std.specs.Prelude.{Result, Ok, Err, is_ok}
use Rattle.catalog.specs.declared.kind.Kind.{Kind}
use Rattle.catalog.specs.declared.kind.Kind.TheVariants as kinds
use Rattle.catalog.specs.Table.{absent, rows, trtp_of, known_to, listed, in_row, is_activities}
use Rattle.catalog.proofs.Entries.{at_entry}

-- the constant of the code
abbrev pub table : List ℕ
table = 0xFF ∷ 0xFF ∷ 0x00 ∷ 0x01 ∷ 0x21 ∷ 0x31 ∷ 0x02 ∷ 0x22 ∷ 0x32 ∷ 0x03 ∷ 0x23 ∷ 0x33 ∷ 0x04 ∷ 0x24 ∷ 0x24 ∷ 0x05 ∷ 0x25 ∷ 0x35 ∷ []

entry-right : ℕ → ℕ → Bool
entry-right i x = eqb x (trtp_of (i / 3) (i % 3))

pub entry : (row kind : ℕ) → row < 6 → kind < 3 → get_or table (row * 3 + kind) 0 ≡ trtp_of row kind
unfolding entry-right
entry row kind r k =
    let i : ℕ = row * 3 + kind in
    let q : i / 3 ≡ row = omega arith in
    let m : i % 3 ≡ kind = omega arith in
    rw (q, m) at (eqb-true (get_or table i 0) (trtp_of (i / 3) (i % 3)) (at_entry entry-right table refl i (omega arith)))

-- the column of a kind
pub column-below : (column : ℕ) (kind : Kind) → column ≡ kind_number kind → column < 3
column-below column kinds.Generation1 e = omega arith
column-below column kinds.Generation2Version1 e = omega arith
column-below column kinds.Generation2Version2 e = omega arith

-- whether a number is that of a kind
pub is-kind : (n : ℕ) (r : Result Kind UnknownKind) → Kinds n r → is_ok r ≡ ltb n 3
is-kind n (Ok kind) e = sym (lt-ltb n 3 (column-below n kind (sym e)))
is-kind n (Err unknown) e = sym (le-ltb n 3 (omega (arith, e.1)))

pub column-entry : (row column : ℕ) (kind : Kind) → row < 6 → column ≡ kind_number kind → get_or table (row * 3 + column) 0 ≡ trtp_of row (kind_number kind)
column-entry row column kind r e = rw (← e) (entry row column r (column-below column kind e))

-- no row is longer than three
three : (row : ℕ) → length (get_or rows row []) ≤ 3
three zero = omega arith
three (suc zero) = omega arith
three (suc (suc zero)) = omega arith
three (suc (suc (suc zero))) = omega arith
three (suc (suc (suc (suc zero)))) = omega arith
three (suc (suc (suc (suc (suc zero))))) = omega arith
three (suc (suc (suc (suc (suc (suc row)))))) = omega arith

pub no_kind : (row kind : ℕ) → 3 ≤ kind → absent ≡ trtp_of row kind
no_kind row kind h = sym (get_or-eq_default (get_or rows row []) absent (omega (arith, three row)))

pub no_row : (row kind : ℕ) → 6 ≤ row → absent ≡ trtp_of row kind
no_row row kind h = rw (get_or-eq_default rows [] {n = row} h)

-- every TRTP of the table has its row as low digit
digit-right : ℕ → ℕ → Bool
digit-right i x = eqb x absent || eqb (x % 16) (i / 3)

row-digit : (row kind : ℕ) → row < 6 → kind < 3 → (trtp_of row kind ≡ absent → ⊥) → trtp_of row kind % 16 ≡ row
unfolding digit-right
row-digit row kind r k n =
    let i : ℕ = row * 3 + kind in
    let q : i / 3 ≡ row = omega arith in
    let d : (eqb (trtp_of row kind) absent || eqb (trtp_of row kind % 16) row) ≡ true =
    rw (q, entry row kind r k) at (at_entry digit-right table refl i (omega arith)) in
    eqb-true _ _ (rw (ne_eqb (trtp_of row kind) absent n) at d)

-- a test of rows that holds at none but the row of the byte's low digit
module _ (byte : ℕ) (test : ℕ → Bool) (only : (row : ℕ) → test row ≡ true → (row < 6) × (byte % 16 ≡ row)) where
  digit-any : test (byte % 16) ≡ any_of test 6
  digit-any = go (test (byte % 16)) refl
    where
      go : (t : Bool) → test (byte % 16) ≡ t → test (byte % 16) ≡ any_of test 6
      go true e =
          let r : byte % 16 < 6 = (only (byte % 16) e).0 in
          e ∙ sym (lt-ltb (first_of test 6) 6 (omega (arith, first-least test 6 (byte % 16) e)))
      go false e = e ∙ rw (first-none test 6 none)
        where
          none : (row : ℕ) → row < 6 → test row ≡ false
          none row h = at (test row) refl
            where
              at : (t : Bool) → test row ≡ t → test row ≡ false
              at true q = rw (only row q).1 at e
              at false q = q

-- where a byte other than FF stands: in a column, and in a row at any kind
module _ (byte : ℕ) (present : byte ≡ absent → ⊥) where
  abbrev stands : ℕ → ℕ → Bool
  stands kind row = eqb (trtp_of row kind) byte

  stands-only : (kind row : ℕ) → stands kind row ≡ true → (row < 6) × (byte % 16 ≡ row)
  stands-only kind row h =
      let e : trtp_of row kind ≡ byte = eqb-true _ _ h in
      let r : row < 6 = below row 6 (λ l. sym e ∙ sym (no_row row kind l)) in
      let k : kind < 3 = below kind 3 (λ l. sym e ∙ sym (no_kind row kind l)) in
      (r, rw e at (row-digit row kind r k (λ z. present (sym e ∙ z))))
    where
      below : (a b : ℕ) → (b ≤ a → byte ≡ absent) → a < b
      below a b other =
          elim (dec_lt a b) as (λ _. a < b) [
            | yes l ↦ l
            | no l ↦ absurd (present (other (omega arith)))
          ]

  row-only : (row : ℕ) → in_row byte row ≡ true → (row < 6) × (byte % 16 ≡ row)
  row-only row = go (stands 0 row) (stands 1 row) refl refl
    where
      go : (a b : Bool) → stands 0 row ≡ a → stands 1 row ≡ b → ((a || b) || stands 2 row) ≡ true → (row < 6) × (byte % 16 ≡ row)
      go true b p q h = stands-only 0 row p
      go false true p q h = stands-only 1 row q
      go false false p q h = stands-only 2 row h

  pub known_is : (kind r : ℕ) → r ≡ trtp_of (byte % 16) kind → eqb r byte ≡ known_to kind byte
  unfolding known_to
  known_is kind r e = rw (ne_eqb byte absent present, e) (digit-any byte (stands kind) (stands-only kind))

  -- the rows one by one
  six : any_of (in_row byte) 6 ≡ (((((in_row byte 0 || in_row byte 1) || in_row byte 2) || in_row byte 3) || in_row byte 4) || in_row byte 5)
  six =
      let more = any-more (in_row byte) in
      rw (more 5, more 4, more 3, more 2, more 1, more 0, any_none (in_row byte))

  pub listed-is : (r₀ r₁ r₂ r₃ r₄ r₅ : Bool) → r₀ ≡ in_row byte 0 → r₁ ≡ in_row byte 1 → r₂ ≡ in_row byte 2 → r₃ ≡ in_row byte 3
      → r₄ ≡ in_row byte 4 → r₅ ≡ in_row byte 5
      → (((((r₀ || r₁) || r₂) || r₃) || r₄) || r₅) ≡ listed byte
  unfolding listed
  listed-is r₀ r₁ r₂ r₃ r₄ r₅ e₀ e₁ e₂ e₃ e₄ e₅ =
      rw (e₀, e₁, e₂, e₃, e₄, e₅)
      (sym six ∙ sym (digit-any byte (in_row byte) row-only) ∙ or_assoc (stands 0 d) (stands 1 d) (stands 2 d)
      ∙ rw (known_is 0 _ refl, known_is 1 _ refl, known_is 2 _ refl))
    where
      d : ℕ
      d = byte % 16

      or_assoc : (a b c : Bool) → ((a || b) || c) ≡ (a || (b || c))
      or_assoc true b c = refl
      or_assoc false b c = refl

pub absent-unknown : (kind byte : ℕ) → byte ≡ absent → false ≡ known_to kind byte
unfolding known_to
absent-unknown kind byte e = rw (eq-eqb byte absent e)

pub absent-no-activities : (byte : ℕ) → byte ≡ absent → false ≡ is_activities byte
unfolding is_activities
absent-no-activities byte e = rw (eq-eqb byte absent e)

-- the third row
pub activities-is : (byte : ℕ) (r : Bool) → (byte ≡ absent → ⊥) → r ≡ in_row byte 2 → r ≡ is_activities byte
unfolding is_activities
activities-is byte r n e = rw (ne_eqb byte absent n) e

pub absent-unlisted : (byte : ℕ) → byte ≡ absent → false ≡ listed byte
unfolding listed known_to
absent-unlisted byte e = rw (eq-eqb byte absent e)

-- a row read entry by entry
pub row_is : (byte row a b c : ℕ) → a ≡ trtp_of row 0 → b ≡ trtp_of row 1 → c ≡ trtp_of row 2
    → ((eqb a byte || eqb b byte) || eqb c byte) ≡ in_row byte row
row_is byte row a b c p q r = rw (p, q, r)

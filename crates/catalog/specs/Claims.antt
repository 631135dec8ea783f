-- What is claimed of days and of names (document 02, Req 03; document 01, House numbers). proofs/Claims.antt proves it.
use Rattle.std.specs.Prelude.{ℕ, ◌≤◌, true, false, ◌↔◌, ◌⊎◌, ◌≢◌, ◌≡◌}
use Rattle.octets.specs.Order.{unless}
use Rattle.octets.specs.Numbers.{done, not_in_table}
use Rattle.catalog.specs.Table.{listed, is_activities}
use Rattle.catalog.specs.Name.{day_of, first_second, WholeDay, name_number, day_stored, rounded}
use Rattle.catalog.specs.declared.AnswerName.{AnswerName}

pub record DayClaims : Type 0 where
  -- "the first second of the day": it is of that day, and none of the day comes before it
  pub in_day : (second : ℕ) → day_of (first_second second) ≡ day_of second
  pub least : (second other : ℕ) → day_of other ≡ day_of second → first_second second ≤ other
  -- one for one day
  pub same : (a b : ℕ) → (first_second a ≡ first_second b) ↔ (day_of a ≡ day_of b)
  -- "86,399 is day 0, 86,400 (00 01 51 80) is day 1"; its last second; the last second of four bytes
  pub end_of_zero : (day_of 86399 ≡ 0) × (first_second 86399 ≡ 0)
  pub begin_of_one : (day_of 0x00015180 ≡ 1) × (first_second 0x00015180 ≡ 86400)
  pub end_of_one : (day_of 172799 ≡ 1) × (first_second 172799 ≡ 86400)
  pub end_of_all : (day_of 0xFFFFFFFF ≡ 49710) × (first_second 0xFFFFFFFF ≡ 0xFFFFA500)

-- 12 for a name, without the clause that it lost
pub data Unnamed (name : AnswerName) : Type 0 where
  unlisted : listed name.trep ≡ false → Unnamed name
  dated : is_activities name.trep ≡ false → name.day ≢ 0 → Unnamed name

pub record NameClaims : Type 0 where
  pub twelve : (name : AnswerName) → (name_number name ≡ not_in_table) ↔ Unnamed name
  pub twelve_only : (name : AnswerName) → (name_number name ≡ done) ⊎ (name_number name ≡ not_in_table)
  -- 12 asks the same of a name and of the one that a store keeps, which has a day that an entry may have
  pub number : (name : AnswerName) → name_number (rounded name) ≡ name_number name
  pub stored : (name : AnswerName) → name_number name ≡ done → day_stored (rounded name) ≡ true
  -- the name of an entry is rounded already
  pub of_entry : (name : AnswerName) → day_stored name ≡ true → rounded name ≡ name
  -- ".. compare whole days for activities", and all else as it is
  pub activities : (a b : AnswerName) → is_activities a.trep ≡ true
      → (rounded a ≡ rounded b) ↔ ((a.trep ≡ b.trep) × (day_of a.day ≡ day_of b.day))
  pub others : (a b : AnswerName) → is_activities a.trep ≡ false → (rounded a ≡ rounded b) ↔ (a ≡ b)

-- Document 01's 12 for a name: ".. not in the table below, or its day no multiple of 86,400, or a day other than zero
-- outside activities"
unfoldable pub name_number_before : AnswerName → ℕ
name_number_before name = unless (listed name.trep) not_in_table (unless (day_stored name) not_in_table done)

-- A whole day means what it meant before Req 03
pub record WholeDayClaims : Type 0 where
  pub name : (name : AnswerName) → WholeDay name.day → rounded name ≡ name
  pub number : (name : AnswerName) → WholeDay name.day → name_number name ≡ name_number_before name

pub record CatalogClaims : Type 0 where
  pub days : DayClaims
  pub names : NameClaims
  pub whole_days : WholeDayClaims

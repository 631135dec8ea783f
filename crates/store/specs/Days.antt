-- What is claimed of days in lookups (document 02, Req 03). For every form; proofs/Days.antt proves it.
use Rattle.std.specs.Prelude.{ℕ, ◌<◌, true, false, ◌&&◌, List, ◌↔◌, ◌≡◌, length, get_or, eqb, leb}
use Rattle.octets.specs.Order.{unless, or_else}
use Rattle.octets.specs.Numbers.{done, not_held, not_in_table, place_by}
use Rattle.octets.specs.declared.Place.{Place}
use Rattle.catalog.specs.Table.{is_activities}
use Rattle.catalog.specs.Name.{day_of, WholeDay, rounded}
use Rattle.catalog.specs.Claims.{name_number_before}
use Rattle.catalog.specs.declared.AnswerName.{AnswerName}
use Rattle.store.specs.Layout.{Form, answers, entry_length, answer_start, name_at}
use Rattle.store.specs.Check.{answer_right, store_number}
use Rattle.store.specs.Read.{position, is_held, lookup_number, lookup_place}
use Rattle.store.specs.Answer.{name_of, answer_number}

-- Document 01's lookup and its 12 for an answer, before Req 03: by the very day
module _ (f : Form) where
  unfoldable pub lookup_number_before : AnswerName → List ℕ → ℕ
  lookup_number_before name s = or_else (store_number f s) (unless (is_held f name s) not_held done)

  unfoldable pub lookup_place_before : AnswerName → List ℕ → Place
  lookup_place_before name s =
      place_by (lookup_number_before name s) (answer_start f (position f name s) s)
      (entry_length f (position f name s) s)

unfoldable pub answer_number_before : List ℕ → ℕ → ℕ
answer_number_before answer day =
    unless (leb 2 (length answer)) not_in_table
    (unless (eqb (get_or answer 0 0) 0x76) not_in_table
    (name_number_before (name_of answer day)))

module _ (f : Form) where
  pub record DayClaims : Type 0 where
    -- "lookup .. compare whole days for activities": an answer of an unbroken store is the one looked for where TREP
    -- and day are the same, and outside activities where the name is
    pub activities : (name : AnswerName) (i : ℕ) (s : List ℕ) → store_number f s ≡ done → i < answers f s
        → is_activities name.trep ≡ true
        → (name_at f i s ≡ rounded name)
        ↔ (((name_at f i s).trep ≡ name.trep) × (day_of (name_at f i s).day ≡ day_of name.day))
    pub others : (name : AnswerName) (i : ℕ) (s : List ℕ) → is_activities name.trep ≡ false
        → (name_at f i s ≡ rounded name) ↔ (name_at f i s ≡ name)
    -- names that are kept as one are looked up as one
    pub alike : (a b : AnswerName) (s : List ℕ) → rounded a ≡ rounded b → lookup_place f a s ≡ lookup_place f b s
    -- what a store is did not change: an entry's name is judged by document 01's 12, whatever its day
    pub check : (i : ℕ) (s : List ℕ)
        → answer_right f i s
        ≡ (eqb (get_or s (answer_start f i s) 0) 0x76 && eqb (name_number_before (name_at f i s)) done)
    -- nor what a whole day gives
    pub whole_number : (name : AnswerName) (s : List ℕ) → WholeDay name.day
        → lookup_number f name s ≡ lookup_number_before f name s
    pub whole_place : (name : AnswerName) (s : List ℕ) → WholeDay name.day
        → lookup_place f name s ≡ lookup_place_before f name s
    pub whole_answer : (answer : List ℕ) (day : ℕ) → WholeDay day
        → answer_number answer day ≡ answer_number_before answer day

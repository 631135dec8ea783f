-- An answer on its own, and its name.
use Rattle.std.specs.Prelude.{ℕ, List, length, get_or, eqb, leb}
use Rattle.octets.specs.Order.{unless}
use Rattle.octets.specs.Numbers.{not_in_table}
use Rattle.catalog.specs.Name.{name_number}
use Rattle.catalog.specs.declared.AnswerName.{AnswerName}

-- the name of an answer: its second byte and the day given
abbrev pub name_of : List ℕ → ℕ → AnswerName
name_of answer day = record { trep = get_or answer 1 0; day = day }

-- "12: .. or an answer to append that does not begin 76 and a listed TREP"
unfoldable pub answer_number : List ℕ → ℕ → ℕ
answer_number answer day =
    unless (leb 2 (length answer)) not_in_table
    (unless (eqb (get_or answer 0 0) 0x76) not_in_table
    (name_number (name_of answer day)))

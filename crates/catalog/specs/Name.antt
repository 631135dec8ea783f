-- Names of answers, and days (document 02, Req 03). What a day is, is known to this module alone.
use Rattle.std.specs.Prelude.{ℕ, ◌*◌, ◌/◌, ◌%◌, Bool, cond, ◌&&◌, ◌||◌, ◌≡◌, eqb}
use Rattle.octets.specs.Order.{unless}
use Rattle.octets.specs.Numbers.{done, not_in_table}
use Rattle.catalog.specs.Table.{absent, listed, is_activities}
use Rattle.catalog.specs.declared.AnswerName.{AnswerName}

-- a name that no answer has: FF is no TREP
abbrev pub no_answer : AnswerName
no_answer = record { trep = absent; day = 0 }

-- the fields of a name where there is none: in a state without a transfer, beside a fixed request, in a refusal
abbrev pub zero_name : AnswerName
zero_name = record { trep = 0; day = 0 }

-- "A day is any second in it: the number divided by 86,400, rounded down"
abbrev pub day_of : ℕ → ℕ
day_of second = second / 86400

-- "the first second of the day"
unfoldable pub first_second : ℕ → ℕ
first_second second = day_of second * 86400

-- "a multiple of 86,400", which document 01 asks of every day
abbrev pub WholeDay : ℕ → Type 0
WholeDay second = second % 86400 ≡ 0

-- may this second be named beside the TREP: any for activities, no "day other than zero outside activities"
unfoldable pub day_named : AnswerName → Bool
day_named name = is_activities name.trep || eqb name.day 0

-- "12: answer or request not in the table below, .. or a day other than zero outside activities"; "number 12 loses that
-- clause": "or its day no multiple of 86,400" stood between
unfoldable pub name_number : AnswerName → ℕ
name_number name = unless (listed name.trep) not_in_table (unless (day_named name) not_in_table done)

-- may this day stand in a store's entry: "day (4, a multiple of 86,400, zero unless activities)"
unfoldable pub day_stored : AnswerName → Bool
day_stored name = cond (is_activities name.trep) (eqb (name.day % 86400) 0) (eqb name.day 0)

-- the name under which a store keeps an answer: "Store entries keep the first second of the day"
unfoldable pub rounded : AnswerName → AnswerName
rounded name =
    record { trep = name.trep; day = cond (is_activities name.trep) (first_second name.day) name.day }

-- are two names of entries the same answer: "No two share TREP and day"
unfoldable pub same_answer : AnswerName → AnswerName → Bool
same_answer a b = eqb a.trep b.trep && eqb a.day b.day

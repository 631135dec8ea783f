-- The house numbers (document 01, House numbers). 0: not refused.
use Rattle.std.specs.Prelude.{ℕ, cond, ◌==◌}
use Rattle.octets.specs.declared.Written.{Written}
use Rattle.octets.specs.declared.Place.{Place}
use Rattle.octets.specs.declared.Counted.{Counted}
use Rattle.octets.specs.declared.Part.{Part}
use Rattle.octets.specs.declared.refusal.Refusal.{Refusal}
use Rattle.octets.specs.declared.refusal.Refusal.TheVariants as refusals
use Rattle.std.specs.Prelude.{Option, Some, None, Result, Ok, Err, ⊤}

abbrev pub done : ℕ
done = 0

-- 1, 2, 3: frame count; format or address; CS
abbrev pub frame_count : ℕ
frame_count = 1

abbrev pub format_or_address : ℕ
format_or_address = 2

abbrev pub checksum_wrong : ℕ
checksum_wrong = 3

-- 4: lent output or store buffer too short
abbrev pub buffer_short : ℕ
buffer_short = 4

-- 6: answer not held
abbrev pub not_held : ℕ
not_held = 6

-- 7: answer already held
abbrev pub already_held : ℕ
already_held = 7

-- 8: store would pass 64 answers or 60,000 stream bytes, or data to split has over 59,998 bytes
abbrev pub over_bound : ℕ
over_bound = 8

-- 9: body is not a run of record arrays
abbrev pub not_arrays : ℕ
not_arrays = 9

-- 10: no such array, record or sub message
abbrev pub no_such : ℕ
no_such = 10

-- 11: state impossible, or call out of turn
abbrev pub out_of_turn : ℕ
out_of_turn = 11

-- 12: answer or request not in the table, or a day other than zero outside activities
abbrev pub not_in_table : ℕ
not_in_table = 12

-- What is broken in a store (document 02, Req 06: "Split number 5"); 5 is no number of any call.
-- 13: buffer shorter than the header says
abbrev pub store_short : ℕ
store_short = 13

-- 14: too many answers or stream over its bound
abbrev pub store_bounds : ℕ
store_bounds = 14

-- 15: an entry's offset or length
abbrev pub store_entry : ℕ
store_entry = 15

-- 16: an answer's first two bytes or its day
abbrev pub store_answer : ℕ
store_answer = 16

-- 17: the same TREP and day twice
abbrev pub store_twice : ℕ
store_twice = 17

-- Results that carry a number. "Each returns its number with the state as handed in, and writes nothing": whatever a
-- call gives or changes, it does so only where its number is 0.

module _ {A : Type 0} where
  -- the new value where nothing is refused, else the old one
  abbrev pub changed_by : ℕ → A → A → A
  changed_by number new old = cond (number == 0) new old

-- a call that wrote n bytes, or was refused
abbrev pub written_by : ℕ → ℕ → Written
written_by number n = record { number = number; len = changed_by number n 0 }

-- "Where a part .. is handed back, a twin call gives the number; refused, the part is empty"
abbrev pub place_by : ℕ → ℕ → ℕ → Place
place_by number start n = record { number = number; start = changed_by number start 0; len = changed_by number n 0 }

abbrev pub refused_place : ℕ → Place
refused_place number = record { number = number; start = 0; len = 0 }

-- a count, or a refusal
abbrev pub counted_by : ℕ → ℕ → Counted
counted_by number n = record { number = number; count = changed_by number n 0 }

-- the part at a place, an empty one where it is refused
abbrev pub part_of_place : Place → Part
part_of_place place = record { start = place.start; len = place.len }

-- What a call of the code hands back, in numbers: the refusal's own, 0 where it is done.

abbrev pub number : Refusal → ℕ
number refusals.FrameCount = frame_count
number refusals.FormatOrAddress = format_or_address
number refusals.ChecksumWrong = checksum_wrong
number refusals.BufferShort = buffer_short
number refusals.NotHeld = not_held
number refusals.AlreadyHeld = already_held
number refusals.OverBound = over_bound
number refusals.NotArrays = not_arrays
number refusals.NoSuch = no_such
number refusals.OutOfTurn = out_of_turn
number refusals.NotInTable = not_in_table
number refusals.StoreShort = store_short
number refusals.StoreBounds = store_bounds
number refusals.StoreEntry = store_entry
number refusals.StoreAnswer = store_answer
number refusals.StoreTwice = store_twice

-- of a call that only judges
abbrev pub judgement : Result ⊤ Refusal → ℕ
judgement (Ok x) = done
judgement (Err refusal) = number refusal

-- of one that writes so many bytes
abbrev pub written : Result ℕ Refusal → Written
written (Ok n) = record { number = done; len = n }
written (Err refusal) = record { number = number refusal; len = 0 }

-- of one that finds a part
abbrev pub placed : Result Part Refusal → Place
placed (Ok part) = record { number = done; start = part.start; len = part.len }
placed (Err refusal) = refused_place (number refusal)

-- of one that looks an answer up: none is "6: answer not held"
abbrev pub looked_up : Option Part → Place
looked_up (Some part) = record { number = done; start = part.start; len = part.len }
looked_up None = refused_place not_held

-- of one that counts
abbrev pub counted : Result ℕ Refusal → Counted
counted (Ok n) = record { number = done; count = n }
counted (Err refusal) = record { number = number refusal; count = 0 }

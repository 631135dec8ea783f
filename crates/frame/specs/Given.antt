-- The calls on frames with both addresses as given. Document 02, Req 05: "The frame reader and writer take both
-- addresses as given"; "two equal ones are 2 in every call with them, before any other check". That test stands around
-- the definitions of Frame.antt, which are over any two addresses.
use Rattle.std.specs.Prelude.{ℕ, Bool, not, List, eqb}
use Rattle.octets.specs.Order.{unless}
use Rattle.octets.specs.Numbers.{format_or_address, refused_place}
use Rattle.octets.specs.Buffer.{part_at}
use Rattle.octets.specs.declared.Written.{Written}
use Rattle.octets.specs.declared.Place.{Place}
use Rattle.frame.specs.declared.End.{End}
use Rattle.frame.specs.declared.Addresses.{Addresses}
use Rattle.frame.specs.Frame.{judged, data_place, write_result, write_out}

unfoldable pub different : Addresses → Bool
different a = not (eqb a.unit a.tool)

-- judging
unfoldable pub judged_given : Addresses → End → List ℕ → ℕ
judged_given a end s = unless (different a) format_or_address (judged a end s)

-- the data of a good frame
unfoldable pub data_place_given : Addresses → End → List ℕ → Place
data_place_given a end s = unless (different a) (refused_place format_or_address) (data_place a end s)

unfoldable pub data_given : Addresses → End → List ℕ → List ℕ
data_given a end s = part_at (data_place_given a end s).start (data_place_given a end s).len s

-- a write that two equal addresses refuse
abbrev pub refused_write : Written
refused_write = record { number = format_or_address; len = 0 }

-- writing
unfoldable pub write_result_given : Addresses → List ℕ → ℕ → Written
write_result_given a d out_len = unless (different a) refused_write (write_result d out_len)

unfoldable pub write_out_given : Addresses → End → List ℕ → List ℕ → List ℕ
write_out_given a end d out = unless (different a) out (write_out a end d out)

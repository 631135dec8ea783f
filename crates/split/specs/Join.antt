-- Joining sub messages (document 01, The tool, "Transfer"): what the data of a good frame is with number e expected.
use Rattle.std.specs.Prelude.{ℕ, zero, suc, ◌+◌, Bool, cond, ◌&&◌}
use Rattle.std.specs.Prelude.{List, [], ◌∷◌, ◌++◌, map, length, drop, ◌==◌, nat_le, nat_lt, slice_index}
use Rattle.octets.specs.Order.{unless}
use Rattle.fields.specs.BigEndian.{number_at}
use Rattle.frame.specs.declared.Addresses.{Addresses}
use Rattle.frame.specs.declared.End.TheVariants as ends
use Rattle.frame.specs.Frame.{data_of}
use Rattle.split.specs.Split.{count_of, sub_frame}
use Rattle.split.specs.declared.Received.{Received}
use Rattle.split.specs.declared.Received.TheVariants.{Whole, Full, Last, Above, Other}

-- "76 TREP"
unfoldable pub is_answer : ℕ → List ℕ → Bool
is_answer trep f = nat_le 2 (length f) && (slice_index f 0 == 0x76 && slice_index f 1 == trep)

-- the number of a sub message stands behind 76 and TREP
abbrev pub message_in : List ℕ → ℕ
message_in f = number_at 2 2 f

-- "With 1 expected, a frame 76 TREP with LEN below FF is the whole answer"
abbrev pub is_whole : ℕ → ℕ → Bool
is_whole e n = e == 1 && nat_lt n 255

-- "Else a sub message of the expected number is taken; LEN FF: expect
-- the next ..; shorter: done. Lower numbers are ignored"
unfoldable pub received_as : ℕ → ℕ → List ℕ → Received
received_as trep e f =
    unless (is_answer trep f) Other
    (cond (is_whole e (length f)) Whole
    (unless (nat_le 4 (length f)) Other
    (cond (nat_lt (message_in f) e) Other
    (cond (nat_lt e (message_in f)) Above
    (cond (nat_lt (length f) 255) Last Full)))))

-- the answer's data in it
unfoldable pub carried_by : Received → List ℕ → List ℕ
carried_by Whole f = drop 2 f
carried_by Full f = drop 4 f
carried_by Last f = drop 4 f
carried_by Above f = []
carried_by Other f = []

-- What has been joined: complete, or waiting for number e
pub data Joined : Type 0 where
  complete : List ℕ → Joined
  waiting : ℕ → List ℕ → Joined

-- what one data field makes of it: next and same are what the fields behind it make with the next number expected, and
-- with the same
unfoldable pub joined_by : Received → List ℕ → List ℕ → Joined → Joined → Joined
joined_by Whole held f next same = complete (held ++ carried_by Whole f)
joined_by Last held f next same = complete (held ++ carried_by Last f)
joined_by Full held f next same = next
joined_by Above held f next same = same
joined_by Other held f next same = same

-- the data fields of frames, one after the other, joined behind what is held already
unfoldable pub joined : ℕ → ℕ → List ℕ → List (List ℕ) → Joined
joined trep e held [] = waiting e held
joined trep e held (f ∷ fs) =
    joined_by (received_as trep e f) held f (joined trep (e + 1) (held ++ carried_by Full f) fs) (joined trep e held fs)

-- an answer's frames, from the unit to the tool: m of them from number k on, and all of them
unfoldable pub frames_from : Addresses → ℕ → List ℕ → ℕ → ℕ → List (List ℕ)
frames_from a trep d zero k = []
frames_from a trep d (suc m) k = sub_frame a trep k d ∷ frames_from a trep d m (k + 1)

abbrev pub frames_of : Addresses → ℕ → List ℕ → List (List ℕ)
frames_of a trep d = frames_from a trep d (count_of (length d)) 1

-- what the tool makes of the frames of an answer, each read by the frame rules
abbrev pub joined_frames : Addresses → ℕ → List (List ℕ) → Joined
joined_frames a trep frames = joined trep 1 [] (map (data_of a ends.Tool) frames)

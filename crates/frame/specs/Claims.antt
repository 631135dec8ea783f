-- What is claimed of every frame (document 01, Frames), over any two addresses, and of the calls with two given ones
-- (document 02, Req 05). proofs/Claims.antt proves it.
use Rattle.std.specs.Prelude.{ℕ, ◌+◌, ◌<◌, ◌≤◌, List, [], ◌∷◌, ◌++◌, ◌⊎◌, ◌≢◌, ◌≡◌, length, get_or, take, set}
use Rattle.octets.specs.Numbers.{format_or_address, refused_place}
use Rattle.frame.specs.declared.End.{End}
use Rattle.frame.specs.declared.End.TheVariants as ends
use Rattle.frame.specs.declared.Addresses.{Addresses}
use Rattle.frame.specs.Frame.{lab, frame_of, judged, data_place, data_of, write_result, write_out}
use Rattle.frame.specs.Messages.{start_frame}
use Rattle.frame.specs.Front.{frame_length}
use Rattle.frame.specs.Given.{judged_given, data_place_given, data_given, refused_write}
use Rattle.frame.specs.Given.{write_result_given, write_out_given}
use Rattle.frame.specs.Readdressed.{readdressed}

pub record FrameClaims : Type 0 where
  -- a frame written with 1 to 255 data bytes is judged 0 at the end that it goes to
  pub written : (a : Addresses) (end : End) (d : List ℕ) → 0 < length d → length d ≤ 255
      → judged a end (frame_of a end d) ≡ 0
  -- and its data reads back
  pub data_back : (a : Addresses) (end : End) (d : List ℕ) → 0 < length d → length d ≤ 255
      → data_of a end (frame_of a end d) ≡ d
  -- "the five bytes 81 EE F0 81 E0, start communication, without LEN"
  pub start : start_frame lab ≡ 0x81 ∷ 0xEE ∷ 0xF0 ∷ 0x81 ∷ 0xE0 ∷ []
  -- at any two addresses the start is good at the unit, and carries the SID alone
  pub start_good : (a : Addresses) → judged a ends.Unit (start_frame a) ≡ 0
  pub start_data : (a : Addresses) → data_of a ends.Unit (start_frame a) ≡ 0x81 ∷ []
  -- "One changed byte .. is always refused": in a good frame byte i becomes another byte b
  pub changed_byte : (a : Addresses) (end : End) (f : List ℕ) → judged a end f ≡ 0
      → (i b : ℕ) → i < length f → b < 256 → get_or f i 0 < 256 → b ≢ get_or f i 0
      → judged a end (set f i b) ≢ 0
  -- "or bytes cut off the end, is always refused": only the first n bytes of a good frame are left
  pub cut_short : (a : Addresses) (end : End) (f : List ℕ) → judged a end f ≡ 0
      → (n : ℕ) → n < length f
      → judged a end (take n f) ≢ 0
  -- a good frame's length is told whatever stands behind it, and of its first bytes it is told or not told yet
  pub front_whole : (a : Addresses) (end : End) (f : List ℕ) → judged a end f ≡ 0
      → (rest : List ℕ) → frame_length (f ++ rest) ≡ length f
  pub front_part : (a : Addresses) (end : End) (f : List ℕ) → judged a end f ≡ 0
      → (n : ℕ) → (frame_length (take n f) ≡ 0) ⊎ (frame_length (take n f) ≡ length f)

-- "two equal ones are 2 in every call with them, before any other check": whatever the bytes and the buffer are
pub record Equal (a : Addresses) (end : End) : Type 0 where
  pub check : (s : List ℕ) → judged_given a end s ≡ format_or_address
  pub place : (s : List ℕ) → data_place_given a end s ≡ refused_place format_or_address
  pub read : (s : List ℕ) → data_given a end s ≡ []
  pub write : (d : List ℕ) (out_len : ℕ) → write_result_given a d out_len ≡ refused_write
  pub out : (d out : List ℕ) → write_out_given a end d out ≡ out

-- at two different ones the calls are those of document 01
pub record Different (a : Addresses) (end : End) : Type 0 where
  pub check : (s : List ℕ) → judged_given a end s ≡ judged a end s
  pub place : (s : List ℕ) → data_place_given a end s ≡ data_place a end s
  pub read : (s : List ℕ) → data_given a end s ≡ data_of a end s
  pub write : (d : List ℕ) (out_len : ℕ) → write_result_given a d out_len ≡ write_result d out_len
  pub out : (d out : List ℕ) → write_out_given a end d out ≡ write_out a end d out

pub record GivenClaims : Type 0 where
  pub equal : (a : Addresses) → a.unit ≡ a.tool → (end : End) → Equal a end
  pub different : (a : Addresses) → a.unit ≢ a.tool → (end : End) → Different a end
  -- "Number 2 is then given when a frame's addresses are not those two in the right direction": a frame that is good at
  -- a is 2 at any other two, the same two the other way round among them
  pub other_addresses : (a b : Addresses) (end : End) (f : List ℕ) → judged a end f ≡ 0
      → (b.unit ≡ a.unit → b.tool ≡ a.tool → ⊥)
      → judged b end f ≡ format_or_address
  -- nor is a good frame to one end good at the other
  pub other_end : (a : Addresses) → a.unit ≢ a.tool → (f : List ℕ)
      → (judged a ends.Unit f ≡ 0 → judged a ends.Tool f ≡ format_or_address)
      × (judged a ends.Tool f ≡ 0 → judged a ends.Unit f ≡ format_or_address)
  -- Demand 1 of the calls, at any two addresses: what a write that is not refused leaves at the front of its buffer is
  -- good at that end and reads back; one changed byte, or bytes cut off the end, is refused
  pub call_back : (a : Addresses) (end : End) (d out : List ℕ) → (write_result_given a d (length out)).number ≡ 0
      → (judged_given a end (take (length d + 5) (write_out_given a end d out)) ≡ 0)
      × (data_given a end (take (length d + 5) (write_out_given a end d out)) ≡ d)
  pub call_changed : (a : Addresses) (end : End) (f : List ℕ) → judged_given a end f ≡ 0
      → (i b : ℕ) → i < length f → b < 256 → get_or f i 0 < 256 → b ≢ get_or f i 0
      → judged_given a end (set f i b) ≢ 0
  pub call_cut : (a : Addresses) (end : End) (f : List ℕ) → judged_given a end f ≡ 0
      → (n : ℕ) → n < length f
      → judged_given a end (take n f) ≢ 0
  -- a string at other addresses, good or not, has the same number there and the same data
  pub same_number : (a b : Addresses) (end : End) (s : List ℕ) → judged b end (readdressed a b end s) ≡ judged a end s
  pub same_data : (a b : Addresses) (end : End) (s : List ℕ) → data_of b end (readdressed a b end s) ≡ data_of a end s
  -- and a written frame becomes the one written there: "The five-byte start frame carries them too, and its CS follows"
  pub same_frame : (a b : Addresses) (end : End) (d : List ℕ)
      → readdressed a b end (frame_of a end d) ≡ frame_of b end d
  pub same_start : (a b : Addresses) → readdressed a b ends.Unit (start_frame a) ≡ start_frame b
  -- every good frame at b comes from one at a
  pub back : (a b : Addresses) (end : End) (f : List ℕ) → judged b end f ≡ 0
      → readdressed a b end (readdressed b a end f) ≡ f

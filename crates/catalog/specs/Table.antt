-- The table of document 01, Transfer types (DDP_011): TRTP by transfer type and kind.
use Rattle.std.specs.Prelude.{ℕ, Bool, not, ◌&&◌, ◌||◌, List, [], ◌∷◌, length, get_or, eqb}
use Rattle.octets.specs.Search.{any_of}

-- no TRTP: stands where a kind has no such transfer type
abbrev pub absent : ℕ
absent = 0xFF

-- rows: interface version, overview, activities of a day, events and faults, detailed speed, technical data;
-- columns: generation 1, generation 2 version 1, generation 2 version 2
abbrev pub rows : List (List ℕ)
rows =
    (absent ∷ absent ∷ 0x00 ∷ [])
    ∷ (0x01 ∷ 0x21 ∷ 0x31 ∷ [])
    ∷ (0x02 ∷ 0x22 ∷ 0x32 ∷ [])
    ∷ (0x03 ∷ 0x23 ∷ 0x33 ∷ [])
    ∷ (0x04 ∷ 0x24 ∷ 0x24 ∷ [])
    ∷ (0x05 ∷ 0x25 ∷ 0x35 ∷ [])
    ∷ []

abbrev pub trtp_of : ℕ → ℕ → ℕ
trtp_of type kind = get_or (get_or rows type []) kind absent

-- "A unit is of one kind and knows only its column": the byte stands in it; an absent entry is known to none
unfoldable pub known_to : ℕ → ℕ → Bool
known_to kind byte = not (eqb byte absent) && any_of (λ type. eqb (trtp_of type kind) byte) (length rows)

-- in the table at all
unfoldable pub listed : ℕ → Bool
listed byte = known_to 0 byte || (known_to 1 byte || known_to 2 byte)

-- in that row, at any kind
abbrev pub in_row : ℕ → ℕ → Bool
in_row byte type = (eqb (trtp_of type 0) byte || eqb (trtp_of type 1) byte) || eqb (trtp_of type 2) byte

-- "Activities carry a day": the third row
unfoldable pub is_activities : ℕ → Bool
is_activities byte = not (eqb byte absent) && in_row byte 2

-- The fixed messages of document 01's table (The unit).
use Rattle.std.specs.Prelude.{ℕ, List, [], ◌∷◌}
use Rattle.frame.specs.declared.Addresses.{Addresses}
use Rattle.frame.specs.Frame.{closed}

-- "the five bytes 81 EE F0 81 E0, start communication, without LEN"; it "carries them too, and its CS follows"
-- (document 02, Req 05)
abbrev pub start_frame : Addresses → List ℕ
start_frame a = closed (0x81 ∷ a.unit ∷ a.tool ∷ 0x81 ∷ [])

-- the data of the other fixed requests

-- "10 81"
abbrev pub session_request : List ℕ
session_request = 0x10 ∷ 0x81 ∷ []

-- "35, five 00, four FF"
abbrev pub upload_request : List ℕ
upload_request = 0x35 ∷ 0x00 ∷ 0x00 ∷ 0x00 ∷ 0x00 ∷ 0x00 ∷ 0xFF ∷ 0xFF ∷ 0xFF ∷ 0xFF ∷ []

abbrev pub exit_request : List ℕ
exit_request = 0x37 ∷ []

abbrev pub stop_request : List ℕ
stop_request = 0x82 ∷ []

-- the data of the fixed replies

abbrev pub start_reply : List ℕ
start_reply = 0xC1 ∷ 0xEA ∷ 0x8F ∷ []

abbrev pub session_reply : List ℕ
session_reply = 0x50 ∷ 0x81 ∷ []

abbrev pub rate_reply : List ℕ
rate_reply = 0xC7 ∷ 0x01 ∷ []

abbrev pub upload_reply : List ℕ
upload_reply = 0x75 ∷ 0x00 ∷ 0xFF ∷ []

abbrev pub exit_reply : List ℕ
exit_reply = 0x77 ∷ []

abbrev pub stop_reply : List ℕ
stop_reply = 0xC2 ∷ []

-- Acknowledge codes (DDP_017; document 01, The unit). Numbers and codes are both 16 bits, and each has a type of its
-- own.
use Rattle.std.specs.Prelude.{ℕ, ◌+◌, ◌%◌, Bool, ◌==◌}
use Rattle.split.specs.declared.SubMessage.{SubMessage}
use Rattle.split.specs.declared.AckCode.{AckCode}

abbrev pub sub : ℕ → SubMessage
sub k = record { 0 = k }

abbrev pub code : ℕ → AckCode
code k = record { 0 = k }

-- a code is compared with codes alone
abbrev pub same_code : AckCode → AckCode → Bool
same_code a b = a.0 == b.0

-- the sub message behind this one: 16 bits, so the last number goes on to 0, which no answer reaches
abbrev pub next_of : SubMessage → SubMessage
next_of last = sub ((last.0 + 1) % 65536)

-- "last sent plus 1, send the next"
abbrev pub acknowledge_of : SubMessage → AckCode
acknowledge_of last = code (next_of last).0

-- "last sent, send it again"
abbrev pub repeat_of : SubMessage → AckCode
repeat_of last = code last.0

-- "FFFF, silence, granted"
abbrev pub stop_code : AckCode
stop_code = code 0xFFFF

-- Document 02, Req 05, in bytes: the unit's address EE and the tool's FB ("Source document 000 recommends FB for the
-- remote device"), beside 00 and 01, and two equal ones.
use Rattle.std.specs.Prelude.{ℕ, List, [], ◌∷◌, ◌≡◌}
use Rattle.frame.specs.declared.Addresses.{Addresses}
use Rattle.frame.specs.Messages.{start_frame}
use Rattle.frame.specs.Given.{refused_write, write_result_given}
use Rattle.catalog.specs.declared.AnswerName.{AnswerName}
use Rattle.services.specs.declared.UnitState.{UnitState}
use Rattle.services.specs.declared.Phase.TheVariants.{Closed, Started}
use Rattle.unit.specs.Call.{unit_reply, unit_result_given}
use Rattle.progress.specs.declared.Request.TheVariants as requests
use Rattle.requests.specs.Sent.{frame_sent}
use Rattle.download.specs.TradeCases.{Called}

abbrev pub remote : Addresses
remote = record { unit = 0xEE; tool = 0xFB }

abbrev pub zero_one : Addresses
zero_one = record { unit = 0x00; tool = 0x01 }

abbrev pub equal_two : Addresses
equal_two = record { unit = 0x55; tool = 0x55 }

-- a closed unit of this kind, and one that was started
abbrev pub closed_unit : ℕ → UnitState
closed_unit kind = record { kind = kind; rate = 1; pending = 0; phase = Closed }

abbrev pub started_unit : ℕ → UnitState
started_unit kind = record { kind = kind; rate = 1; pending = 0; phase = Started }

pub record AddressCases : Type 0 where
  -- "The five-byte start frame carries them too, and its CS follows"
  pub start : start_frame remote ≡ 0x81 ∷ 0xEE ∷ 0xFB ∷ 0x81 ∷ 0xEB ∷ []
  pub start_zero : start_frame zero_one ≡ 0x81 ∷ 0x00 ∷ 0x01 ∷ 0x81 ∷ 0x03 ∷ []
  -- a closed unit hears it: it replies, and is started
  pub started : (store : List ℕ) (kind out_len : ℕ) → Called store (closed_unit kind) out_len
      → unit_result_given remote store out_len (closed_unit kind) (0x81 ∷ 0xEE ∷ 0xFB ∷ 0x81 ∷ 0xEB ∷ [])
      ≡ record { number = 0; state = started_unit kind; len = 8 }
  pub start_reply : (store : List ℕ) (kind out_len : ℕ) → Called store (closed_unit kind) out_len
      → unit_reply remote store out_len (closed_unit kind) (0x81 ∷ 0xEE ∷ 0xFB ∷ 0x81 ∷ 0xEB ∷ [])
      ≡ 0x80 ∷ 0xFB ∷ 0xEE ∷ 0x03 ∷ 0xC1 ∷ 0xEA ∷ 0x8F ∷ 0xA6 ∷ []
  -- the lab's start is 2 there
  pub lab_start : (store : List ℕ) (u : UnitState) (out_len : ℕ) → Called store u out_len
      → unit_result_given remote store out_len u (0x81 ∷ 0xEE ∷ 0xF0 ∷ 0x81 ∷ 0xE0 ∷ [])
      ≡ record { number = 2; state = u; len = 0 }
  -- code 2 from the tool, which expects sub message 2
  pub code2 : (name : AnswerName)
      → frame_sent remote requests.Transfer name 2 ≡ 0x80 ∷ 0xEE ∷ 0xFB ∷ 0x04 ∷ 0x83 ∷ 0x76 ∷ 0x00 ∷ 0x02 ∷ 0x68 ∷ []
  -- two equal ones: an empty store, any state and three bytes for the reply; and a write of no data
  pub equal_step : (u : UnitState) (b : List ℕ)
      → unit_result_given equal_two [] 3 u b ≡ record { number = 2; state = u; len = 0 }
  pub equal_write : (out_len : ℕ) → write_result_given equal_two [] out_len ≡ refused_write

-- What is claimed of the calls on packed states (document 01, House numbers), over the addresses a: a refused call
-- changes nothing, two equal addresses are 2, and bytes that are no state are refused by 11. The calls without the
-- suffix _at are those at the lab's. The calls on frames and sub messages promise what Claims.antt of frame and of
-- split is about. proofs/Claims.antt proves it.
use Rattle.std.specs.Prelude.{ℕ, ◌≤◌, false, List, ◌↔◌, ◌≢◌, ◌≡◌, length}
use Rattle.octets.specs.Numbers.{done, format_or_address, out_of_turn}
use Rattle.octets.specs.declared.Written.{Written}
use Rattle.frame.specs.declared.Addresses.{Addresses}
use Rattle.frame.specs.declared.End.{End}
use Rattle.frame.specs.Frame.{lab, judged, data_place, write_result, write_out}
use Rattle.frame.specs.Given.{judged_given, data_place_given, write_result_given, write_out_given}
use Rattle.split.specs.Split.{sub_result, sub_out, sub_result_given, sub_out_given}
use Rattle.catalog.specs.declared.AnswerName.{AnswerName}
use Rattle.store.specs.Layout.{narrow}
use Rattle.store.specs.Check.{store_number}
use Rattle.store.specs.Faults.{IsFault}
use Rattle.unit.specs.Call.{UnitReply}
use Rattle.tool.specs.Call.{ToolStep}
use Rattle.unit.specs.Call.{unit_result, unit_out}
use Rattle.tool.specs.Call.{request_number, begin_result, begin_out}
use Rattle.tool.specs.Call.{arrival_result, arrival_room, arrival_out, wait_result}
use Rattle.tool.specs.Call.{wait_out}
use Rattle.states.specs.Packed.{is_unit, unpacked_unit, request_from, is_tool, unpacked_tool}
use Rattle.host.specs.Calls.{unit_fresh_number, unit_fresh_state, unit_handed, unit_kept, unit_step, unit_step_reply}
use Rattle.host.specs.Calls.{tool_fresh_number, tool_fresh_state, tool_handed, tool_kept, tool_begin, tool_begin_out}
use Rattle.host.specs.Calls.{tool_arrival, tool_arrival_room, tool_arrival_out, tool_wait, tool_wait_out}

-- "Each returns its number with the state as handed in, and writes nothing"

-- what a refused call hands to the host: its number, and no bytes
abbrev pub refusal : ℕ → Written
refusal number = record { number = number; len = 0 }

-- a refused step of the unit leaves the state and the reply buffer
module _ (a : Addresses) (state store frame reply : List ℕ) where
  abbrev pub stepped : UnitReply
  stepped = unit_step a state store (length reply) frame

  pub record StepRefused : Type 0 where
    pub handed : unit_handed stepped ≡ refusal stepped.number
    pub state_kept : unit_kept stepped state ≡ state
    pub reply_kept : unit_step_reply a state store frame reply ≡ reply

-- a refused begin of the tool leaves the state and the output
module _ (a : Addresses) (state : List ℕ) (request : ℕ) (name : AnswerName) (out : List ℕ) where
  abbrev pub begun : ToolStep
  begun = tool_begin a state request name (length out)

  pub record BeginRefused : Type 0 where
    pub handed : tool_handed begun ≡ refusal begun.number
    pub state_kept : tool_kept begun state ≡ state
    pub out_kept : tool_begin_out a state request name out ≡ out

-- a refused arrival leaves the state, the room and the output
module _ (a : Addresses) (state frame room out : List ℕ) where
  abbrev pub arrived : ToolStep
  arrived = tool_arrival a state frame (length room) (length out)

  pub record ArrivalRefused : Type 0 where
    pub handed : tool_handed arrived ≡ refusal arrived.number
    pub state_kept : tool_kept arrived state ≡ state
    pub room_kept : tool_arrival_room a state frame (length out) room ≡ room
    pub out_kept : tool_arrival_out a state frame (length room) out ≡ out

-- a refused wait's end leaves the state and the output; it never changes the room
module _ (a : Addresses) (state room out : List ℕ) where
  abbrev pub waited : ToolStep
  waited = tool_wait a state (length room) (length out)

  pub record WaitRefused : Type 0 where
    pub handed : tool_handed waited ≡ refusal waited.number
    pub state_kept : tool_kept waited state ≡ state
    pub out_kept : tool_wait_out a state (length room) out ≡ out

-- whatever the addresses
pub record HostClaims (a : Addresses) : Type 0 where
  -- a refused call changes nothing
  pub step_refused : (state store frame reply : List ℕ) → (stepped a state store frame reply).number ≢ done
      → StepRefused a state store frame reply
  pub begin_refused : (state : List ℕ) (request : ℕ) (name : AnswerName) (out : List ℕ)
      → (begun a state request name out).number ≢ done
      → BeginRefused a state request name out
  pub arrival_refused : (state frame room out : List ℕ) → (arrived a state frame room out).number ≢ done
      → ArrivalRefused a state frame room out
  pub wait_refused : (state room out : List ℕ) → (waited a state room out).number ≢ done → WaitRefused a state room out
  -- 5 is given nowhere (document 02, Req 06)
  pub step_not_five : (state store frame reply : List ℕ) → (stepped a state store frame reply).number ≢ 5

-- "two equal ones are 2 in every call with them, before any other check" (document 02, Req 05): whatever the store, the
-- state bytes, the frame, the request and the buffers are
pub record EqualClaims (a : Addresses) : Type 0 where
  pub step : (state store frame reply : List ℕ) → (stepped a state store frame reply).number ≡ format_or_address
  pub begin : (state : List ℕ) (request : ℕ) (name : AnswerName) (out : List ℕ)
      → (begun a state request name out).number ≡ format_or_address
  pub arrival : (state frame room out : List ℕ) → (arrived a state frame room out).number ≡ format_or_address
  pub wait : (state room out : List ℕ) → (waited a state room out).number ≡ format_or_address

-- at two different addresses
pub record DifferentClaims (a : Addresses) : Type 0 where
  -- "Wherever 5 was given, exactly one of these is given now" (document 02, Req 06): the unit gives the number of a
  -- broken store before any other
  pub step_fault : (state store frame reply : List ℕ) (k : ℕ) → IsFault k
      → ((stepped a state store frame reply).number ≡ k) ↔ (store_number narrow store ≡ k)
  -- "Packed state bytes that are no state count as impossible": 11, behind a broken store at the unit and behind 12 of
  -- a begin
  pub step_no_state : (state store frame reply : List ℕ) → is_unit state ≡ false → store_number narrow store ≡ done
      → unit_handed (stepped a state store frame reply) ≡ refusal out_of_turn
  pub begin_no_state : (state : List ℕ) (request : ℕ) (name : AnswerName) (out : List ℕ) → is_tool state ≡ false
      → request ≤ 5 → request_number (request_from request) name ≡ done
      → tool_handed (begun a state request name out) ≡ refusal out_of_turn
  pub arrival_no_state : (state frame room out : List ℕ) → is_tool state ≡ false
      → tool_handed (arrived a state frame room out) ≡ refusal out_of_turn
  pub wait_no_state : (state room out : List ℕ) → is_tool state ≡ false
      → tool_handed (waited a state room out) ≡ refusal out_of_turn

pub record AddressClaims : Type 0 where
  pub any : (a : Addresses) → HostClaims a
  pub equal : (a : Addresses) → a.unit ≡ a.tool → EqualClaims a
  pub different : (a : Addresses) → a.unit ≢ a.tool → DifferentClaims a

-- "EE and F0 stay the lab's": the calls without the suffix are, as before, those of document 01 at these two
pub record LabClaims : Type 0 where
  pub lab_different : lab.unit ≢ lab.tool
  pub step : (state store : List ℕ) (n : ℕ) (frame : List ℕ)
      → unit_step lab state store n frame ≡ unit_result lab store n (unpacked_unit state) frame
  pub step_reply : (state store frame reply : List ℕ)
      → unit_step_reply lab state store frame reply ≡ unit_out lab store (unpacked_unit state) frame reply
  pub begin : (state : List ℕ) (request : ℕ) (name : AnswerName) (n : ℕ) → request ≤ 5
      → tool_begin lab state request name n ≡ begin_result lab (unpacked_tool state) (request_from request) name n
  pub begin_out : (state : List ℕ) (request : ℕ) (name : AnswerName) (out : List ℕ) → request ≤ 5
      → tool_begin_out lab state request name out ≡ begin_out lab (unpacked_tool state) (request_from request) name out
  pub arrival : (state frame : List ℕ) (m n : ℕ)
      → tool_arrival lab state frame m n ≡ arrival_result lab (unpacked_tool state) frame m n
  pub arrival_room : (state frame : List ℕ) (n : ℕ) (room : List ℕ)
      → tool_arrival_room lab state frame n room ≡ arrival_room lab (unpacked_tool state) frame n room
  pub arrival_out : (state frame : List ℕ) (m : ℕ) (out : List ℕ)
      → tool_arrival_out lab state frame m out ≡ arrival_out lab (unpacked_tool state) frame m out
  pub wait : (state : List ℕ) (m n : ℕ) → tool_wait lab state m n ≡ wait_result lab (unpacked_tool state) m n
  pub wait_out : (state : List ℕ) (m : ℕ) (out : List ℕ)
      → tool_wait_out lab state m out ≡ wait_out lab (unpacked_tool state) m out
  pub check : (end : End) (s : List ℕ) → judged_given lab end s ≡ judged lab end s
  pub place : (end : End) (s : List ℕ) → data_place_given lab end s ≡ data_place lab end s
  pub write : (d : List ℕ) (n : ℕ) → write_result_given lab d n ≡ write_result d n
  pub write_out : (end : End) (d out : List ℕ) → write_out_given lab end d out ≡ write_out lab end d out
  pub sub : (trep k : ℕ) (d : List ℕ) (n : ℕ) → sub_result_given lab trep k d n ≡ sub_result trep k d n
  pub sub_out : (trep k : ℕ) (d out : List ℕ) → sub_out_given lab trep k d out ≡ sub_out lab trep k d out

-- the calls without addresses: a refused one changes nothing
pub record FreshClaims : Type 0 where
  pub unit_fresh_refused : (kind : ℕ) (state : List ℕ) → unit_fresh_number kind (length state) ≢ done
      → unit_fresh_state kind state ≡ state
  pub tool_fresh_refused : (state : List ℕ) → tool_fresh_number (length state) ≢ done → tool_fresh_state state ≡ state

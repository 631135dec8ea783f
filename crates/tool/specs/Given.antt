-- What is claimed of the addresses in the tool's calls (document 02, Req 05). proofs/Given.antt proves it.
use Rattle.std.specs.Prelude.{ℕ, List, ◌≢◌, ◌≡◌, length}
use Rattle.octets.specs.Buffer.{front}
use Rattle.frame.specs.declared.Addresses.{Addresses}
use Rattle.frame.specs.declared.End.TheVariants as ends
use Rattle.frame.specs.Readdressed.{readdressed}
use Rattle.catalog.specs.declared.AnswerName.{AnswerName}
use Rattle.progress.specs.declared.Request.{Request}
use Rattle.progress.specs.declared.ToolState.{ToolState}
use Rattle.arrival.specs.declared.Meaning.TheVariants.{FailedWait}
use Rattle.arrival.specs.Meaning.{arrival_meaning}
use Rattle.tool.specs.Call.{begin_sent, begin_result, begin_out, event_sent, arrival_result, arrival_room, arrival_out}
use Rattle.tool.specs.Call.{wait_result, wait_out, refused_tool, begin_result_given, begin_out_given}
use Rattle.tool.specs.Call.{arrival_result_given, arrival_room_given, arrival_out_given}
use Rattle.tool.specs.Call.{wait_result_given, wait_out_given}

-- "two equal ones are 2 .., before any other check": whatever the state, the request, the frame and the buffers are,
-- the state stays, so that no failed wait and no sending is counted
pub record Equal (a : Addresses) (t : ToolState) : Type 0 where
  pub begin : (request : Request) (name : AnswerName) (out_len : ℕ)
      → begin_result_given a t request name out_len ≡ refused_tool t
  pub begin_out : (request : Request) (name : AnswerName) (out : List ℕ) → begin_out_given a t request name out ≡ out
  pub arrival : (f : List ℕ) (room_len out_len : ℕ) → arrival_result_given a t f room_len out_len ≡ refused_tool t
  pub arrival_room : (f : List ℕ) (out_len : ℕ) (room : List ℕ) → arrival_room_given a t f out_len room ≡ room
  pub arrival_out : (f : List ℕ) (room_len : ℕ) (out : List ℕ) → arrival_out_given a t f room_len out ≡ out
  pub wait : (room_len out_len : ℕ) → wait_result_given a t room_len out_len ≡ refused_tool t
  pub wait_out : (room_len : ℕ) (out : List ℕ) → wait_out_given a t room_len out ≡ out

-- at two different ones the calls are those of document 01
pub record Different (a : Addresses) (t : ToolState) : Type 0 where
  pub begin : (request : Request) (name : AnswerName) (out_len : ℕ)
      → begin_result_given a t request name out_len ≡ begin_result a t request name out_len
  pub begin_out : (request : Request) (name : AnswerName) (out : List ℕ)
      → begin_out_given a t request name out ≡ begin_out a t request name out
  pub arrival : (f : List ℕ) (room_len out_len : ℕ)
      → arrival_result_given a t f room_len out_len ≡ arrival_result a t f room_len out_len
  pub arrival_room : (f : List ℕ) (out_len : ℕ) (room : List ℕ)
      → arrival_room_given a t f out_len room ≡ arrival_room a t f out_len room
  pub arrival_out : (f : List ℕ) (room_len : ℕ) (out : List ℕ)
      → arrival_out_given a t f room_len out ≡ arrival_out a t f room_len out
  pub wait : (room_len out_len : ℕ) → wait_result_given a t room_len out_len ≡ wait_result a t room_len out_len
  pub wait_out : (room_len : ℕ) (out : List ℕ) → wait_out_given a t room_len out ≡ wait_out a t room_len out

-- A tool at the addresses b is the tool at a with readdressed frames: what it sends is readdressed, and a readdressed
-- string leaves the same number, state, length and room.
pub record Readdressed (a b : Addresses) (t : ToolState) : Type 0 where
  pub begin : (request : Request) (name : AnswerName) (out_len : ℕ)
      → begin_result_given b t request name out_len ≡ begin_result_given a t request name out_len
  pub begin_out : (request : Request) (name : AnswerName) (out : List ℕ)
      → begin_out_given b t request name out
      ≡ front (readdressed a b ends.Unit (begin_sent a t request name (length out))) out
  pub arrival : (f : List ℕ) (room_len out_len : ℕ)
      → arrival_result_given b t (readdressed a b ends.Tool f) room_len out_len
      ≡ arrival_result_given a t f room_len out_len
  pub arrival_room : (f : List ℕ) (out_len : ℕ) (room : List ℕ)
      → arrival_room_given b t (readdressed a b ends.Tool f) out_len room ≡ arrival_room_given a t f out_len room
  pub arrival_out : (f : List ℕ) (room_len : ℕ) (out : List ℕ)
      → arrival_out_given b t (readdressed a b ends.Tool f) room_len out
      ≡ front
      (readdressed a b ends.Unit (event_sent a t (arrival_meaning a room_len t f) room_len (length out)))
      out
  pub wait : (room_len out_len : ℕ) → wait_result_given b t room_len out_len ≡ wait_result_given a t room_len out_len
  pub wait_out : (room_len : ℕ) (out : List ℕ)
      → wait_out_given b t room_len out
      ≡ front (readdressed a b ends.Unit (event_sent a t FailedWait room_len (length out))) out

pub record ToolGivenClaims : Type 0 where
  pub equal : (a : Addresses) → a.unit ≡ a.tool → (t : ToolState) → Equal a t
  pub different : (a : Addresses) → a.unit ≢ a.tool → (t : ToolState) → Different a t
  pub readdressed : (a b : Addresses) → a.unit ≢ a.tool → b.unit ≢ b.tool → (t : ToolState) → Readdressed a b t

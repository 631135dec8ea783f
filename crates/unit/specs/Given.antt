-- What is claimed of the addresses in a unit's call (document 02, Req 05). proofs/Given.antt proves it.
use Rattle.std.specs.Prelude.{ℕ, List, ◌≢◌, ◌≡◌, length}
use Rattle.octets.specs.Buffer.{front}
use Rattle.octets.specs.Numbers.{format_or_address}
use Rattle.frame.specs.declared.Addresses.{Addresses}
use Rattle.frame.specs.declared.End.TheVariants as ends
use Rattle.frame.specs.Readdressed.{readdressed}
use Rattle.services.specs.declared.UnitState.{UnitState}
use Rattle.unit.specs.Call.{unit_reply, unit_result, unit_out, unit_result_given, unit_out_given}

pub record UnitGivenClaims : Type 0 where
  -- "two equal ones are 2 .., before any other check": whatever the store, the state, the buffer and the frame are
  pub equal : (a : Addresses) → a.unit ≡ a.tool → (store : List ℕ) (out_len : ℕ) (u : UnitState) (b : List ℕ)
      → unit_result_given a store out_len u b ≡ record { number = format_or_address; state = u; len = 0 }
  pub equal_out : (a : Addresses) → a.unit ≡ a.tool → (store : List ℕ) (u : UnitState) (b out : List ℕ)
      → unit_out_given a store u b out ≡ out
  -- at two different ones the call is the one of document 01
  pub different : (a : Addresses) → a.unit ≢ a.tool → (store : List ℕ) (out_len : ℕ) (u : UnitState) (b : List ℕ)
      → unit_result_given a store out_len u b ≡ unit_result a store out_len u b
  pub different_out : (a : Addresses) → a.unit ≢ a.tool → (store : List ℕ) (u : UnitState) (b out : List ℕ)
      → unit_out_given a store u b out ≡ unit_out a store u b out
  -- A unit at the addresses b is the unit at a with readdressed frames: at every string the number, the next state and
  -- the length are the same, and the reply is readdressed. The lab's unit is the one at a = lab.
  pub readdressed_result : (a b : Addresses) → a.unit ≢ a.tool → b.unit ≢ b.tool
      → (store : List ℕ) (out_len : ℕ) (u : UnitState) (f : List ℕ)
      → unit_result_given b store out_len u (readdressed a b ends.Unit f) ≡ unit_result_given a store out_len u f
  pub readdressed_reply : (a b : Addresses) (store : List ℕ) (out_len : ℕ) (u : UnitState) (f : List ℕ)
      → unit_reply b store out_len u (readdressed a b ends.Unit f)
      ≡ readdressed a b ends.Tool (unit_reply a store out_len u f)
  pub readdressed_out : (a b : Addresses) → b.unit ≢ b.tool → (store : List ℕ) (u : UnitState) (f out : List ℕ)
      → unit_out_given b store u (readdressed a b ends.Unit f) out
      ≡ front (readdressed a b ends.Tool (unit_reply a store (length out) u f)) out

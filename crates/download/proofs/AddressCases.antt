-- Req 05 in bytes.
use Prim.Native.Nat.{ℕ}
use mathlib.Core.List.{List, [], ◌∷◌}
use mathlib.Core.Path.{◌≡◌, refl}
use borrow.Author.Tests.{le-leb}
use Rattle.frame.specs.declared.End.TheVariants as ends
use Rattle.frame.specs.Frame.{closed, frame_of, judged}
use Rattle.frame.specs.Given.{different, write_result_given}
use Rattle.catalog.specs.declared.AnswerName.{AnswerName}
use Rattle.services.specs.declared.UnitState.{UnitState}
use Rattle.services.specs.declared.Reaction.TheVariants.{CommunicationStarted}
use Rattle.services.specs.After.{state_after}
use Rattle.unit.specs.Call.{reaction_to, reply_data, reply_to, number_before, unit_number, unit_reply, unit_state, unit_result, unit_result_given}
use Rattle.progress.specs.declared.Request.TheVariants as requests
use Rattle.requests.specs.Sent.{frame_sent}
use Rattle.download.specs.TradeCases.{Called}
use Rattle.download.specs.AddressCases.{remote, closed_unit, started_unit, AddressCases}
use Rattle.download.proofs.Runs.{calls}
use Rattle.download.proofs.ServiceFacts.{not-refused}

abbrev start : List ℕ
start = 0x81 ∷ 0xEE ∷ 0xFB ∷ 0x81 ∷ 0xEB ∷ []

abbrev labs_start : List ℕ
labs_start = 0x81 ∷ 0xEE ∷ 0xF0 ∷ 0x81 ∷ 0xE0 ∷ []

start-good : judged remote ends.Unit start ≡ 0
unfolding calls
start-good = refl

lab-refused : judged remote ends.Unit labs_start ≡ 2
unfolding calls
lab-refused = refl

starts : (store : List ℕ) (u : UnitState) → reaction_to remote store u start ≡ CommunicationStarted
unfolding calls
starts store u = refl

reply-bytes : (store : List ℕ) → reply_to remote (reply_data store CommunicationStarted) ≡ 0x80 ∷ 0xFB ∷ 0xEE ∷ 0x03 ∷ 0xC1 ∷ 0xEA ∷ 0x8F ∷ 0xA6 ∷ []
unfolding reply_to reply_data frame_of closed
reply-bytes store = refl

next-state : (kind : ℕ) → state_after (closed_unit kind) CommunicationStarted ≡ started_unit kind
unfolding state_after
next-state kind = refl

module _ (store : List ℕ) (kind out_len : ℕ) (c : Called store (closed_unit kind) out_len) where
  number : unit_number remote store out_len (closed_unit kind) start ≡ 0
  number = not-refused remote store (closed_unit kind) out_len start c.unbroken c.possible (le-leb 260 out_len c.roomy) start-good

  reply : unit_reply remote store out_len (closed_unit kind) start ≡ 0x80 ∷ 0xFB ∷ 0xEE ∷ 0x03 ∷ 0xC1 ∷ 0xEA ∷ 0x8F ∷ 0xA6 ∷ []
  unfolding unit_reply
  reply = rw (number, starts store (closed_unit kind)) (reply-bytes store)

  state : unit_state remote store out_len (closed_unit kind) start ≡ started_unit kind
  unfolding unit_state
  state = rw (number, starts store (closed_unit kind)) (next-state kind)

  started : unit_result_given remote store out_len (closed_unit kind) start ≡ record { number = 0; state = started_unit kind; len = 8 }
  unfolding unit_result_given different unit_result
  started = rw (number, state, reply)

lab-start : (store : List ℕ) (u : UnitState) (out_len : ℕ) → Called store u out_len
    → unit_result_given remote store out_len u labs_start ≡ record { number = 2; state = u; len = 0 }
unfolding unit_result_given different unit_result unit_state unit_reply unit_number number_before
lab-start store u out_len c = rw (c.unbroken, c.possible, le-leb 260 out_len c.roomy, lab-refused)

code-2 : (name : AnswerName) → frame_sent remote requests.Transfer name 2 ≡ 0x80 ∷ 0xEE ∷ 0xFB ∷ 0x04 ∷ 0x83 ∷ 0x76 ∷ 0x00 ∷ 0x02 ∷ 0x68 ∷ []
unfolding calls
code-2 name = refl

pub cases : AddressCases
unfolding closed unit_result_given write_result_given different
cases =
    record {
      start = refl;
      start_zero = refl;
      started = started;
      start_reply = reply;
      lab_start = lab-start;
      code2 = code-2;
      equal_step = λ u b. refl;
      equal_write = λ out_len. refl;
    }

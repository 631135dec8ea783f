-- W1 to W12 hold: what is fixed by computation, the rest from the facts about unit, store and splitting.
use Prim.Native.Nat.{ℕ, suc, ◌-◌, ◌<◌, ◌≤◌}
use mathlib.Core.Bool.{true, false}
use mathlib.Core.List.{List, [], ◌∷◌}
use mathlib.Core.Path.{◌≡◌, refl, sym, ap, ◌∙◌}
use native.Mathlib.Omega.{arith}
use lib.ListN.{length, drop, replicate, length-drop}
use borrow.Author.Tests.{le-leb}
use Rattle.octets.specs.Order.{unless}
use Rattle.octets.specs.Buffer.{front}
use Rattle.frame.specs.Frame.{lab, closed, frame_of, judged}
use Rattle.frame.specs.declared.End.TheVariants as ends
use Rattle.frame.proofs.Theorems.{write-then-check}
use Rattle.catalog.specs.declared.AnswerName.{AnswerName}
use Rattle.split.specs.Codes.{sub, acknowledge_of}
use Rattle.split.specs.Split.{count_of, sub_field, sub_frame}
use Rattle.split.specs.Join.{frames_from}
use Rattle.split.proofs.Theorems.{split-252, split-253, split-501, split-502, count_most_lem}
use Rattle.store.specs.Layout.{narrow}
use Rattle.store.specs.Read.{lookup_number, lookup_place, lookup_part}
use Rattle.store.proofs.ReadLaws.{number-of-place}
use Rattle.store.specs.Answer.{answer_number}
use Rattle.store.specs.Claims.{store12}
use Rattle.append.specs.Append.{room_number, append_number, with_answer, append_out}
use Rattle.services.specs.declared.UnitState.{UnitState}
use Rattle.services.specs.declared.Phase.TheVariants.{Started, Session, Granted, Sending}
use Rattle.services.specs.declared.Reaction.{Reaction}
use Rattle.services.specs.declared.Reaction.TheVariants.{SessionOpened, UploadGranted, AnswerSent, Negative}
use Rattle.services.specs.State.{is_closed, is_granted}
use Rattle.services.specs.Services.{on_session, on_upload, answer_from}
use Rattle.services.specs.Services.{on_data}
use Rattle.services.specs.After.{state_after}
use Rattle.unit.specs.Call.{reaction_to, reply_data, reply_to, unit_state, unit_reply}
use Rattle.progress.specs.declared.Request.TheVariants as requests
use Rattle.requests.specs.Sent.{transfer_request, acknowledgement, transfer_data, frame_sent}
use Rattle.download.specs.TradeCases.{Called, Asked, lens, TradeCases}
use Rattle.download.proofs.Runs.{lookups, calls}
use Rattle.download.proofs.StoreFacts.{held_place}
use Rattle.download.proofs.FrameFacts.{asked-some, asked-most, asked-good}
use Rattle.download.proofs.ServiceFacts.{ranges, sending-held, granted-open, request-first, asked-first, transfer-asked, past-last, not-refused, heard}

-- what a unit replies where nothing is refused
module _ (store : List ℕ) (u : UnitState) (room : ℕ) (c : Called store u room) where
  pub reply : (b : List ℕ) (r : Reaction) → judged lab ends.Unit b ≡ 0 → reaction_to lab store u b ≡ r
      → unit_reply lab store room u b ≡ reply_to lab (reply_data store r)
  unfolding unit_reply
  reply b r j e = rw (not-refused lab store u room b c.unbroken c.possible (le-leb 260 room c.roomy) j, e)

  -- and its next state
  pub next : (b : List ℕ) (r : Reaction) → judged lab ends.Unit b ≡ 0 → reaction_to lab store u b ≡ r → unit_state lab store room u b ≡ state_after u r
  unfolding unit_state
  next b r j e = rw (not-refused lab store u room b c.unbroken c.possible (le-leb 260 room c.roomy) j, e)

  w1 : u.phase ≡ Started
      → unit_reply lab store room u (0x80 ∷ 0xEE ∷ 0xF0 ∷ 0x02 ∷ 0x10 ∷ 0x81 ∷ 0xF1 ∷ []) ≡ 0x80 ∷ 0xF0 ∷ 0xEE ∷ 0x02 ∷ 0x50 ∷ 0x81 ∷ 0x31 ∷ []
  unfolding calls on_session
  w1 p = reply (0x80 ∷ 0xEE ∷ 0xF0 ∷ 0x02 ∷ 0x10 ∷ 0x81 ∷ 0xF1 ∷ []) SessionOpened refl (rw p)

  w2 : u.phase ≡ Session
      → unit_reply lab store room u (0x80 ∷ 0xEE ∷ 0xF0 ∷ 0x0A ∷ 0x35 ∷ 0x00 ∷ 0x00 ∷ 0x00 ∷ 0x00 ∷ 0x00 ∷ 0xFF ∷ 0xFF ∷ 0xFF ∷ 0xFF ∷ 0x99 ∷ [])
      ≡ 0x80 ∷ 0xF0 ∷ 0xEE ∷ 0x03 ∷ 0x75 ∷ 0x00 ∷ 0xFF ∷ 0xD5 ∷ []
  unfolding calls on_upload
  w2 p = reply (0x80 ∷ 0xEE ∷ 0xF0 ∷ 0x0A ∷ 0x35 ∷ 0x00 ∷ 0x00 ∷ 0x00 ∷ 0x00 ∷ 0x00 ∷ 0xFF ∷ 0xFF ∷ 0xFF ∷ 0xFF ∷ 0x99 ∷ []) UploadGranted refl (rw p)

w3-reaction : (u : UnitState) → u.kind ≡ 2 → u.phase ≡ Granted
    → reaction_to lab store12 u (0x80 ∷ 0xEE ∷ 0xF0 ∷ 0x02 ∷ 0x36 ∷ 0x00 ∷ 0x96 ∷ []) ≡ AnswerSent (record { trep = 0x00; day = 0 }) (sub 1)
    (record { start = 12; len = 4 })
unfolding calls
w3-reaction u k p = rw (k, p)

w3 : (u : UnitState) (room : ℕ) → Called store12 u room → u.kind ≡ 2 → u.phase ≡ Granted
    → unit_reply lab store12 room u (0x80 ∷ 0xEE ∷ 0xF0 ∷ 0x02 ∷ 0x36 ∷ 0x00 ∷ 0x96 ∷ []) ≡ 0x80 ∷ 0xF0 ∷ 0xEE ∷ 0x04 ∷ 0x76 ∷ 0x00 ∷ 0x02 ∷ 0x02 ∷ 0xDC ∷ []
unfolding calls
w3 u room c k p = reply store12 u room c (0x80 ∷ 0xEE ∷ 0xF0 ∷ 0x02 ∷ 0x36 ∷ 0x00 ∷ 0x96 ∷ []) _ refl (w3-reaction u k p)

w11 : (name : AnswerName) → frame_sent lab requests.Transfer name 2 ≡ 0x80 ∷ 0xEE ∷ 0xF0 ∷ 0x04 ∷ 0x83 ∷ 0x76 ∷ 0x00 ∷ 0x02 ∷ 0x5D ∷ []
unfolding acknowledgement transfer_data frame_sent closed frame_of
w11 name = refl

w12 : append_out narrow (0x76 ∷ 0x00 ∷ 0x02 ∷ 0x02 ∷ []) 0 (replicate 16 0x00) ≡ store12
unfolding lookups answer_number room_number append_number with_answer append_out front
w12 = refl

-- W7 to W10: LEN is the length of the data field
lens-one : (trep : ℕ) (d : List ℕ) → count_of (length d) ≡ 1 → lens trep d ≡ length (sub_field trep 1 d) ∷ []
unfolding frames_from sub_frame frame_of closed
lens-one trep d e = rw e

lens-two : (trep : ℕ) (d : List ℕ) → count_of (length d) ≡ 2 → lens trep d ≡ length (sub_field trep 1 d) ∷ length (sub_field trep 2 d) ∷ []
unfolding frames_from sub_frame frame_of closed
lens-two trep d e = rw e

lens-three : (trep : ℕ) (d : List ℕ) → count_of (length d) ≡ 3
    → lens trep d ≡ length (sub_field trep 1 d) ∷ length (sub_field trep 2 d) ∷ length (sub_field trep 3 d) ∷ []
unfolding frames_from sub_frame frame_of closed
lens-three trep d e = rw e

module _ (trep : ℕ) (d : List ℕ) where
  w7 : length d ≡ 252 → lens trep d ≡ 0xFE ∷ []
  w7 e =
      let s = split-252 trep d e in
      rw (lens-one trep d s.0, s.1)

  w8 : length d ≡ 253 → lens trep d ≡ 0xFF ∷ 0x06 ∷ []
  w8 e =
      let s = split-253 trep d e in
      rw (lens-two trep d s.0, s.1, s.2)

  w9 : length d ≡ 501 → lens trep d ≡ 0xFF ∷ 0xFE ∷ []
  w9 e =
      let s = split-501 trep d e in
      rw (lens-two trep d s.0, s.1, s.2)

  w10 : length d ≡ 502 → lens trep d ≡ 0xFF ∷ 0xFF ∷ 0x04 ∷ []
  w10 e =
      let s = split-502 trep d e in
      rw (lens-three trep d s.0, s.1, s.2, s.3)

-- W4 to W6: refusals by wire code

module _ (store : List ℕ) (u : UnitState) (room : ℕ) (c : Called store u room) where
  -- a transfer request, and what is left to check: phase and data held; and its reply
  pub transfer-reaction : (name : AnswerName) → Asked u name → is_closed u.phase ≡ false
      → reaction_to lab store u (frame_of lab ends.Unit (transfer_request name))
      ≡ unless (is_granted u.phase) (Negative 0x36 0x22) (answer_from name (sub 1) (lookup_place narrow name store))
  unfolding transfer_data
  transfer-reaction name q o =
      heard lab store u (transfer_request name) (asked-some name 1) (asked-most name 1) o
      ∙ request-first _ _ u name
      ∙ transfer-asked u.kind u.phase _ name q.known q.named q.four_bytes
      ∙ rw (asked-first name q.named q.four_bytes)

  transfer-reply : (name : AnswerName) (r : Reaction) → Asked u name → is_closed u.phase ≡ false
      → unless (is_granted u.phase) (Negative 0x36 0x22) (answer_from name (sub 1) (lookup_place narrow name store)) ≡ r
      → unit_reply lab store room u (frame_of lab ends.Unit (transfer_request name)) ≡ reply_to lab (reply_data store r)
  unfolding transfer_data frame_sent
  transfer-reply name r q o e =
      reply store u room c (frame_of lab ends.Unit (transfer_request name)) r (asked-good lab name 1) (transfer-reaction name q o ∙ e)

  w4 : (name : AnswerName) → Asked u name → is_granted u.phase ≡ true → lookup_number narrow name store ≡ 6
      → unit_reply lab store room u (frame_of lab ends.Unit (transfer_request name)) ≡ 0x80 ∷ 0xF0 ∷ 0xEE ∷ 0x03 ∷ 0x7F ∷ 0x36 ∷ 0xFA ∷ 0x10 ∷ []
  unfolding answer_from closed frame_of reply_data reply_to
  w4 name q g n =
      let z : (lookup_place narrow name store).number ≡ 6 = number-of-place narrow store name (lookup_place narrow name store) refl ∙ n in
      transfer-reply name (Negative 0x36 0xFA) q (granted-open u.phase g) (rw (g, z))

  w5 : (name : AnswerName) → Asked u name → u.phase ≡ Session
      → unit_reply lab store room u (frame_of lab ends.Unit (transfer_request name)) ≡ 0x80 ∷ 0xF0 ∷ 0xEE ∷ 0x03 ∷ 0x7F ∷ 0x36 ∷ 0x22 ∷ 0x38 ∷ []
  unfolding closed frame_of reply_data reply_to
  w5 name q p = transfer-reply name (Negative 0x36 0x22) q (rw p) (rw p)

  w6 : (name : AnswerName) (last : ℕ) → u.phase ≡ Sending name (sub last) → last ≡ count_of (length (drop 2 (lookup_part narrow name store)))
      → unit_reply lab store room u (frame_of lab ends.Unit (acknowledgement (acknowledge_of (sub last)))) ≡ 0x80 ∷ 0xF0 ∷ 0xEE ∷ 0x03 ∷ 0x7F ∷ 0x83
      ∷ 0x12 ∷ 0x75 ∷ []
  unfolding closed frame_of reply_data reply_to acknowledgement on_data
  w6 name last p e =
      let z = sending-held store name (sub last) (rw p at (ranges store u c.possible).phase) in
      let t = held_place store name z in
      let d : List ℕ = lookup_part narrow name store in
      let n : (lookup_place narrow name store).len - 2 ≡ length (drop 2 d) = rw t.len (sym (length-drop 2 d)) in
      let m : length (drop 2 d) ≤ 59998 = omega (arith, length-drop 2 d, t.most) in
      let l : suc last < 65536 = omega (arith, count_most_lem (length (drop 2 d)) m) in
      let a : List ℕ = acknowledgement (acknowledge_of (sub last)) in
      reply store u room c (frame_of lab ends.Unit a) (Negative 0x83 0x12) (write-then-check lab ends.Unit a (omega arith) (omega arith))
      (heard lab store u a (omega arith) (omega arith) (rw p) ∙ rw p (past-last (lookup_place narrow name store) name last l (omega (arith, ap count_of n))))

pub trade-cases : TradeCases
trade-cases =
    record {
      w1 = λ store u room c. w1 store u room c;
      w2 = λ store u room c. w2 store u room c;
      w3 = w3;
      w4 = λ store u room name c. w4 store u room c name;
      w5 = λ store u room name c. w5 store u room c name;
      w6 = λ store u room name last c. w6 store u room c name last;
      w7 = w7;
      w8 = w8;
      w9 = w9;
      w10 = w10;
      w11 = w11;
      w12 = w12;
    }

-- The cases of specs/DayCases.antt: what is fixed by computation, the rest from the facts about unit and store.
use Prim.Native.Nat.{ℕ, ◌-◌, ◌<◌}
use mathlib.Core.Bool.{Bool, true, false}
use mathlib.Core.List.{List, [], ◌∷◌}
use mathlib.Core.Path.{◌≡◌, refl, sym, ap, ◌∙◌}
use lib.Dec.{eqb}
use lib.ListN.{length, drop, length-drop}
use Rattle.frame.specs.Frame.{lab, frame_of, judged}
use Rattle.frame.specs.declared.End.TheVariants as ends
use Rattle.catalog.specs.Name.{day_named, rounded}
use Rattle.catalog.proofs.DayLaws.{rounded-named, one-trep}
use Rattle.catalog.specs.declared.AnswerName.{AnswerName}
use Rattle.split.specs.Codes.{sub}
use Rattle.split.specs.Split.{is_split}
use Rattle.store.specs.Layout.{narrow}
use Rattle.store.specs.Read.{lookup_number, lookup_place, lookup_part}
use Rattle.store.proofs.Days.{day-claims as store-days}
use Rattle.append.specs.Days.{day_store}
use Rattle.services.specs.declared.UnitState.{UnitState}
use Rattle.services.specs.declared.Phase.TheVariants.{Session, Granted, Sending}
use Rattle.services.specs.declared.Reaction.{Reaction}
use Rattle.services.specs.declared.Reaction.TheVariants.{AnswerSent, Negative}
use Rattle.services.specs.State.{is_closed, is_granted}
use Rattle.services.specs.Services.{answer_from}
use Rattle.services.specs.After.{state_after}
use Rattle.octets.specs.Numbers.{part_of_place}
use Rattle.octets.specs.Order.{unless}
use Rattle.unit.specs.Call.{reaction_to, reply_data, reply_to, unit_state, unit_reply}
use Rattle.unit.specs.Days.{rounded_state}
use Rattle.unit.proofs.Days.{rounded_reaction, both, sent-alike, reply-rounded, after-rounded}
use Rattle.progress.specs.declared.Request.TheVariants.{Transfer}
use Rattle.progress.specs.declared.ToolState.{ToolState}
use Rattle.requests.specs.Sent.{transfer_request, transfer_data, frame_sent}
use Rattle.tool.specs.Call.{begin_number, begin_sent}
use Rattle.download.specs.TradeCases.{Called, Asked}
use Rattle.download.specs.DayCases.{day_asked, day_request, DayCases}
use Rattle.download.proofs.Runs.{calls}
use Rattle.download.proofs.FrameFacts.{asked-good}
use Rattle.download.proofs.ServiceFacts.{granted-open, unheard}
use Rattle.download.proofs.StoreFacts.{held_place}
use Rattle.download.proofs.TradeCases.{reply, next, transfer-reaction}

module _ (u : UnitState) (room : ℕ) (c : Called day_store u room) (k : u.kind ≡ 0) where
  granted-reaction : u.phase ≡ Granted → reaction_to lab day_store u day_request ≡ AnswerSent day_asked (sub 1) (record { start = 12; len = 3 })
  unfolding calls
  granted-reaction p = rw (k, p)

  granted : u.phase ≡ Granted → unit_reply lab day_store room u day_request ≡ 0x80 ∷ 0xF0 ∷ 0xEE ∷ 0x03 ∷ 0x76 ∷ 0x02 ∷ 0xAA ∷ 0x83 ∷ []
  unfolding calls
  granted p = reply day_store u room c day_request _ refl (granted-reaction p)

  session-reaction : u.phase ≡ Session → reaction_to lab day_store u day_request ≡ Negative 0x36 0x22
  unfolding calls
  session-reaction p = rw (k, p)

  session : u.phase ≡ Session → unit_reply lab day_store room u day_request ≡ 0x80 ∷ 0xF0 ∷ 0xEE ∷ 0x03 ∷ 0x7F ∷ 0x36 ∷ 0x22 ∷ 0x38 ∷ []
  unfolding calls
  session p = reply day_store u room c day_request _ refl (session-reaction p)

sent : (t : ToolState) (room : ℕ) → begin_number t Transfer day_asked room ≡ 0 → begin_sent lab t Transfer day_asked room ≡ day_request
unfolding begin_sent calls
sent t room e = rw e

-- any second of a day
module _ (store : List ℕ) (u : UnitState) (room : ℕ) (c : Called store u room) where
  abbrev request : AnswerName → List ℕ
  request name = frame_of lab ends.Unit (transfer_request name)

  good : (name : AnswerName) → judged lab ends.Unit (request name) ≡ 0
  unfolding transfer_data frame_sent
  good name = asked-good lab name 1

  keeps : (name : AnswerName) → Asked u name → is_granted u.phase ≡ true → lookup_number narrow name store ≡ 0
      → is_split (length (drop 2 (lookup_part narrow name store))) ≡ true → (unit_state lab store room u (request name)).phase ≡ Sending name (sub 1)
  unfolding answer_from state_after
  keeps name q g z s =
      let held = held_place store name z in
      let n : (lookup_place narrow name store).len - 2 ≡ length (drop 2 (lookup_part narrow name store)) =
      rw held.len (sym (length-drop 2 (lookup_part narrow name store))) in
      ap (λ (v : UnitState). v.phase)
      (next store u room c (request name) _ (good name) (transfer-reaction store u room c name q (granted-open u.phase g)))
      ∙ rw (g, held.number, n, s)

  module _ (name other : AnswerName) (q : Asked u name) (four : other.day < 0x100000000) (e : rounded name ≡ rounded other) where
    -- the other is asked for too
    asked : Asked u other
    asked =
        record {
          known = rw (← one-trep name other e) q.known;
          named = sym (rounded-named other) ∙ ap day_named (sym e) ∙ rounded-named name ∙ q.named;
          four_bytes = four;
        }

    answer-alike : rounded_reaction (unless (is_granted u.phase) (Negative 0x36 0x22) (answer_from name (sub 1) (lookup_place narrow name store)))
        ≡ rounded_reaction (unless (is_granted u.phase) (Negative 0x36 0x22) (answer_from other (sub 1) (lookup_place narrow other store)))
    unfolding answer_from
    answer-alike =
        rw ((store-days narrow).alike name other store e)
        (both (is_granted u.phase) _ _ _ _
        (both (eqb (lookup_place narrow other store).number 0) _ _ _ _ (sent-alike name other (sub 1) (part_of_place (lookup_place narrow other store)) e) refl)
        refl)

    alike : rounded_reaction (reaction_to lab store u (request name)) ≡ rounded_reaction (reaction_to lab store u (request other))
    alike = go (is_closed u.phase) refl
      where
        go : (b : Bool) → is_closed u.phase ≡ b
            → rounded_reaction (reaction_to lab store u (request name)) ≡ rounded_reaction (reaction_to lab store u (request other))
        go true o = ap rounded_reaction (unheard lab store u (transfer_request name) o ∙ sym (unheard lab store u (transfer_request other) o))
        go false o =
            ap rounded_reaction (transfer-reaction store u room c name q o)
            ∙ answer-alike
            ∙ ap rounded_reaction (sym (transfer-reaction store u room c other asked o))

    alike-reply : unit_reply lab store room u (request name) ≡ unit_reply lab store room u (request other)
    alike-reply =
        let x = reaction_to lab store u (request name) in
        let y = reaction_to lab store u (request other) in
        reply store u room c (request name) x (good name) refl
        ∙ ap (reply_to lab) (sym (reply-rounded store x) ∙ ap (reply_data store) alike ∙ reply-rounded store y)
        ∙ sym (reply store u room c (request other) y (good other) refl)

    alike-state : rounded_state (unit_state lab store room u (request name)) ≡ rounded_state (unit_state lab store room u (request other))
    alike-state =
        let x = reaction_to lab store u (request name) in
        let y = reaction_to lab store u (request other) in
        ap rounded_state (next store u room c (request name) x (good name) refl)
        ∙ sym (after-rounded u x)
        ∙ ap (λ (r : Reaction). rounded_state (state_after (rounded_state u) r)) alike
        ∙ after-rounded u y
        ∙ ap rounded_state (sym (next store u room c (request other) y (good other) refl))

pub day-cases : DayCases
day-cases =
    record {
      granted = granted;
      session = session;
      sent = sent;
      unit_keeps = λ store u room name c. keeps store u room c name;
      alike_reply = λ store u room name other c. alike-reply store u room c name other;
      alike_state = λ store u room name other c. alike-state store u room c name other;
    }

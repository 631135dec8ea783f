-- The claims of specs/Days.antt.
use Prim.Native.Nat.{ℕ, ◌+◌}
use mathlib.Core.Bool.{Bool, true, false, cond}
use mathlib.Core.List.{List}
use mathlib.Core.Path.{◌≡◌, refl, sym, ap, ◌∙◌}
use lib.Dec.{eqb, leb}
use lib.ListN.{length, get_or}
use Rattle.octets.specs.Numbers.{changed_by}
use Rattle.octets.specs.declared.Place.{Place}
use Rattle.octets.specs.declared.Part.{Part}
use Rattle.octets.specs.Numbers.{part_of_place}
use Rattle.fields.specs.BigEndian.{number_at}
use Rattle.frame.specs.declared.Addresses.{Addresses}
use Rattle.frame.specs.declared.End.TheVariants as ends
use Rattle.frame.specs.Frame.{is_start, data_of}
use Rattle.catalog.specs.Name.{WholeDay, rounded}
use Rattle.catalog.specs.declared.AnswerName.{AnswerName}
use Rattle.catalog.proofs.DayLaws.{rounded-trep, rounded-again}
use Rattle.split.specs.Codes.{code, same_code, next_of, acknowledge_of, repeat_of}
use Rattle.split.specs.Split.{is_split, count_of}
use Rattle.split.specs.declared.SubMessage.{SubMessage}
use Rattle.split.specs.declared.AckCode.{AckCode}
use Rattle.store.specs.Layout.{narrow}
use Rattle.store.specs.Read.{lookup_place}
use Rattle.store.specs.Days.{lookup_place_before}
use Rattle.store.proofs.Days.{day-claims as store-days}
use Rattle.services.specs.declared.Phase.{Phase}
use Rattle.services.specs.declared.Phase.TheVariants.{Closed, Started, Session, Granted, Sending}
use Rattle.services.specs.declared.Reaction.{Reaction}
use Rattle.services.specs.declared.Reaction.TheVariants.{Ignored, CommunicationStarted, SessionOpened, RateOffered, RateChanged}
use Rattle.services.specs.declared.Reaction.TheVariants.{UploadGranted, AnswerSent, AnswerStopped, TransferExited}
use Rattle.services.specs.declared.Reaction.TheVariants.{CommunicationStopped, Negative}
use Rattle.services.specs.declared.UnitState.{UnitState}
use Rattle.services.specs.State.{name_sent, data_length, phase_possible, possible_at}
use Rattle.services.specs.Services.{on_rate_offer, on_rate_change, on_link_control, on_upload, on_transfer, on_exit, on_code, on_sending, on_acknowledge, name_asked, on_data}
use Rattle.services.specs.After.{state_after}
use Rattle.services.proofs.Days.{day-claims as service-days}
use Rattle.unit.specs.State.{possible}
use Rattle.unit.specs.Call.{place_asked, reaction_at, reaction_to, reply_data, unit_number, unit_state, unit_reply}
use Rattle.unit.specs.Days.{rounded_phase, rounded_state, possible_before, reaction_before, DayClaims}

-- The reaction with the first second of the day in its answer's name

pub rounded_reaction : Reaction → Reaction
rounded_reaction Ignored = Ignored
rounded_reaction CommunicationStarted = CommunicationStarted
rounded_reaction SessionOpened = SessionOpened
rounded_reaction (RateOffered r) = RateOffered r
rounded_reaction RateChanged = RateChanged
rounded_reaction UploadGranted = UploadGranted
rounded_reaction (AnswerSent name k place) = AnswerSent (rounded name) k place
rounded_reaction AnswerStopped = AnswerStopped
rounded_reaction TransferExited = TransferExited
rounded_reaction CommunicationStopped = CommunicationStopped
rounded_reaction (Negative sid code) = Negative sid code

-- one of two, by the same test
pub both : (t : Bool) (x y x' y' : Reaction) → rounded_reaction x ≡ rounded_reaction x' → rounded_reaction y ≡ rounded_reaction y'
    → rounded_reaction (cond t x y) ≡ rounded_reaction (cond t x' y')
both true x y x' y' p q = p
both false x y x' y' p q = q

-- an answer sent under two names that are kept as one
pub sent-alike : (name other : AnswerName) (k : SubMessage) (place : Part) → rounded name ≡ rounded other
    → rounded_reaction (AnswerSent name k place) ≡ rounded_reaction (AnswerSent other k place)
unfolding rounded_reaction
sent-alike name other k place e = rw e

-- a reply has the TREP of its answer and not the day
pub reply-rounded : (store : List ℕ) (r : Reaction) → reply_data store (rounded_reaction r) ≡ reply_data store r
unfolding reply_data rounded_reaction
reply-rounded store Ignored = refl
reply-rounded store CommunicationStarted = refl
reply-rounded store SessionOpened = refl
reply-rounded store (RateOffered r) = refl
reply-rounded store RateChanged = refl
reply-rounded store UploadGranted = refl
reply-rounded store (AnswerSent name k place) = rw (rounded-trep name)
reply-rounded store AnswerStopped = refl
reply-rounded store TransferExited = refl
reply-rounded store CommunicationStopped = refl
reply-rounded store (Negative sid code) = refl

phase-again : (p : Phase) → rounded_phase (rounded_phase p) ≡ rounded_phase p
phase-again Closed = refl
phase-again Started = refl
phase-again Session = refl
phase-again Granted = refl
phase-again (Sending name last) = rw (rounded-again name)

-- the next states, by the reaction
pub after-rounded : (u : UnitState) (r : Reaction) → rounded_state (state_after (rounded_state u) (rounded_reaction r)) ≡ rounded_state (state_after u r)
unfolding state_after rounded_reaction
after-rounded u Ignored = rw (phase-again u.phase)
after-rounded u CommunicationStarted = refl
after-rounded u SessionOpened = refl
after-rounded u (RateOffered r) = rw (phase-again u.phase)
after-rounded u RateChanged = rw (phase-again u.phase)
after-rounded u UploadGranted = refl
after-rounded u (AnswerSent name k place) = rw (go (is_split (data_length place)))
  where
    go : (t : Bool) → rounded_phase (cond t (Sending (rounded name) k) Granted) ≡ rounded_phase (cond t (Sending name k) Granted)
    go true = rw (rounded-again name)
    go false = refl
after-rounded u AnswerStopped = refl
after-rounded u TransferExited = refl
after-rounded u CommunicationStopped = refl
after-rounded u (Negative sid code) = rw (phase-again u.phase)

-- Reactions: only an acknowledgement reads the name that is being sent, and only lookups read its day

place-rounded : (store : List ℕ) (name : AnswerName) → lookup_place narrow (rounded name) store ≡ lookup_place narrow name store
place-rounded store name = (store-days narrow).alike (rounded name) name store (rounded-again name)

module _ (name : AnswerName) (last : SubMessage) where
  code-rounded : (place : Part) (c : AckCode) → rounded_reaction (on_code (rounded name) last place c) ≡ rounded_reaction (on_code name last place c)
  unfolding on_code
  code-rounded place c =
      both (same_code c (repeat_of last)) _ _ _ _ (sent-alike (rounded name) name last place (rounded-again name))
      (both (same_code c (acknowledge_of last)) _ _ _ _
      (both (leb (last.0 + 1) (count_of (data_length place))) _ _ _ _ (sent-alike (rounded name) name (next_of last) place (rounded-again name)) refl)
      refl)

  acknowledge-rounded : (place : Place) (d : List ℕ)
      → rounded_reaction (on_acknowledge (Sending (rounded name) last) place d) ≡ rounded_reaction (on_acknowledge (Sending name last) place d)
  unfolding on_acknowledge on_sending
  acknowledge-rounded place d =
      both (eqb (length d) 4) _ _ _ _ (both (eqb (get_or d 1 0) 0x76) _ _ _ _ (code-rounded (part_of_place place) (code (number_at 2 2 d))) refl) refl

abbrev unit_at : ℕ → ℕ → ℕ → Phase → UnitState
unit_at kind rate pending phase = record { kind = kind; rate = rate; pending = pending; phase = phase }

module _ (kind rate pending : ℕ) where
  data-rounded : (sent asked : Place) (name : AnswerName) (last : SubMessage) (d : List ℕ)
      → rounded_reaction (on_data sent asked (unit_at kind rate pending (Sending (rounded name) last)) d)
      ≡ rounded_reaction (on_data sent asked (unit_at kind rate pending (Sending name last)) d)
  unfolding on_data on_link_control on_rate_offer on_rate_change on_upload on_transfer on_exit
  data-rounded sent asked name last d =
      both (eqb (get_or d 0 0) 0x10) _ _ _ _ refl
      (both (eqb (get_or d 0 0) 0x87) _ _ _ _ refl
      (both (eqb (get_or d 0 0) 0x35) _ _ _ _ refl
      (both (eqb (get_or d 0 0) 0x36) _ _ _ _ refl
      (both (eqb (get_or d 0 0) 0x37) _ _ _ _ refl
      (both (eqb (get_or d 0 0) 0x82) _ _ _ _ refl
      (both (eqb (get_or d 0 0) 0x83) _ _ _ _ (acknowledge-rounded name last sent d) refl))))))

  reaction-at : (a : Addresses) (store : List ℕ) (phase : Phase) (b : List ℕ)
      → rounded_reaction (reaction_to a store (unit_at kind rate pending (rounded_phase phase)) b)
      ≡ rounded_reaction (reaction_to a store (unit_at kind rate pending phase) b)
  unfolding reaction_to reaction_at
  reaction-at a store Closed b = refl
  reaction-at a store Started b = refl
  reaction-at a store Session b = refl
  reaction-at a store Granted b = refl
  reaction-at a store (Sending name last) b =
      rw (place-rounded store name)
      (both (is_start b) _ _ _ _ refl
      (data-rounded (lookup_place narrow name store) (place_asked store (data_of a ends.Unit b)) name last (data_of a ends.Unit b)))

  possible-at : (store : List ℕ) (phase : Phase)
      → possible store (unit_at kind rate pending (rounded_phase phase)) ≡ possible store (unit_at kind rate pending phase)
  unfolding possible possible_at phase_possible
  possible-at store Closed = refl
  possible-at store Started = refl
  possible-at store Session = refl
  possible-at store Granted = refl
  possible-at store (Sending name last) = rw (place-rounded store name)

-- The call

module _ (a : Addresses) (store : List ℕ) (out_len : ℕ) (u : UnitState) (b : List ℕ) where
  reaction-rounded : rounded_reaction (reaction_to a store (rounded_state u) b) ≡ rounded_reaction (reaction_to a store u b)
  reaction-rounded = reaction-at u.kind u.rate u.pending a store u.phase b

  number-rounded : unit_number a store out_len (rounded_state u) b ≡ unit_number a store out_len u b
  unfolding unit_number
  number-rounded = rw (possible-at u.kind u.rate u.pending store u.phase)

  data-same : reply_data store (reaction_to a store (rounded_state u) b) ≡ reply_data store (reaction_to a store u b)
  data-same =
      sym (reply-rounded store (reaction_to a store (rounded_state u) b)) ∙ ap (reply_data store) reaction-rounded ∙ reply-rounded store (reaction_to a store u b)

  reply-same : unit_reply a store out_len (rounded_state u) b ≡ unit_reply a store out_len u b
  unfolding unit_reply
  reply-same = rw (number-rounded, data-same)

  after_same : rounded_state (state_after (rounded_state u) (reaction_to a store (rounded_state u) b)) ≡ rounded_state (state_after u (reaction_to a store u b))
  after_same =
      let v : UnitState = rounded_state u in
      let again : rounded_state v ≡ v = ap (unit_at u.kind u.rate u.pending) (phase-again u.phase) in
      sym (after-rounded v (reaction_to a store v b))
      ∙ ap (λ (w : UnitState). rounded_state (state_after w (rounded_reaction (reaction_to a store v b)))) again
      ∙ ap (λ (r : Reaction). rounded_state (state_after v r)) reaction-rounded
      ∙ after-rounded u (reaction_to a store u b)

  state-same : rounded_state (unit_state a store out_len (rounded_state u) b) ≡ rounded_state (unit_state a store out_len u b)
  unfolding unit_state
  state-same = rw number-rounded (go (unit_number a store out_len u b))
    where
      go : (n : ℕ) → rounded_state (changed_by n (state_after (rounded_state u) (reaction_to a store (rounded_state u) b)) (rounded_state u))
          ≡ rounded_state (changed_by n (state_after u (reaction_to a store u b)) u)
      go n = pick (eqb n 0)
        where
          pick : (t : Bool) → rounded_state (cond t (state_after (rounded_state u) (reaction_to a store (rounded_state u) b)) (rounded_state u))
              ≡ rounded_state (cond t (state_after u (reaction_to a store u b)) u)
          pick true = after_same
          pick false = rw (phase-again u.phase)

-- whole days
whole-state : (store : List ℕ) (u : UnitState) → WholeDay (name_sent u.phase).day → possible store u ≡ possible_before store u
unfolding possible possible_before
whole-state store u e = rw ((store-days narrow).whole_place (name_sent u.phase) store e)

whole-reaction : (a : Addresses) (store : List ℕ) (u : UnitState) (b : List ℕ) → WholeDay (name_sent u.phase).day
    → WholeDay (name_asked (data_of a ends.Unit b)).day → reaction_to a store u b ≡ reaction_before a store u b
unfolding reaction_to reaction_at reaction_before
whole-reaction a store u b e f =
    let d : List ℕ = data_of a ends.Unit b in
    rw (
      (store-days narrow).whole_place (name_sent u.phase) store e,
      (store-days narrow).whole_place (name_asked d) store f,
      service-days.whole_day (lookup_place_before narrow (name_sent u.phase) store) (lookup_place_before narrow (name_asked d) store) u d f,
    )

pub day-claims : DayClaims
day-claims =
    record { number = number-rounded; reply = reply-same; state = state-same; whole_state = whole-state; whole_reaction = whole-reaction }

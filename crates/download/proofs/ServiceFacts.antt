-- What the unit makes of the requests for an answer and its sub messages.
use Prim.Native.Nat.{ℕ, suc, ◌+◌, ◌-◌, ◌%◌, ◌<◌, ◌≤◌}
use mathlib.Core.Bool.{Bool, true, false, ◌&&◌}
use mathlib.Core.List.{List, ◌∷◌}
use mathlib.Core.Path.{◌≡◌, refl, sym, ap, ◌∙◌}
use native.Mathlib.Omega.{arith}
use native.Mathlib.Numerals.{add-one}
use lib.Dec.{eqb, ltb, leb}
use lib.ListN.{length}
use borrow.Author.Tests.{eq-eqb, ne_eqb, eqb-true, le-leb, lt-leb}
use Rattle.octets.proofs.Tests.{and_left, and_right}
use Rattle.octets.specs.Order.{unless}
use Rattle.fields.specs.BigEndian.{bytes_of, number_at}
use Rattle.octets.specs.declared.Place.{Place}
use Rattle.octets.specs.Numbers.{part_of_place}
use Rattle.frame.specs.declared.Addresses.{Addresses}
use Rattle.frame.specs.declared.End.TheVariants as ends
use Rattle.frame.specs.Frame.{closed, frame_of, is_start, judged}
use Rattle.frame.proofs.Theorems.{data-reads-back}
use Rattle.catalog.specs.Table.{known_to, is_activities}
use Rattle.catalog.specs.Name.{day_named}
use Rattle.catalog.specs.declared.AnswerName.{AnswerName}
use Rattle.split.specs.declared.SubMessage.{SubMessage}
use Rattle.split.specs.Codes.{sub, acknowledge_of}
use Rattle.split.specs.Split.{count_of}
use Rattle.store.specs.Layout.{narrow}
use Rattle.store.specs.Check.{store_number}
use Rattle.store.specs.Read.{lookup_number, lookup_place}
use Rattle.store.proofs.ReadLaws.{number-of-place}
use Rattle.services.specs.declared.Phase.{Phase}
use Rattle.services.specs.declared.Phase.TheVariants.{Closed, Started, Session, Granted, Sending}
use Rattle.services.specs.declared.UnitState.{UnitState}
use Rattle.services.specs.declared.Reaction.TheVariants.{Ignored, AnswerSent, Negative}
use Rattle.services.specs.State.{is_closed, is_granted, sendable, phase_possible, possible_at}
use Rattle.unit.specs.State.{place_sent, possible}
use Rattle.services.specs.Services.{request_name, answer_from, on_transfer, on_code, on_sending, on_acknowledge}
use Rattle.services.specs.Services.{name_asked, on_data}
use Rattle.unit.specs.Call.{place_asked, reaction_at, reaction_to, number_before, unit_number}
use Rattle.requests.specs.Sent.{transfer_request, acknowledgement, transfer_data}
use Rattle.line.proofs.Cases.{never}

-- What a possible state says

pub record Ranges (store : List ℕ) (u : UnitState) : Type 0 where
  pub kind : ltb u.kind 3 ≡ true
  pub rate : (leb 1 u.rate && leb u.rate 5) ≡ true
  pub phase : phase_possible (place_sent store u.phase) u.phase ≡ true

pub ranges : (store : List ℕ) (u : UnitState) → possible store u ≡ true → Ranges store u
unfolding possible possible_at
ranges store u h =
    let r = and_right (ltb u.kind 3) _ h in
    let p = and_right (leb 1 u.rate && leb u.rate 5) _ r in
    record { kind = and_left _ _ h; rate = and_left _ _ r; phase = and_right (leb u.pending 5) _ p }

-- an answer that is being sent is held
pub sending-held : (store : List ℕ) (name : AnswerName) (last : SubMessage) → phase_possible (lookup_place narrow name store) (Sending name last) ≡ true
    → lookup_number narrow name store ≡ 0
unfolding phase_possible sendable
sending-held store name last h =
    sym (number-of-place narrow store name (lookup_place narrow name store) refl) ∙ eqb-true _ _ (and_left (eqb (lookup_place narrow name store).number 0) _ h)

-- Reading a request back

day-back : (trep day : ℕ) → day < 0x100000000 → number_at 4 2 (0x36 ∷ trep ∷ bytes_of 4 day) ≡ day
unfolding number_at
day-back trep day h = omega arith

named : ℕ → ℕ → AnswerName
named trep day = record { trep = trep; day = day }

name_back : (name : AnswerName) → day_named name ≡ true → name.day < 0x100000000 → request_name (transfer_request name) ≡ name
unfolding request_name transfer_request day_named named number_at
name_back name d f = go (is_activities name.trep) refl
  where
    go : (b : Bool) → is_activities name.trep ≡ b → request_name (transfer_request name) ≡ name
    go true e = rw e (ap (named name.trep) (day-back name.trep name.day f))
    go false e = rw e (ap (named name.trep) (sym (eqb-true name.day 0 (rw e at d))))

code-back : (n : ℕ) → suc n < 65536 → number_at 2 2 (acknowledgement (acknowledge_of (sub n))) ≡ suc n
unfolding number_at acknowledgement
code-back n h = omega arith

-- The services

pub granted-open : (p : Phase) → is_granted p ≡ true → is_closed p ≡ false
granted-open Closed h = never (cc)
granted-open Started h = refl
granted-open Session h = refl
granted-open Granted h = refl
granted-open (Sending name last) h = refl

-- the service that a request asks for; where the answer lies that is sent, and the one that is asked for
module _ (sent asked : Place) (u : UnitState) (name : AnswerName) where
  pub request-first : on_data sent asked u (transfer_data name 1) ≡ on_transfer u.kind u.phase asked (transfer_request name)
  unfolding on_data transfer_data transfer_request
  request-first = refl

  pub request-more : (k : ℕ)
      → on_data sent asked u (transfer_data name (suc (suc k))) ≡ on_acknowledge u.phase sent (acknowledgement (acknowledge_of (sub (suc k))))
  unfolding on_data transfer_data acknowledgement
  request-more k =
      let z : suc (suc k) - 1 ≡ suc k = omega arith in
      rw (ne_eqb (suc (suc k)) 1 (λ z. omega arith), z)

-- the answer that it asks for
pub asked-first : (name : AnswerName) → day_named name ≡ true → name.day < 0x100000000 → name_asked (transfer_data name 1) ≡ name
unfolding transfer_data transfer_request
asked-first name d f = name_back name d f

-- "36 TRTP (day)": known, its length and day right; then phase (22) and data held (FA)
pub transfer-asked : (kind : ℕ) (phase : Phase) (place : Place) (name : AnswerName) → known_to kind name.trep ≡ true → day_named name ≡ true
    → name.day < 0x100000000
    → on_transfer kind phase place (transfer_request name) ≡ unless (is_granted phase) (Negative 0x36 0x22) (answer_from name (sub 1) place)
unfolding on_transfer transfer_request
transfer-asked kind phase place name k d f = go (is_activities name.trep) refl
  where
    go : (b : Bool) → is_activities name.trep ≡ b
        → on_transfer kind phase place (transfer_request name) ≡ unless (is_granted phase) (Negative 0x36 0x22) (answer_from name (sub 1) place)
    go true e = rw (name_back name d f, e, k)
    go false e = rw (name_back name d f, e, k)

-- "83 76 and a code", the one that acknowledges number n: its code is n + 1
module _ (place : Place) (name : AnswerName) (n : ℕ) (h : suc n < 65536) where
  -- n + 1 was sent last: it is sent again
  pub sent-again : on_acknowledge (Sending name (sub (suc n))) place (acknowledgement (acknowledge_of (sub n))) ≡ AnswerSent name (sub (suc n)) (part_of_place place)
  unfolding on_acknowledge on_sending on_code acknowledgement
  sent-again = rw (code-back n h, eq-eqb (suc n) (suc n) refl)

  -- n was sent last: the next one is sent, or 12 if there is none
  pub sent-next : suc n ≤ count_of (place.len - 2)
      → on_acknowledge (Sending name (sub n)) place (acknowledgement (acknowledge_of (sub n))) ≡ AnswerSent name (sub (suc n)) (part_of_place place)
  unfolding on_acknowledge on_sending on_code acknowledgement
  sent-next c =
      let next : (n + 1) % 65536 ≡ suc n = omega arith in
      rw (code-back n h, ne_eqb (suc n) n (λ z. omega arith), next, eq-eqb (suc n) (suc n) refl, add-one n, le-leb (suc n) (count_of (place.len - 2)) c)

  pub past-last : count_of (place.len - 2) ≤ n → on_acknowledge (Sending name (sub n)) place (acknowledgement (acknowledge_of (sub n))) ≡ Negative 0x83 0x12
  unfolding on_acknowledge on_sending on_code acknowledgement
  past-last c =
      rw (
        code-back n h,
        ne_eqb (suc n) n (λ z. omega arith),
        eq-eqb (suc n) ((n + 1) % 65536) (omega arith),
        add-one n,
        lt-leb (suc n) (count_of (place.len - 2)) (omega arith),
      )

-- The call

module _ (a : Addresses) (store : List ℕ) (u : UnitState) where
  -- "Unit call: 5, 11, 4 .., then frame numbers": none of them
  pub not-refused : (room : ℕ) (b : List ℕ) → store_number narrow store ≡ 0 → possible store u ≡ true → leb 260 room ≡ true → judged a ends.Unit b ≡ 0
      → unit_number a store room u b ≡ 0
  unfolding unit_number number_before
  not-refused room b s p l j = rw (s, p, l, j)

  general : (d : List ℕ) → is_start (frame_of a ends.Unit d) ≡ false
  unfolding frame_of closed
  general d = refl

  -- a frame in the general form is heard where the phase is not closed
  pub heard : (d : List ℕ) → 0 < length d → length d ≤ 255 → is_closed u.phase ≡ false
      → reaction_to a store u (frame_of a ends.Unit d) ≡ on_data (place_sent store u.phase) (place_asked store d) u d
  unfolding reaction_to reaction_at
  heard d s m o = rw (general d, o, data-reads-back a ends.Unit d s m)

  pub unheard : (d : List ℕ) → is_closed u.phase ≡ true → reaction_to a store u (frame_of a ends.Unit d) ≡ Ignored
  unfolding reaction_to reaction_at
  unheard d o = rw (general d, o)

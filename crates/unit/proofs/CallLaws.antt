-- The call: what a frame asks for, and what the call hands back, from the tests of the code.
use Prim.Native.Nat.{ℕ, ◌≤◌}
use mathlib.Core.Bool.{Bool, true, false, cond}
use mathlib.Core.List.{List, []}
use mathlib.Core.Path.{◌≡◌, refl, sym, ap, ◌∙◌}
use lib.Dec.{eqb, leb}
use lib.ListN.{length, get_or}
use borrow.Author.Tests.{eq-eqb, ne_eqb, leb-true}
use Rattle.octets.specs.Order.{unless, or_else}
use Rattle.octets.specs.Numbers.{changed_by}
use Rattle.octets.specs.Buffer.{front}
use Rattle.octets.specs.declared.Place.{Place}
use Rattle.octets.proofs.OrderLaws.{Both, unless-is, or-zero}
use Rattle.frame.specs.declared.Addresses.{Addresses}
use Rattle.frame.specs.declared.End.TheVariants as ends
use Rattle.frame.specs.Frame.{is_start, judged, data_of}
use Rattle.catalog.specs.declared.AnswerName.{AnswerName}
use Rattle.store.specs.Layout.{narrow}
use Rattle.store.specs.Read.{lookup_place, lookup_both}
use Rattle.store.specs.Read.{TwoPlaces}
use Rattle.services.specs.declared.Phase.{Phase}
use Rattle.services.specs.declared.UnitState.{UnitState}
use Rattle.services.specs.declared.Reaction.{Reaction}
use Rattle.services.specs.declared.Reaction.TheVariants.{Ignored, CommunicationStarted}
use Rattle.services.specs.State.{is_closed, name_sent, possible_at}
use Rattle.services.specs.Services.{name_asked, on_data}
use Rattle.services.specs.After.{state_after}
use Rattle.unit.specs.Call.{UnitReply}
use Rattle.unit.specs.State.{possible}
use Rattle.frame.specs.Given.{different}
use Rattle.frame.proofs.GivenLaws.{at-different}
use Rattle.unit.specs.Call.{unit_result_given, unit_out_given}
use Rattle.unit.specs.Call.{reaction_at, reaction_to, reply_data, reply_to, number_before, unit_number, unit_state, unit_reply, unit_result, unit_out}
use Rattle.unit.specs.Piece.{piece_sent}
use Rattle.unit.proofs.SentLaws.{sends-what-is}

-- the place of the answer that is being sent decides what is possible
pub possible-sent : (s : List ℕ) (name : AnswerName) (place : Place) (u : UnitState) (r : Bool) → place ≡ lookup_place narrow name s → name ≡ name_sent u.phase
    → r ≡ possible_at place u → r ≡ possible s u
unfolding possible
possible-sent s name place u r found e q = rw (← e, ← found) q

-- The returns of the reaction to a good frame; c is whether the unit is closed
module _ (a : Addresses) (sent asked : Place) (u : UnitState) (b : List ℕ) where
  pub reaction-start : get_or b 0 0 ≡ 0x81 → CommunicationStarted ≡ reaction_at a sent asked u b
  unfolding reaction_at
  reaction-start h = rw (eq-eqb (get_or b 0 0) 0x81 h)

  module _ (other : get_or b 0 0 ≡ 0x81 → ⊥) (c : Bool) (closed : c ≡ is_closed u.phase) where
    general : is_start b ≡ false
    general = ne_eqb (get_or b 0 0) 0x81 other

    pub reaction-ignored : c ≡ true → Ignored ≡ reaction_at a sent asked u b
    unfolding reaction_at
    reaction-ignored h = rw (general, ← closed, h)

    pub reaction-data : (d : List ℕ) (x : Reaction) → c ≡ false → d ≡ data_of a ends.Unit b → x ≡ on_data sent asked u d → x ≡ reaction_at a sent asked u b
    unfolding reaction_at
    reaction-data d x h e q = rw (general, ← closed, h, ← e) q

-- A reaction that a number may hold back to silence: the state stays, and nothing is replied

module _ (a : Addresses) (s : List ℕ) (u : UnitState) (x : Reaction) where
  held-state : (t : Bool) → state_after u (cond t x Ignored) ≡ cond t (state_after u x) u
  unfolding state_after
  held-state true = refl
  held-state false = refl

  held-reply : (t : Bool) → reply_to a (reply_data s (cond t x Ignored)) ≡ cond t (reply_to a (reply_data s x)) []
  unfolding reply_to reply_data
  held-reply true = refl
  held-reply false = refl

  held-piece : (t : Bool) → piece_sent s x ≡ 0 → piece_sent s (cond t x Ignored) ≡ 0
  unfolding piece_sent
  held-piece true e = e
  held-piece false e = refl

pub found-by : (s : List ℕ) (found : TwoPlaces) (sent asked : AnswerName) (phase : Phase) (d : List ℕ) → found ≡ lookup_both narrow sent asked s
    → sent ≡ name_sent phase → asked ≡ name_asked d
    → found ≡ lookup_both narrow (name_sent phase) (name_asked d) s
found-by s found sent asked phase d e p q = e ∙ rw (p, q)

-- a broken store comes first
pub broken-before : (broken : ℕ) (is_possible : Bool) (room : ℕ) → (broken ≡ 0 → ⊥) → broken ≡ number_before broken is_possible room
unfolding number_before
broken-before broken is_possible room z = rw (ne_eqb broken 0 z)

-- The call on the data d of the frame b; found is what the store gave for the answer that is being sent and the one asked for
module _ (a : Addresses) (s : List ℕ) (u : UnitState) (b d : List ℕ) (found : TwoPlaces)
    (given : found ≡ lookup_both narrow (name_sent u.phase) (name_asked d) s) where
  first_found : found.first ≡ lookup_place narrow (name_sent u.phase) s
  first_found = ap (λ (p : TwoPlaces). p.first) given

  is-possible : possible_at found.first u ≡ possible s u
  is-possible = possible-sent s (name_sent u.phase) found.first u (possible_at found.first u) first_found refl refl

  -- n is the number before the frame's
  module _ (n room : ℕ) (number : n ≡ number_before found.number (possible_at found.first u) room) where
    numbered : or_else n (judged a ends.Unit b) ≡ unit_number a s room u b
    unfolding unit_number
    numbered = rw (number, is-possible, given)

    refused-number : (n ≡ 0 → ⊥) → unit_number a s room u b ≡ n
    refused-number z = sym numbered ∙ rw (ne_eqb n 0 z)

    pub result-refused : (n ≡ 0 → ⊥) → ◌≡◌ {A = UnitReply} (record { number = n; state = u; len = 0 }) (unit_result a s room u b)
    unfolding unit_result unit_state unit_reply
    result-refused z = rw (refused-number z, ne_eqb n 0 z)

    module _ (zero : n ≡ 0) where
      accepted : Both (found.number ≡ 0) (◌≡◌ {A = ℕ} (unless (possible_at found.first u) 11 (unless (leb 260 room) 4 0)) 0)
      unfolding number_before
      accepted = or-zero found.number _ (sym number ∙ zero)

      accepted-possible : Both (possible_at found.first u ≡ true) (◌≡◌ {A = ℕ} (unless (leb 260 room) 4 0) 0)
      accepted-possible = unless-is (possible_at found.first u) 11 _ 0 refl accepted.rest

      pub accepted-room : 260 ≤ room
      accepted-room = leb-true _ _ (unless-is (leb 260 room) 4 0 0 refl accepted-possible.rest).first

      -- the reaction x; k is the number of the frame
      module _ (k : ℕ) (x : Reaction) (reacts : x ≡ changed_by k (reaction_at a found.first found.second u b) Ignored)
          (data_is : d ≡ data_of a ends.Unit b) where
        reaction-is : x ≡ changed_by k (reaction_to a s u b) Ignored
        unfolding reaction_to
        reaction-is = rw (reacts, given, data_is)

        pub accepted-piece : piece_sent s x ≡ 0
        accepted-piece =
            rw reaction-is
            (held-piece a s u (reaction_to a s u b) (eqb k 0)
            (sends-what-is s a u b (sym is-possible ∙ accepted-possible.first)))

        module _ (judging : k ≡ judged a ends.Unit b) where
          accepted-number : unit_number a s room u b ≡ k
          accepted-number = sym numbered ∙ rw (zero, judging)

          replied : reply_to a (reply_data s x) ≡ unit_reply a s room u b
          unfolding unit_reply
          replied = rw (reaction-is, accepted-number, held-reply a s u (reaction_to a s u b) (eqb k 0))

          pub result-done : (v : UnitState) (l : ℕ) → v ≡ state_after u x → l ≡ length (reply_to a (reply_data s x))
              → ◌≡◌ {A = UnitReply} (record { number = k; state = v; len = l }) (unit_result a s room u b)
          unfolding unit_result unit_state
          result-done v l e f =
              rw (f, replied, e, reaction-is, accepted-number, held-state a s u (reaction_to a s u b) (eqb k 0))

  -- the buffer o after it
  module _ (n : ℕ) (o : List ℕ) (number : n ≡ number_before found.number (possible_at found.first u) (length o)) where
    pub out-refused : (n ≡ 0 → ⊥) → o ≡ unit_out a s u b o
    unfolding unit_out unit_reply front
    out-refused z = rw (refused-number n (length o) number z, ne_eqb n 0 z)

    pub out-done : (k : ℕ) (x : Reaction) (o' : List ℕ) → n ≡ 0 → x ≡ changed_by k (reaction_at a found.first found.second u b) Ignored
        → d ≡ data_of a ends.Unit b → k ≡ judged a ends.Unit b
        → o' ≡ front (reply_to a (reply_data s x)) o → o' ≡ unit_out a s u b o
    unfolding unit_out
    out-done k x o' zero reacts data_is judging e = e ∙ ap (λ (r : List ℕ). front r o) (replied n (length o) number zero k x reacts data_is judging)

  -- The call at two different addresses: what it hands back at each return, and the buffer o' then

  module _ (apart : different a ≡ true) (o : List ℕ) where
    result-given : (r : UnitReply) → r ≡ unit_result a s (length o) u b → r ≡ unit_result_given a s (length o) u b
    unfolding unit_result_given
    result-given r e = e ∙ sym (at-different a _ _ apart)

    out-given : (o' : List ℕ) → o' ≡ unit_out a s u b o → o' ≡ unit_out_given a s u b o
    unfolding unit_out_given
    out-given o' e = e ∙ sym (at-different a _ _ apart)

    -- refused by n, the number of the store, 11 or 4
    module _ (n : ℕ) (number : n ≡ number_before found.number (possible_at found.first u) (length o)) (z : n ≡ 0 → ⊥) where
      pub before-result : ◌≡◌ {A = UnitReply} (record { number = n; state = u; len = 0 }) (unit_result_given a s (length o) u b)
      before-result = result-given _ (result-refused n (length o) number z)

      pub before-out : o ≡ unit_out_given a s u b o
      before-out = out-given o (out-refused n o number z)

    -- not refused by one of them; k is the number of the frame, whose data is d
    module _ (number : 0 ≡ number_before found.number (possible_at found.first u) (length o)) (data_is : d ≡ data_of a ends.Unit b) where
      module _ (k : ℕ) (judging : k ≡ judged a ends.Unit b) (z : k ≡ 0 → ⊥) where
        silent : Ignored ≡ changed_by k (reaction_at a found.first found.second u b) Ignored
        silent = rw (ne_eqb k 0 z)

        pub frame-result : ◌≡◌ {A = UnitReply} (record { number = k; state = u; len = 0 }) (unit_result_given a s (length o) u b)
        unfolding state_after reply_to reply_data
        frame-result = result-given _ (result-done 0 (length o) number refl k Ignored silent data_is judging u 0 refl refl)

        pub frame-out : o ≡ unit_out_given a s u b o
        unfolding reply_to reply_data front
        frame-out = out-given o (out-done 0 o number k Ignored o refl silent data_is judging refl)

      module _ (judging : 0 ≡ judged a ends.Unit b) (x : Reaction) (reacts : x ≡ reaction_at a found.first found.second u b) where
        pub done-piece : piece_sent s x ≡ 0
        done-piece = accepted-piece 0 (length o) number refl 0 x reacts data_is

        pub done-result : (v : UnitState) (l : ℕ) → v ≡ state_after u x → l ≡ length (reply_to a (reply_data s x))
            → ◌≡◌ {A = UnitReply} (record { number = 0; state = v; len = l }) (unit_result_given a s (length o) u b)
        done-result v l e f = result-given _ (result-done 0 (length o) number refl 0 x reacts data_is judging v l e f)

        pub done-out : (o' : List ℕ) → o' ≡ front (reply_to a (reply_data s x)) o → o' ≡ unit_out_given a s u b o
        done-out o' e = out-given o' (out-done 0 o number 0 x o' refl reacts data_is judging e)

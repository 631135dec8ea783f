-- What the unit does at the strings of one transfer.
use Prim.Native.Nat.{ℕ, zero, suc, ◌-◌, ◌≤◌}
use mathlib.Core.Bool.{Bool, true, false, cond, ◌&&◌}
use mathlib.Core.List.{List}
use mathlib.Core.Path.{◌≡◌, refl, sym, ap, ◌∙◌}
use native.Mathlib.Omega.{arith}
use lib.Dec.{eqb, leb}
use lib.ListN.{length, drop, length-drop}
use borrow.Author.Tests.{eqb-true, eqb-false, le-leb, lt-ltb, not-true}
use Rattle.octets.proofs.Tests.{and_right}
use Rattle.frame.specs.declared.Addresses.{Addresses}
use Rattle.frame.specs.declared.End.TheVariants as ends
use Rattle.frame.specs.Frame.{judged}
use Rattle.catalog.specs.Name.{name_number}
use Rattle.catalog.specs.declared.AnswerName.{AnswerName}
use Rattle.catalog.proofs.NameLaws.{allowed}
use Rattle.split.specs.Codes.{sub, acknowledge_of}
use Rattle.split.specs.Split.{is_split, count_of, sub_field, sub_frame}
use Rattle.store.specs.Layout.{narrow}
use Rattle.store.specs.Check.{store_number}
use Rattle.store.specs.Read.{lookup_number, lookup_place, lookup_part}
use Rattle.octets.proofs.OrderLaws.{or-zero}
use Rattle.services.specs.declared.Phase.{Phase}
use Rattle.services.specs.declared.Phase.TheVariants.{Closed, Started, Session, Granted, Sending}
use Rattle.services.specs.declared.UnitState.{UnitState}
use Rattle.services.specs.declared.Reaction.{Reaction}
use Rattle.services.specs.declared.Reaction.TheVariants.{AnswerSent}
use Rattle.services.specs.State.{is_granted, sendable, phase_possible, possible_at}
use Rattle.octets.specs.Numbers.{part_of_place}
use Rattle.unit.specs.State.{place_sent, possible}
use Rattle.services.specs.Services.{answer_from, on_acknowledge}
use Rattle.services.specs.Services.{on_data}
use Rattle.services.specs.After.{with_phase, state_after}
use Rattle.unit.specs.Call.{place_asked, reaction_to, reply_data, reply_to, number_before, unit_number, unit_state, unit_reply, unit_result}
use Rattle.progress.specs.declared.Request.TheVariants as requests
use Rattle.requests.specs.Sent.{acknowledgement, transfer_data, frame_sent}
use Rattle.tool.specs.Call.{request_number, begin_number}
use Rattle.line.specs.Line.{Result, silent, sends, unit_end}
use Rattle.line.proofs.Cases.{by_test}
use Rattle.download.specs.CableEnds.{UnitGiven, strings, refused}
use Rattle.download.specs.Demand.{SendingUnchanged, Premises, StorePremise, answer_data, transfer}
use Rattle.download.proofs.AtDifferent.{unit_call}
use Rattle.download.proofs.StoreFacts.{Held, held_place, held}
use Rattle.download.proofs.FrameFacts.{strings-frame, asked-some, asked-most, asked-good, splits, frames-most}
use Rattle.download.proofs.ServiceFacts.{ranges, sending-held, granted-open, request-first, request-more, asked-first, transfer-asked, sent-again}
use Rattle.download.proofs.ServiceFacts.{sent-next, not-refused, heard}

-- A call

module _ (a : Addresses) (c : UnitGiven) (u : UnitState) where
  -- not refused: what follows from the reaction
  called : (b : List ℕ) (r : Reaction) → unit_number a c.store c.reply u b ≡ 0 → reaction_to a c.store u b ≡ r
      → unit_call a c u b ≡ record { next = state_after u r; out = strings (reply_to a (reply_data c.store r)) }
  unfolding unit_result unit_state unit_reply
  called b r z e = rw (z, e)

  -- refused with 4, or by the frame rules
  pub called-short : (b : List ℕ) → store_number narrow c.store ≡ 0 → possible c.store u ≡ true → leb 260 c.reply ≡ false → unit_call a c u b ≡ silent u
  unfolding unit_result unit_state unit_reply unit_number number_before
  called-short b s p l = rw (s, p, l)

  called-refused : (b : List ℕ) → store_number narrow c.store ≡ 0 → possible c.store u ≡ true → leb 260 c.reply ≡ true
      → eqb (judged a ends.Unit b) 0 ≡ false → unit_call a c u b ≡ silent u
  unfolding unit_result unit_state unit_reply unit_number number_before
  called-refused b s p l j = rw (s, p, l, j)

  -- sub message k of an answer that the store holds
  sent : (name : AnswerName) (k : ℕ) (answer : List ℕ) → Held c.store name answer
      → ◌≡◌ {A = Result (List ℕ) UnitState}
      (record {
        next = state_after u (AnswerSent name (sub k) (part_of_place (lookup_place narrow name c.store)));
        out = strings (reply_to a (reply_data c.store (AnswerSent name (sub k) (part_of_place (lookup_place narrow name c.store)))));
      })
      (sends (with_phase u (cond (is_split (length (drop 2 answer))) (Sending name (sub k)) Granted)) (sub_frame a name.trep k (drop 2 answer)))
  unfolding state_after reply_data reply_to sub_field sub_frame
  sent name k answer h =
      let n : (lookup_place narrow name c.store).len - 2 ≡ length (drop 2 answer) = rw h.len (sym (length-drop 2 answer)) in
      rw (h.part, n, strings-frame a ends.Tool (sub_field name.trep k (drop 2 answer)))

-- The unit's state through the transfer

-- what is sent stays possible where it is unchanged
sending-possible : (before now : List ℕ) (p : Phase) → SendingUnchanged p before now → phase_possible (place_sent before p) p ≡ true
    → phase_possible (place_sent now p) p ≡ true
unfolding phase_possible sendable
sending-possible before now Closed s h = refl
sending-possible before now Started s h = refl
sending-possible before now Session s h = refl
sending-possible before now Granted s h = refl
sending-possible before now (Sending name last) s h =
    let b = held_place before name (sending-held before name last h) in
    let n = held now name (lookup_part narrow name before) s in
    let t : (is_split ((lookup_place narrow name before).len - 2) &&
    (leb 1 last.0 && leb last.0 (count_of ((lookup_place narrow name before).len - 2))))
    ≡ true = and_right (eqb (lookup_place narrow name before).number 0) _ h in
    rw (n.number, n.len) (rw b.len at t)

-- and it is unchanged in the same store
sending-same : (store : List ℕ) (p : Phase) → phase_possible (place_sent store p) p ≡ true → SendingUnchanged p store store
unfolding phase_possible
sending-same store Closed h = tt
sending-same store Started h = tt
sending-same store Session h = tt
sending-same store Granted h = tt
sending-same store (Sending name last) h = record { held = sending-held store name last h; bytes = refl }

module _ (g : Premises) where
  -- the unit whose last number sent is n, 0 before it answered this transfer
  abbrev pub unit_after : ℕ → UnitState
  unit_after zero = g.unit
  unit_after (suc k) = with_phase g.unit (cond (is_split (length (answer_data g))) (Sending g.name (sub (suc k))) Granted)

  -- "12" allows the name
  pub name-allowed : name_number g.name ≡ 0
  unfolding begin_number request_number
  name-allowed = (or-zero (name_number g.name) _ g.accepted).first

  pub granted-after : (n : ℕ) → is_granted (unit_after n).phase ≡ true
  granted-after zero = g.granted
  granted-after (suc k) = go (is_split (length (answer_data g)))
    where
      go : (b : Bool) → is_granted (cond b (Sending g.name (sub (suc k))) Granted) ≡ true
      go true = refl
      go false = refl

  pub kind-after : (n : ℕ) → (unit_after n).kind ≡ g.unit.kind
  kind-after zero = refl
  kind-after (suc k) = refl

  pub rate-after : (n : ℕ) → (unit_after n).rate ≡ g.unit.rate
  rate-after zero = refl
  rate-after (suc k) = refl

  phase-after : (n k : ℕ) → with_phase (unit_after n) (cond (is_split (length (answer_data g))) (Sending g.name (sub (suc k))) Granted) ≡ unit_after (suc k)
  phase-after zero k = refl
  phase-after (suc n) k = refl

  module _ (s : List ℕ) where
    sent-possible : (k : ℕ) → Held s g.name g.answer → suc k ≤ count_of (length (answer_data g)) → (b : Bool) → is_split (length (answer_data g)) ≡ b
        → phase_possible (place_sent s (cond b (Sending g.name (sub (suc k))) Granted)) (cond b (Sending g.name (sub (suc k))) Granted) ≡ true
    unfolding phase_possible sendable
    sent-possible k t h false e = refl
    sent-possible k t h true e =
        let n : (lookup_place narrow g.name s).len - 2 ≡ length (answer_data g) = rw t.len (sym (length-drop 2 g.answer)) in
        rw (t.number, n, e, le-leb 1 (suc k) (omega arith), le-leb (suc k) (count_of (length (answer_data g))) h)

    possible-after : (n : ℕ) → StorePremise g (unit_after n) s → n ≤ count_of (length (answer_data g)) → possible s (unit_after n) ≡ true
    unfolding possible possible_at
    possible-after zero o h =
        rw (sending-possible g.store s g.unit.phase o.sending (ranges g.store g.unit g.possible).phase)
        (rw (ranges g.store g.unit g.possible).phase at g.possible)
    possible-after (suc k) o h =
        rw ((ranges g.store g.unit g.possible).kind, (ranges g.store g.unit g.possible).rate)
        (sent-possible k (held s g.name g.answer o.this) h (is_split (length (answer_data g))) refl)

  module _ (c : UnitGiven) where
    module _ (a : Addresses) (n : ℕ) (o : StorePremise g (unit_after n) c.store) (h : n ≤ count_of (length (answer_data g))) where
      whole : store_number narrow c.store ≡ 0
      unfolding lookup_number
      whole = (or-zero (store_number narrow c.store) _ o.this.held).first

      -- without room for a reply nothing changes
      pub lacks-room : (b : List ℕ) → leb 260 c.reply ≡ false → unit_call a c (unit_after n) b ≡ silent (unit_after n)
      lacks-room b l = called-short a c (unit_after n) b whole (possible-after c.store n o h) l

      -- nor at a string that the frame rules refuse
      pub refuses : (b : List ℕ) → refused a unit_end b ≡ true → unit_call a c (unit_after n) b ≡ silent (unit_after n)
      refuses b r =
          by_test (leb 260 c.reply) (λ l. called-refused a c (unit_after n) b whole (possible-after c.store n o h) l (not-true _ r)) (λ l. lacks-room b l)

      -- a request at which the answer is sent
      asked : (k : ℕ) → leb 260 c.reply ≡ true
          → on_data (place_sent c.store (unit_after n).phase) (place_asked c.store (transfer_data g.name (suc k))) (unit_after n)
          (transfer_data g.name (suc k)) ≡ AnswerSent g.name (sub (suc k)) (part_of_place (lookup_place narrow g.name c.store))
          → unit_call a c (unit_after n) (frame_sent a requests.Transfer g.name (suc k)) ≡ sends (unit_after (suc k)) ((transfer a g).frame (suc k))
      unfolding frame_sent
      asked k l e =
          called a c (unit_after n) _ _
          (not-refused a c.store (unit_after n) c.reply _ whole (possible-after c.store n o h) l (asked-good a g.name (suc k)))
          (heard a c.store (unit_after n) (transfer_data g.name (suc k)) (asked-some g.name (suc k)) (asked-most g.name (suc k))
          (granted-open (unit_after n).phase (granted-after n)) ∙ e)
          ∙ sent a c (unit_after n) g.name (suc k) g.answer (held c.store g.name g.answer o.this)
          ∙ ap (λ (u : UnitState). sends u ((transfer a g).frame (suc k))) (phase-after n k)

    -- asked for the number last sent or the next one, the unit sends that frame
    pub answers : (a : Addresses) (n k : ℕ) → StorePremise g (unit_after n) c.store → leb 260 c.reply ≡ true → n ≤ suc k → k ≤ n
        → suc k ≤ count_of (length (answer_data g))
        → unit_call a c (unit_after n) (frame_sent a requests.Transfer g.name (suc k)) ≡ sends (unit_after (suc k)) ((transfer a g).frame (suc k))
    unfolding answer_from
    answers a n zero o l x y h =
        let t = held c.store g.name g.answer o.this in
        asked a n o (omega arith) zero l
        (request-first _ _ (unit_after n) g.name
        ∙ transfer-asked (unit_after n).kind (unit_after n).phase _ g.name (rw (kind-after n) g.known) (allowed g.name name-allowed).1 g.four_bytes
        ∙ rw (asked-first g.name (allowed g.name name-allowed).1 g.four_bytes, granted-after n, t.number))
    answers a zero (suc k) o l x y h = absurd (omega arith)
    answers a (suc n) (suc k) o l x y h = asked a (suc n) o (omega arith) (suc k) l (request-more _ _ (unit_after (suc n)) g.name k ∙ again)
      where
        t : Held c.store g.name g.answer
        t = held c.store g.name g.answer o.this

        len : (lookup_place narrow g.name c.store).len - 2 ≡ length (answer_data g)
        len = rw t.len (sym (length-drop 2 g.answer))

        is-split : is_split (length (answer_data g)) ≡ true
        is-split = lt-ltb 252 (length (answer_data g)) (splits g (omega arith))

        again : on_acknowledge (unit_after (suc n)).phase (place_sent c.store (unit_after (suc n)).phase)
            (acknowledgement (acknowledge_of (sub (suc k)))) ≡ AnswerSent g.name (sub (suc (suc k))) (part_of_place (lookup_place narrow g.name c.store))
        again =
            rw is-split
            (by_test (eqb (suc n) (suc (suc k)))
            (λ e. rw (eqb-true (suc n) (suc (suc k)) e) (sent-again (lookup_place narrow g.name c.store) g.name (suc k) (omega (arith, frames-most g))))
            (λ e.
            let z : n ≡ k = omega (arith, eqb-false (suc n) (suc (suc k)) e) in
            rw z (sent-next (lookup_place narrow g.name c.store) g.name (suc k) (omega (arith, frames-most g)) (rw len h))))

  -- with the store of the begin it stays possible
  this-store : (n : ℕ) → StorePremise g (unit_after n) g.store
  this-store zero = record { this = g.holds; sending = sending-same g.store g.unit.phase (ranges g.store g.unit g.possible).phase }
  this-store (suc k) = record { this = g.holds; sending = go (is_split (length (answer_data g))) }
    where
      go : (b : Bool) → SendingUnchanged (cond b (Sending g.name (sub (suc k))) Granted) g.store g.store
      go true = record { held = g.holds.held; bytes = refl }
      go false = tt

  pub possible-before : (n : ℕ) → n ≤ count_of (length (answer_data g)) → possible g.store (unit_after n) ≡ true
  possible-before n h = possible-after g.store n (this-store n) h

-- The strings of one transfer: the answer's frames, and the requests for them.
use Prim.Native.Nat.{ℕ, zero, suc, ◌+◌, ◌-◌, ◌*◌, ◌/◌, ◌<◌, ◌≤◌}
use mathlib.Core.Bool.{Bool, true, false, cond}
use mathlib.Core.List.{List, [], ◌∷◌}
use mathlib.Core.Path.{◌≡◌, refl, sym, ap, ◌∙◌}
use native.Mathlib.Omega.{arith}
use native.Mathlib.Numerals.{add-one}
use lib.Dec.{eqb, ltb}
use lib.ListN.{length, take, drop}
use lib.Seq.{take-add, take_all, length-take-le}
use borrow.Author.Tests.{ltb-true, ltb-false, eqb-true, eqb-false}
use Rattle.octets.proofs.BufferLaws as buffers
use Rattle.octets.specs.Buffer.{same_bytes}
use Rattle.fields.specs.BigEndian.{bytes_of, number_at}
use Rattle.frame.specs.declared.Addresses.{Addresses}
use Rattle.frame.specs.declared.End.{End}
use Rattle.frame.specs.declared.End.TheVariants as ends
use Rattle.frame.specs.Frame.{closed, frame_of, judged, data_of}
use Rattle.frame.proofs.Theorems.{write-then-check}
use Rattle.catalog.specs.Table.{is_activities}
use Rattle.catalog.specs.declared.AnswerName.{AnswerName}
use Rattle.split.specs.Codes.{sub, acknowledge_of}
use Rattle.split.specs.Split.{count_of, carries}
use Rattle.split.proofs.SplitLaws.{carries-split}
use Rattle.split.proofs.Theorems.{sub-good, sub-reads-back, count-one, count-split, count-some, count_most_lem, number-reads-back}
use Rattle.progress.specs.declared.Request.TheVariants as requests
use Rattle.requests.specs.Sent.{transfer_request, acknowledgement, transfer_data, frame_sent}
use Rattle.line.specs.Line.{tool_end}
use Rattle.line.proofs.Cases.{by_test, never}
use Rattle.download.specs.CableEnds.{strings, refused}
use Rattle.download.specs.Demand.{Premises, answer_data, data_up_to, held_with, transfer}
use Rattle.download.proofs.StoreFacts.{held}

-- a frame is one string
pub strings-frame : (a : Addresses) (end : End) (d : List ℕ) → strings (frame_of a end d) ≡ frame_of a end d ∷ []
unfolding frame_of closed
strings-frame a end d = refl

-- Requests

-- the data of a request: 2, 4 or 6 bytes
pub asked-some : (name : AnswerName) (e : ℕ) → 0 < length (transfer_data name e)
unfolding transfer_data transfer_request acknowledgement
asked-some name e = go (eqb e 1)
  where
    go : (b : Bool) → 0 < length (cond b (transfer_request name) (acknowledgement (acknowledge_of (sub (e - 1)))))
    go true = omega arith
    go false = omega arith

pub asked-most : (name : AnswerName) (e : ℕ) → length (transfer_data name e) ≤ 255
unfolding transfer_data transfer_request acknowledgement
asked-most name e = go (eqb e 1) (is_activities name.trep)
  where
    go : (b c : Bool) → length (cond b (0x36 ∷ name.trep ∷ cond c (bytes_of 4 name.day) []) (acknowledgement (acknowledge_of (sub (e - 1))))) ≤ 255
    go true true = omega arith
    go true false = omega arith
    go false c = omega arith

-- a request is good at the unit
module _ (a : Addresses) (name : AnswerName) (e : ℕ) where
  pub asked-good : judged a ends.Unit (frame_sent a requests.Transfer name e) ≡ 0
  unfolding frame_sent
  asked-good = write-then-check a ends.Unit (transfer_data name e) (asked-some name e) (asked-most name e)

  pub strings-asked : strings (frame_sent a requests.Transfer name e) ≡ frame_sent a requests.Transfer name e ∷ []
  unfolding frame_sent
  strings-asked = strings-frame a ends.Unit (transfer_data name e)

-- The answer and its frames
module _ (g : Premises) where
  pub shape : g.answer ≡ 0x76 ∷ g.name.trep ∷ answer_data g
  shape = (held g.store g.name g.answer g.holds).shape

  pub long : length g.answer ≡ length (answer_data g) + 2
  long = ap length shape ∙ (omega arith)

  pub data-most : length (answer_data g) ≤ 59998
  data-most = omega (arith, (held g.store g.name g.answer g.holds).most, long)

  pub fits : length (answer_data g) + 2 ≤ length g.room
  fits = omega (arith, g.suffices, long)

  -- q is 1 or, of a split answer, the data's length by 251 plus 1
  pub splits : 2 ≤ count_of (length (answer_data g)) → 252 < length (answer_data g)
  splits h =
      by_test (ltb 252 (length (answer_data g))) (λ e. ltb-true _ _ e) (λ e. absurd (omega (arith, count-one (length (answer_data g)) (ltb-false _ _ e))))

  -- every answer has a frame, and at most 240
  pub some-frame : 1 ≤ count_of (length (answer_data g))
  some-frame = count-some (length (answer_data g))

  pub frames-most : count_of (length (answer_data g)) ≤ 240
  frames-most = count_most_lem (length (answer_data g)) data-most

  -- Held bytes

  data_is : 252 < length (answer_data g) → (p : ℕ) → data_up_to g p ≡ take (p * 251) (answer_data g)
  data_is h zero = refl
  data_is h (suc p) =
      let z : suc p - 1 ≡ p = omega arith in
      let w : suc p * 251 ≡ p * 251 + 251 = omega arith in
      rw (data_is h p, carries-split (suc p) (answer_data g) h, z, w) (sym (take-add (p * 251) 251 (answer_data g)))

  -- with p frames taken and more to come
  pub held-length : (p : ℕ) → suc (suc p) ≤ count_of (length (answer_data g)) → length (held_with g (suc p)) ≡ 2 + 251 * suc p
  held-length p h =
      let s = splits (omega arith) in
      let d : length (data_up_to g (suc p)) ≡ suc p * 251 =
      ap length (data_is s (suc p)) ∙ length-take-le (suc p * 251) (answer_data g) (omega (arith, count-split (length (answer_data g)) s)) in
      omega arith

  -- with all of them
  pub held_all : held_with g (count_of (length (answer_data g))) ≡ g.answer
  unfolding carries
  held_all =
      by_test (ltb 252 (length (answer_data g)))
      (λ e.
      let s = ltb-true _ _ e in
      let c = count-split (length (answer_data g)) s ∙ add-one (length (answer_data g) / 251) in
      let d = data_is s (suc (length (answer_data g) / 251)) ∙ take_all (suc (length (answer_data g) / 251) * 251) (answer_data g) (omega arith) in
      ap (held_with g) c ∙ ap (λ (l : List ℕ). 0x76 ∷ g.name.trep ∷ l) d ∙ sym shape)
      (λ e.
      ap (held_with g) (count-one (length (answer_data g)) (ltb-false _ _ e))
      ∙ ap (λ (b : Bool). 0x76 ∷ g.name.trep ∷ cond b (take 251 (drop ((1 - 1) * 251) (answer_data g))) (answer_data g)) e
      ∙ sym shape)

  -- it is the front of the answer
  front-some : (p : ℕ) → p < count_of (length (answer_data g)) → held_with g p ≡ take (length (held_with g p)) g.answer
  front-some zero h = refl
  front-some (suc p) h =
      let s = splits (omega arith) in
      let d = data_is s (suc p) in
      let n : length (data_up_to g (suc p)) ≡ suc p * 251 = omega (arith, held-length p h) in
      rw (shape, n) (ap (λ (l : List ℕ). 0x76 ∷ g.name.trep ∷ l) d)

  pub held-front : (p : ℕ) → p ≤ count_of (length (answer_data g)) → held_with g p ≡ take (length (held_with g p)) g.answer
  held-front p h =
      by_test (eqb p (count_of (length (answer_data g))))
      (λ e.
      let a : held_with g p ≡ g.answer = ap (held_with g) (eqb-true p (count_of (length (answer_data g))) e) ∙ held_all in
      rw a (sym (take_all (length g.answer) g.answer (omega arith))))
      (λ e. front-some p (omega (arith, eqb-false p (count_of (length (answer_data g))) e)))

  -- what is held is never longer than the answer
  pub held-within : (p : ℕ) → p < count_of (length (answer_data g)) → length (held_with g p) ≤ length g.answer
  held-within zero h = omega arith
  held-within (suc p) h = omega (arith, held-length p h, long, count-split (length (answer_data g)) (splits (omega arith)))

  -- Tests

  module _ (a : Addresses) where
    pub frame-intact : (k : ℕ) → refused a tool_end ((transfer a g).frame k) ≡ false
    frame-intact k = rw (sub-good a g.name.trep k (answer_data g))

    -- the number of a sub message reads back from its frame
    number_is : 252 < length (answer_data g) → (k : ℕ) → k < 65536 → number_at 2 2 (data_of a ends.Tool ((transfer a g).frame k)) ≡ k
    number_is h k b = rw (sub-reads-back a g.name.trep k (answer_data g)) (number-reads-back g.name.trep (answer_data g) h k b)

    pub same-itself : (k : ℕ) → same_bytes ((transfer a g).frame k) ((transfer a g).frame k) ≡ true
    same-itself k = buffers.same_self ((transfer a g).frame k)

    pub differs : (x y : List ℕ) → (x ≡ y → ⊥) → same_bytes x y ≡ false
    differs x y h = by_test (same_bytes x y) (λ e. absurd (h (buffers.same-is x y e))) (λ e. e)

    pub same-later : (k e : ℕ) → suc k < e → e ≤ (transfer a g).q → same_bytes ((transfer a g).frame (suc k)) ((transfer a g).frame e) ≡ false
    same-later k e l h =
        differs ((transfer a g).frame (suc k)) ((transfer a g).frame e) (λ z.
        let s = splits (omega arith) in
        let n = frames-most in
        let w : suc k ≡ e =
        sym (number_is s (suc k) (omega arith)) ∙ ap (λ (x : List ℕ). number_at 2 2 (data_of a ends.Tool x)) z ∙ number_is s e (omega arith) in
        omega arith)

    pub same-refused : (x : List ℕ) (k : ℕ) → refused a tool_end x ≡ true → same_bytes x ((transfer a g).frame k) ≡ false
    same-refused x k r =
        differs x ((transfer a g).frame k) (λ z.
        let w : true ≡ false = sym r ∙ ap (refused a tool_end) z ∙ frame-intact k in
        never (cc))

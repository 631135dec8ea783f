-- The services, from the tests of the code: requests that are one fixed byte string, transfer data, codes, the SID.
use Prim.Native.Nat.{ℕ, ◌+◌, ◌<◌, ◌≤◌}
use mathlib.Core.Bool.{Bool, true, false, not}
use mathlib.Core.List.{List, [], ◌∷◌}
use mathlib.Core.Path.{◌≡◌, refl, sym, ap, ◌∙◌}
use native.Mathlib.Omega.{arith}
use lib.Dec.{eqb}
use lib.ListN.{length, get_or}
use borrow.Author.Tests.{le-leb, lt-leb, eq-eqb, ne_eqb}
use Rattle.octets.specs.Buffer.{same_bytes}
use Rattle.fields.specs.BigEndian.{number_of, number_at}
use Rattle.octets.specs.declared.Place.{Place}
use Rattle.octets.specs.declared.Part.{Part}
use Rattle.octets.proofs.Tests.{flag-nt, flag-nf}
use Rattle.fields.proofs.NumberLaws.{read-two}
use Rattle.catalog.specs.Table.{known_to, is_activities}
use Rattle.catalog.specs.Name.{no_answer}
use Rattle.catalog.specs.declared.AnswerName.{AnswerName}
use Rattle.split.specs.Split.{count_of}
use Rattle.split.specs.Codes.{sub, code, next_of, acknowledge_of, repeat_of, stop_code}
use Rattle.split.specs.declared.SubMessage.{SubMessage}
use Rattle.split.specs.declared.AckCode.{AckCode}
use Rattle.services.specs.declared.Phase.{Phase}
use Rattle.services.specs.declared.Reaction.{Reaction}
use Rattle.services.specs.declared.Reaction.TheVariants.{AnswerSent, AnswerStopped, Negative}
use Rattle.services.specs.State.{is_granted, data_length}
use Rattle.services.specs.Services.{request_length, request_name, name_asked, answer_from, on_transfer, send_next, on_code, on_sending}

-- A request that is its SID alone: the comparison with the fixed string is that of the length
alone : (sid : ℕ) (d : List ℕ) → get_or d 0 0 ≡ sid → same_bytes d (sid ∷ []) ≡ eqb (length d) 1
alone sid [] e = refl
alone sid (x ∷ []) e = rw (eq-eqb x sid e)
alone sid (x ∷ y ∷ d) e = rw (eq-eqb x sid e, ne_eqb (length (x ∷ y ∷ d)) 1 (omega arith))

-- and so it is for the session request, whose second byte is its sub function
pair : (d : List ℕ) → get_or d 0 0 ≡ 0x10 → get_or d 1 0 ≡ 0x81 → same_bytes d (0x10 ∷ 0x81 ∷ []) ≡ eqb (length d) 2
pair [] e f = refl
pair (x ∷ []) e f = absurd (omega arith)
pair (x ∷ y ∷ []) e f = rw (eq-eqb x 0x10 e, eq-eqb y 0x81 f)
pair (x ∷ y ∷ z ∷ d) e f = rw (eq-eqb x 0x10 e, eq-eqb y 0x81 f, ne_eqb (length (x ∷ y ∷ z ∷ d)) 2 (omega arith))

module _ (d : List ℕ) (r : Bool) where
  pub alone-t : (sid : ℕ) → get_or d 0 0 ≡ sid → r ≡ same_bytes d (sid ∷ []) → not r ≡ false → eqb (length d) 1 ≡ true
  alone-t sid e q t = sym (alone sid d e) ∙ flag-nt q t

  pub alone-f : (sid : ℕ) → get_or d 0 0 ≡ sid → r ≡ same_bytes d (sid ∷ []) → not r ≡ true → eqb (length d) 1 ≡ false
  alone-f sid e q t = sym (alone sid d e) ∙ flag-nf q t

  pub pair-t : get_or d 0 0 ≡ 0x10 → get_or d 1 0 ≡ 0x81 → r ≡ same_bytes d (0x10 ∷ 0x81 ∷ []) → not r ≡ false → eqb (length d) 2 ≡ true
  pair-t e f q t = sym (pair d e f) ∙ flag-nt q t

  pub pair-f : get_or d 0 0 ≡ 0x10 → get_or d 1 0 ≡ 0x81 → r ≡ same_bytes d (0x10 ∷ 0x81 ∷ []) → not r ≡ true → eqb (length d) 2 ≡ false
  pair-f e f q t = sym (pair d e f) ∙ flag-nf q t

-- the name in a request: t is the TRTP read, day the number behind it
pub name-read : (d : List ℕ) (t day : ℕ) → t ≡ get_or d 1 0 → day ≡ number_at 4 2 d → ◌≡◌ {A = AnswerName} (record { trep = t; day = day }) (request_name d)
unfolding request_name
name-read d t day e f = rw (e, f)

-- The returns of transfer data; a is whether the TRTP is one of activities, n the length that it asks for
module _ (kind : ℕ) (phase : Phase) (place : Place) (d : List ℕ) where
  pub transfer-short : length d < 2 → Negative 0x36 0x13 ≡ on_transfer kind phase place d
  unfolding on_transfer
  transfer-short h = rw (lt-leb 2 (length d) h)

  module _ (two : 2 ≤ length d) (k : Bool) (known : k ≡ known_to kind (get_or d 1 0)) where
    pub transfer-unknown : not k ≡ true → Negative 0x36 0x12 ≡ on_transfer kind phase place d
    unfolding on_transfer
    transfer-unknown h = rw (le-leb 2 (length d) two, flag-nf known h)

    module _ (yes : not k ≡ false) (a : Bool) (asked : a ≡ is_activities (get_or d 1 0)) (n : ℕ) (needed : n ≡ request_length a) where
      length-is : request_length (is_activities (get_or d 1 0)) ≡ n
      length-is = sym (needed ∙ ap request_length asked)

      pub transfer-long : (length d ≡ n → ⊥) → Negative 0x36 0x13 ≡ on_transfer kind phase place d
      unfolding on_transfer
      transfer-long h = rw (le-leb 2 (length d) two, flag-nt known yes, length-is, ne_eqb (length d) n h)

      module _ (exact : length d ≡ n) (g : Bool) (granted : g ≡ is_granted phase) where
        pub transfer-turn : not g ≡ true → Negative 0x36 0x22 ≡ on_transfer kind phase place d
        unfolding on_transfer
        transfer-turn h = rw (le-leb 2 (length d) two, flag-nt known yes, length-is, eq-eqb (length d) n exact, flag-nf granted h)

        pub transfer-answer : (r : Reaction) (name : AnswerName) → not g ≡ false → name ≡ request_name d → r ≡ answer_from name (sub 1) place
            → r ≡ on_transfer kind phase place d
        unfolding on_transfer
        transfer-answer r name h named q =
            rw (le-leb 2 (length d) two, flag-nt known yes, length-is, eq-eqb (length d) n exact, flag-nt granted h, ← named) q

-- the answer that a frame's data asks for; t is its first byte
module _ (d : List ℕ) (t : ℕ) (read : t ≡ get_or d 0 0) where
  pub asked-transfer : (name : AnswerName) → t ≡ 0x36 → name ≡ request_name d → name ≡ name_asked d
  asked-transfer name h e = rw (eq-eqb (get_or d 0 0) 0x36 (sym read ∙ h)) e

  pub asked-other : (name : AnswerName) → (t ≡ 0x36 → ⊥) → name ≡ no_answer → name ≡ name_asked d
  asked-other name h e = rw (ne_eqb (get_or d 0 0) 0x36 (λ q. h (read ∙ q))) e

-- two codes that were compared
code-differs : (x : ℕ) (r k : AckCode) → (x ≡ r.0 → ⊥) → r ≡ k → eqb x k.0 ≡ false
code-differs x r k n q = ne_eqb x k.0 (λ e. n (e ∙ ap (λ (y : AckCode). y.0) (sym q)))

code_same : (x : ℕ) (r k : AckCode) → x ≡ r.0 → r ≡ k → eqb x k.0 ≡ true
code_same x r k e q = eq-eqb x k.0 (e ∙ ap (λ (y : AckCode). y.0) q)

-- The returns of a code; a, b and s are the codes that `split::codes` gave
module _ (name : AnswerName) (last : SubMessage) (part : Part) (c a : AckCode) (again : a ≡ repeat_of last) where
  pub code-repeat : c.0 ≡ a.0 → AnswerSent name last part ≡ on_code name last part c
  unfolding on_code
  code-repeat h = rw (code_same c.0 a (repeat_of last) h again)

  module _ (not-again : c.0 ≡ a.0 → ⊥) (b : AckCode) (next : b ≡ acknowledge_of last) where
    pub code-next : (r : Reaction) → c.0 ≡ b.0 → r ≡ send_next name last part → r ≡ on_code name last part c
    unfolding on_code
    code-next r h q = rw (code-differs c.0 a (repeat_of last) not-again again, code_same c.0 b (acknowledge_of last) h next) q

    module _ (not-next : c.0 ≡ b.0 → ⊥) (s : AckCode) (stop : s ≡ stop_code) where
      pub code-stop : c.0 ≡ s.0 → AnswerStopped ≡ on_code name last part c
      unfolding on_code
      code-stop h =
          rw (
            code-differs c.0 a (repeat_of last) not-again again,
            code-differs c.0 b (acknowledge_of last) not-next next,
            code_same c.0 s stop_code h stop,
          )

      pub code_other : (c.0 ≡ s.0 → ⊥) → Negative 0x83 0x22 ≡ on_code name last part c
      unfolding on_code
      code_other h =
          rw (
            code-differs c.0 a (repeat_of last) not-again again,
            code-differs c.0 b (acknowledge_of last) not-next next,
            code-differs c.0 s stop_code h stop,
          )

-- The sub message behind the last one; n is the length of the data, c the count
module _ (name : AnswerName) (last : SubMessage) (part : Part) (n c : ℕ) (measured : n ≡ data_length part) (counted : c ≡ count_of n) where
  count-is : count_of (data_length part) ≡ c
  count-is = sym (counted ∙ ap count_of measured)

  pub next-none : c < last.0 + 1 → Negative 0x83 0x12 ≡ send_next name last part
  next-none h = rw (count-is, lt-leb (last.0 + 1) c h)

  pub next-such : (k : SubMessage) → last.0 + 1 ≤ c → k ≡ next_of last → AnswerSent name k part ≡ send_next name last part
  next-such k h e = rw (count-is, le-leb (last.0 + 1) c h, e)

-- the code of an acknowledgement stands in its third and fourth byte
pub code_read : (phase : Phase) (place : Place) (d : List ℕ) (r : Reaction) (c : ℕ) → length d ≡ 4 → c ≡ number_of (get_or d 2 0 ∷ get_or d 3 0 ∷ [])
    → r ≡ on_sending phase place (code c) → r ≡ on_sending phase place (code (number_at 2 2 d))
code_read phase place d r c n e q = q ∙ ap (λ (k : ℕ). on_sending phase place (code k)) (read-two 2 d c 2 (omega arith) (omega arith) refl e)

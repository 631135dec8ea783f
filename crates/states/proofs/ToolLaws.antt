-- The tool's packed state: the functions' returns, and that packing and unpacking undo each other.
use Prim.Native.Nat.{ℕ, zero, suc, ◌<◌, ◌≤◌}
use mathlib.Core.Bool.{true, false, ◌&&◌, ◌||◌}
use mathlib.Core.List.{List, [], ◌∷◌, ◌++◌}
use mathlib.Core.Path.{◌≡◌, refl, sym, ap, ap₂, ◌∙◌}
use native.Mathlib.Omega.{arith}
use lib.Dec.{eqb, leb}
use lib.ListN.{length, get_or}
use borrow.Author.Tests.{le-leb, lt-leb, eq-eqb, ne_eqb, eqb-true, leb-true}
use Rattle.fields.specs.BigEndian.{number_of, bytes_of, number_at}
use Rattle.fields.proofs.NumberLaws.{number-of-bytes, be-two, be-four}
use Rattle.std.specs.Int.{w16, w32, to_be_bytes}
use Rattle.octets.proofs.Tests.{and_left, and_right}
use Rattle.split.specs.Codes.{sub}
use Rattle.progress.specs.declared.Request.{Request}
use Rattle.progress.specs.declared.Request.TheVariants as requests
use Rattle.progress.specs.declared.Outcome.{Outcome}
use Rattle.progress.specs.declared.Outcome.TheVariants.{Fresh, Waiting, Done, NoAnswer, NoRoom, Refused}
use Rattle.progress.specs.declared.ToolState.{ToolState}
use Rattle.progress.specs.declared.codes.UnknownRequest.{UnknownRequest}
use Rattle.progress.specs.Codes.{Requests}
use Rattle.std.specs.Prelude.{Result, Ok, Err}
use Rattle.std.specs.Result.{result_unwrap_or}
use Rattle.states.specs.Packed.{request_byte, request_from, outcome_byte, code_byte, outcome_from, packed_tool, is_tool, no_tool, unpacked_tool}
use Rattle.states.proofs.FieldLaws.{spelled, field-two, field_back}

-- Whether bytes are a state, from the tests of the code in their order
module _ (b : List ℕ) where
  pub tool-length : (length b ≡ 15 → ⊥) → false ≡ is_tool b
  unfolding is_tool
  tool-length h = rw (ne_eqb (length b) 15 h)

  module _ (l : length b ≡ 15) where
    pub tool-request : 5 < get_or b 0 0 → false ≡ is_tool b
    unfolding is_tool
    tool-request h = rw (eq-eqb (length b) 15 l, lt-leb (get_or b 0 0) 5 h)

    module _ (r : get_or b 0 0 ≤ 5) where
      pub tool-outcome : 5 < get_or b 1 0 → false ≡ is_tool b
      unfolding is_tool
      tool-outcome h = rw (eq-eqb (length b) 15 l, le-leb (get_or b 0 0) 5 r, lt-leb (get_or b 1 0) 5 h)

      module _ (o : get_or b 1 0 ≤ 5) where
        pub tool-refused : get_or b 1 0 ≡ 5 → true ≡ is_tool b
        unfolding is_tool
        tool-refused h =
            rw (eq-eqb (length b) 15 l, le-leb (get_or b 0 0) 5 r, le-leb (get_or b 1 0) 5 o, eq-eqb (get_or b 1 0) 5 h)

        pub tool-code : (get_or b 1 0 ≡ 5 → ⊥) → eqb (get_or b 2 0) 0 ≡ is_tool b
        unfolding is_tool
        tool-code h =
            rw (eq-eqb (length b) 15 l, le-leb (get_or b 0 0) 5 r, le-leb (get_or b 1 0) 5 o, ne_eqb (get_or b 1 0) 5 h)

-- Unpacking

pub tool-size : (b : List ℕ) → is_tool b ≡ true → length b ≡ 15
unfolding is_tool
tool-size b h = eqb-true (length b) 15 (and_left (eqb (length b) 15) _ h)

module _ (b : List ℕ) where
  pub tool-none : (r : ToolState) → is_tool b ≡ false → r ≡ no_tool → r ≡ unpacked_tool b
  unfolding unpacked_tool
  tool-none r h e = rw h e

  -- each field as it was read
  pub tool-some : (x y code trep day sendings high low expected held : ℕ) (request : Request) (outcome : Outcome) → is_tool b ≡ true →
      x ≡ get_or b 0 0 → request ≡ request_from x → y ≡ get_or b 1 0 → code ≡ get_or b 2 0 → outcome ≡ outcome_from y code →
      trep ≡ get_or b 3 0 → day ≡ number_at 4 4 b → sendings ≡ get_or b 8 0 →
      high ≡ get_or b 9 0 → low ≡ get_or b 10 0 → expected ≡ number_of (high ∷ low ∷ []) → held ≡ number_at 4 11 b →
      ◌≡◌ {A = ToolState}
      (record { request = request; outcome = outcome; name = record { trep = trep; day = day }; sendings = sendings; expected = sub expected; held = held })
      (unpacked_tool b)
  unfolding unpacked_tool
  tool-some x y code trep day sendings high low expected held request outcome h e₀ e₁ e₂ e₃ e₄ e₅ e₆ e₇ p q e₈ e₉ =
      let l : length b ≡ 15 = tool-size b h in
      let n : expected ≡ number_at 2 9 b = field-two 9 expected high low b (omega arith) e₈ p q in
      rw (h, ← e₀, e₁, ← e₂, ← e₃, e₄, ← e₅, ← e₆, ← e₇, ← n, ← e₉)

-- Packing

-- d, e and h are the bytes of the day, the number expected and the count held
pub tool-packed : (t : ToolState) (x y code : ℕ) (d e h : List ℕ) → x ≡ request_byte t.request → y ≡ outcome_byte t.outcome → code ≡ code_byte t.outcome
    → d ≡ to_be_bytes w32 t.name.day → e ≡ to_be_bytes w16 t.expected.0 → h ≡ to_be_bytes w32 t.held
    → x ∷ y ∷ code ∷ t.name.trep ∷ get_or d 0 0 ∷ get_or d 1 0 ∷ get_or d 2 0 ∷ get_or d 3 0
    ∷ t.sendings ∷ get_or e 0 0 ∷ get_or e 1 0
    ∷ get_or h 0 0 ∷ get_or h 1 0 ∷ get_or h 2 0 ∷ get_or h 3 0 ∷ []
    ≡ packed_tool t
unfolding packed_tool
tool-packed t x y code d e h p q r u v w =
    rw (← p, ← q, ← r, u ∙ be-four t.name.day, v ∙ be-two t.expected.0, w ∙ be-four t.held) refl

pub length-tool : (t : ToolState) → length (packed_tool t) ≡ 15
unfolding packed_tool
length-tool t = refl

-- A state comes back from its packed bytes; its day, number and bytes held fit their fields

pub request-back : (request : Request) → request_from (request_byte request) ≡ request
unfolding request_from
request-back requests.Start = refl
request-back requests.Session = refl
request-back requests.Upload = refl
request-back requests.Exit = refl
request-back requests.Stop = refl
request-back requests.Transfer = refl

request-least : (request : Request) → leb (request_byte request) 5 ≡ true
request-least requests.Start = refl
request-least requests.Session = refl
request-least requests.Upload = refl
request-least requests.Exit = refl
request-least requests.Stop = refl
request-least requests.Transfer = refl

-- a request whose number is that byte is the one that stands for it
pub request-is : (request : Request) (byte : ℕ) → request_byte request ≡ byte → request_from byte ≡ request
request-is request byte e = sym (ap request_from e) ∙ request-back request

-- and the byte is at most 5
pub request-below : (request : Request) (byte : ℕ) → request_byte request ≡ byte → leb byte 5 ≡ true
request-below request byte e = sym (ap (λ (x : ℕ). leb x 5) e) ∙ request-least request

-- the request of a byte, as the conversion gives it; above 5 it gives none
request-above : (byte : ℕ) → 5 < byte → requests.Transfer ≡ request_from byte
unfolding request_from
request-above byte h =
    rw (
      ne_eqb byte 0 (λ e. omega arith),
      ne_eqb byte 1 (λ e. omega arith),
      ne_eqb byte 2 (λ e. omega arith),
      ne_eqb byte 3 (λ e. omega arith),
      ne_eqb byte 4 (λ e. omega arith),
    )

pub request-read : (byte : ℕ) (r : Result Request UnknownRequest) → Requests byte r → result_unwrap_or r requests.Transfer ≡ request_from byte
request-read byte (Ok request) e = sym (request-is request byte e)
request-read byte (Err x) e = request-above byte e.1

outcome-back : (outcome : Outcome) → outcome_from (outcome_byte outcome) (code_byte outcome) ≡ outcome
unfolding outcome_from
outcome-back Fresh = refl
outcome-back Waiting = refl
outcome-back Done = refl
outcome-back NoAnswer = refl
outcome-back NoRoom = refl
outcome-back (Refused code) = refl

outcome-least : (outcome : Outcome) → (leb (outcome_byte outcome) 5 && (eqb (outcome_byte outcome) 5 || eqb (code_byte outcome) 0)) ≡ true
outcome-least Fresh = refl
outcome-least Waiting = refl
outcome-least Done = refl
outcome-least NoAnswer = refl
outcome-least NoRoom = refl
outcome-least (Refused code) = refl

pub tool-is : (t : ToolState) → is_tool (packed_tool t) ≡ true
unfolding is_tool packed_tool
tool-is t = rw (request-least t.request, outcome-least t.outcome)

-- the outcome comes back whatever the numbers are
pub outcome-kept : (t : ToolState) → (unpacked_tool (packed_tool t)).outcome ≡ t.outcome
unfolding unpacked_tool packed_tool
outcome-kept t = rw (tool-is t, outcome-back t.outcome)

pub tool-back : (t : ToolState) → t.name.day < 4294967296 → t.expected.0 < 65536 → t.held < 4294967296 → unpacked_tool (packed_tool t) ≡ t
unfolding unpacked_tool packed_tool number_at
tool-back t d e h =
    rw (
      tool-is t,
      request-back t.request,
      outcome-back t.outcome,
      number-of-bytes 4 t.name.day d,
      number-of-bytes 2 t.expected.0 e,
      number-of-bytes 4 t.held h,
    )

-- Bytes that are a state are what it is packed as

request-again : (x : ℕ) → x ≤ 5 → request_byte (request_from x) ≡ x
unfolding request_from
request-again zero h = refl
request-again (suc zero) h = refl
request-again (suc (suc zero)) h = refl
request-again (suc (suc (suc zero))) h = refl
request-again (suc (suc (suc (suc zero)))) h = refl
request-again (suc (suc (suc (suc (suc zero))))) h = refl
request-again (suc (suc (suc (suc (suc (suc x)))))) h = absurd (omega arith)

module _ (code : ℕ) where
  outcome-again : (y : ℕ) → y ≤ 5 → outcome_byte (outcome_from y code) ≡ y
  unfolding outcome_from
  outcome-again zero h = refl
  outcome-again (suc zero) h = refl
  outcome-again (suc (suc zero)) h = refl
  outcome-again (suc (suc (suc zero))) h = refl
  outcome-again (suc (suc (suc (suc zero)))) h = refl
  outcome-again (suc (suc (suc (suc (suc zero))))) h = refl
  outcome-again (suc (suc (suc (suc (suc (suc y)))))) h = absurd (omega arith)

  code-again : (y : ℕ) → y ≤ 5 → (eqb y 5 || eqb code 0) ≡ true → code_byte (outcome_from y code) ≡ code
  unfolding outcome_from
  code-again zero h z = sym (eqb-true code 0 z)
  code-again (suc zero) h z = sym (eqb-true code 0 z)
  code-again (suc (suc zero)) h z = sym (eqb-true code 0 z)
  code-again (suc (suc (suc zero))) h z = sym (eqb-true code 0 z)
  code-again (suc (suc (suc (suc zero)))) h z = sym (eqb-true code 0 z)
  code-again (suc (suc (suc (suc (suc zero))))) h z = refl
  code-again (suc (suc (suc (suc (suc (suc y)))))) h z = absurd (omega arith)

pub tool-again : (b : List ℕ) → ((i : ℕ) → get_or b i 0 < 256) → is_tool b ≡ true → packed_tool (unpacked_tool b) ≡ b
unfolding unpacked_tool packed_tool is_tool
tool-again b bytes h =
    let l : length b ≡ 15 = tool-size b h in
    let m = and_right (eqb (length b) 15) _ h in
    let r : get_or b 0 0 ≤ 5 = leb-true _ _ (and_left (leb (get_or b 0 0) 5) _ m) in
    let n = and_right (leb (get_or b 0 0) 5) _ m in
    let o : get_or b 1 0 ≤ 5 = leb-true _ _ (and_left (leb (get_or b 1 0) 5) _ n) in
    let k = code-again (get_or b 2 0) (get_or b 1 0) o (and_right (leb (get_or b 1 0) 5) _ n) in
    let e :
    packed_tool (unpacked_tool b)
    ≡ get_or b 0 0 ∷ get_or b 1 0 ∷ get_or b 2 0 ∷ get_or b 3 0
    ∷ (bytes_of 4 (number_at 4 4 b) ++ (get_or b 8 0 ∷ (bytes_of 2 (number_at 2 9 b) ++ bytes_of 4 (number_at 4 11 b)))) =
    rw (h, request-again (get_or b 0 0) r, outcome-again (get_or b 2 0) (get_or b 1 0) o, k) in
    e
    ∙ ap (λ (x : List ℕ). get_or b 0 0 ∷ get_or b 1 0 ∷ get_or b 2 0 ∷ get_or b 3 0 ∷ (x ++ (get_or b 8 0 ∷ (bytes_of 2 (number_at 2 9 b) ++ bytes_of 4 (number_at 4 11 b)))))
    (field_back 4 4 b bytes refl (omega arith))
    ∙ ap₂ (λ (x y : List ℕ). get_or b 0 0 ∷ get_or b 1 0 ∷ get_or b 2 0 ∷ get_or b 3 0 ∷ get_or b 4 0 ∷ get_or b 5 0 ∷ get_or b 6 0 ∷ get_or b 7 0 ∷ get_or b 8 0 ∷ (x ++ y))
    (field_back 2 9 b bytes refl (omega arith)) (field_back 4 11 b bytes refl (omega arith))
    ∙ spelled 15 b l

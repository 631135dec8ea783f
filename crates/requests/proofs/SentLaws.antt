-- The frames that the tool sends, from the tests of the code; each has at most 260 bytes.
use Prim.Native.Nat.{ℕ, ◌-◌, ◌≤◌}
use mathlib.Core.Bool.{Bool, true, false, cond}
use mathlib.Core.List.{List, [], ◌∷◌}
use mathlib.Core.Path.{◌≡◌, refl, ◌∙◌}
use native.Mathlib.Omega.{arith}
use lib.ListN.{length, get_or}
use lib.Dec.{eqb}
use borrow.Author.Tests.{eq-eqb, ne_eqb}
use Rattle.fields.specs.BigEndian.{bytes_of}
use Rattle.fields.proofs.NumberLaws.{be-two, be-four}
use Rattle.std.specs.Int.{w16, w32, to_be_bytes}
use Rattle.octets.specs.Buffer.{front}
use Rattle.octets.specs.declared.Written.{Written}
use Rattle.frame.specs.declared.Addresses.{Addresses}
use Rattle.frame.specs.declared.End.{End}
use Rattle.frame.specs.declared.End.TheVariants as ends
use Rattle.frame.specs.Frame.{frame_most, closed, frame_of, send_result, send_out}
use Rattle.frame.proofs.WriteLaws.{sent-whole, sent_front}
use Rattle.catalog.specs.Table.{is_activities}
use Rattle.catalog.specs.declared.AnswerName.{AnswerName}
use Rattle.split.specs.Codes.{sub, acknowledge_of}
use Rattle.split.specs.declared.SubMessage.{SubMessage}
use Rattle.split.specs.declared.AckCode.{AckCode}
use Rattle.progress.specs.declared.Request.{Request}
use Rattle.progress.specs.declared.Request.TheVariants as requests
use Rattle.requests.specs.Sent.{transfer_request, acknowledgement, transfer_data, frame_sent}

-- What was sent under one description, under another: frames of equal data, and equal requests

module _ (a : Addresses) (end : End) (d d' : List ℕ) where
  pub result-data : (w : Written) (n : ℕ) → w ≡ send_result (frame_of a end d) n → d ≡ d' → w ≡ send_result (frame_of a end d') n
  result-data w n e q = rw (← q) e

  pub out-data : (o o' : List ℕ) → o' ≡ send_out (frame_of a end d) o → d ≡ d' → o' ≡ send_out (frame_of a end d') o
  out-data o o' e q = rw (← q) e

module _ (a : Addresses) (name : AnswerName) (e : ℕ) (q q' : Request) (same : q ≡ q') where
  pub result-request : (w : Written) (n : ℕ) → w ≡ send_result (frame_sent a q' name e) n → w ≡ send_result (frame_sent a q name e) n
  result-request w n h = rw same h

  pub out-request : (o o' : List ℕ) → o' ≡ send_out (frame_sent a q' name e) o → o' ≡ send_out (frame_sent a q name e) o
  out-request o o' h = rw same h

module _ (name : AnswerName) where
  -- d is the bytes of the second
  pub request-day : (d : List ℕ) → is_activities name.trep ≡ true → d ≡ to_be_bytes w32 name.day
      → 0x36 ∷ name.trep ∷ get_or d 0 0 ∷ get_or d 1 0 ∷ get_or d 2 0 ∷ get_or d 3 0 ∷ [] ≡ transfer_request name
  unfolding transfer_request
  request-day d h e = rw (h, e ∙ be-four name.day) refl

  pub request-only : is_activities name.trep ≡ false → 0x36 ∷ name.trep ∷ [] ≡ transfer_request name
  unfolding transfer_request
  request-only h = rw h

-- and so for the code
pub code-bytes : (code : AckCode) (d : List ℕ) → d ≡ to_be_bytes w16 code.0 → 0x83 ∷ 0x76 ∷ get_or d 0 0 ∷ get_or d 1 0 ∷ [] ≡ acknowledgement code
unfolding acknowledgement
code-bytes code d e = rw (e ∙ be-two code.0) refl

pub transfer-first : (name : AnswerName) (e : ℕ) → e ≡ 1 → transfer_request name ≡ transfer_data name e
unfolding transfer_data
transfer-first name e h = rw (eq-eqb e 1 h)

pub transfer-next : (name : AnswerName) (e : ℕ) (before : SubMessage) (code : AckCode) → (e ≡ 1 → ⊥) → before ≡ sub (e - 1) → code ≡ acknowledge_of before
    → acknowledgement code ≡ transfer_data name e
unfolding transfer_data
transfer-next name e before code h b c = rw (ne_eqb e 1 h, c, b)

pub no-before : (e : ℕ) → e ≡ 0 → sub 0 ≡ sub (e - 1)
no-before e h = let z : e - 1 ≡ 0 = omega arith in rw z

-- Each frame has at most 260 bytes, so a buffer of as many takes it

acknowledgement-most : (a : Addresses) (code : AckCode) → length (frame_of a ends.Unit (acknowledgement code)) ≤ frame_most
unfolding frame_of closed acknowledgement
acknowledgement-most a code = omega arith

transfer-most : (a : Addresses) (name : AnswerName) (e : ℕ) → length (frame_of a ends.Unit (transfer_data name e)) ≤ frame_most
unfolding frame_of closed transfer_data transfer_request acknowledgement
transfer-most a name e = go (eqb e 1) (is_activities name.trep)
  where
    go : (first day : Bool)
        → length (frame_of a ends.Unit (cond first (0x36 ∷ name.trep ∷ cond day (bytes_of 4 name.day) []) (acknowledgement (acknowledge_of (sub (e - 1))))))
        ≤ frame_most
    go true true = omega arith
    go true false = omega arith
    go false true = omega arith
    go false false = omega arith

frame-most : (a : Addresses) (q : Request) (name : AnswerName) (e : ℕ) → length (frame_sent a q name e) ≤ frame_most
unfolding frame_sent frame_of closed
frame-most a requests.Start name e = omega arith
frame-most a requests.Session name e = omega arith
frame-most a requests.Upload name e = omega arith
frame-most a requests.Exit name e = omega arith
frame-most a requests.Stop name e = omega arith
frame-most a requests.Transfer name e = transfer-most a name e

module _ (a : Addresses) (o : List ℕ) (room : frame_most ≤ length o) where
  module _ (q : Request) (name : AnswerName) (e : ℕ) where
    pub request-whole : (w : Written) → w ≡ send_result (frame_sent a q name e) (length o) → w.len ≡ length (frame_sent a q name e)
    request-whole = sent-whole (frame_sent a q name e) o (omega (arith, frame-most a q name e))

    pub request-front : (o' : List ℕ) → o' ≡ send_out (frame_sent a q name e) o → o' ≡ front (frame_sent a q name e) o
    request-front = sent_front (frame_sent a q name e) o (omega (arith, frame-most a q name e))

  module _ (code : AckCode) where
    pub acknowledgement-whole : (w : Written) → w ≡ send_result (frame_of a ends.Unit (acknowledgement code)) (length o)
        → w.len ≡ length (frame_of a ends.Unit (acknowledgement code))
    acknowledgement-whole = sent-whole _ o (omega (arith, acknowledgement-most a code))

    pub acknowledgement-front : (o' : List ℕ) → o' ≡ send_out (frame_of a ends.Unit (acknowledgement code)) o
        → o' ≡ front (frame_of a ends.Unit (acknowledgement code)) o
    acknowledgement-front = sent_front _ o (omega (arith, acknowledgement-most a code))

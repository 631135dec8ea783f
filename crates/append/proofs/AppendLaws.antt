-- Appending, from the tests of the code: the number, and the bytes written one behind the other.
use Prim.Native.Nat.{ℕ, ◌+◌, ◌-◌, ◌<◌, ◌≤◌}
use mathlib.Core.Bool.{true, false, not}
use mathlib.Core.List.{List, ◌++◌, append_assoc}
use mathlib.Core.Path.{◌≡◌, refl, sym, ap, ◌∙◌}
use native.Mathlib.Omega.{arith}
use native.Mathlib.Decide.{dec_lt}
use lib.Dec.{ltb}
use lib.ListN.{length, get_or, take, drop, length-append, length-take, length-drop}
use lib.Seq.{slice, take_all, take-take, take-append-le, drop-drop, take_at, drop_at, length-take-le, length-slice}
use borrow.Author.Tests.{lt-ltb, le-ltb, le-leb, lt-leb, ne_eqb, leb-true, ltb-false, not-true}
use Rattle.octets.specs.Numbers.{changed_by}
use Rattle.octets.specs.Buffer.{part_at, front, put, copied, moved, shifted}
use Rattle.fields.specs.BigEndian.{bytes_of, with_number}
use Rattle.octets.proofs.BufferLaws.{length_part, length_front, length-put, put_front, put-put, lent-copy, shifted_fits}
use Rattle.octets.proofs.CallLaws.{changed-by}
use Rattle.fields.proofs.NumberLaws.{length-bytes}
use Rattle.octets.proofs.OrderLaws.{unless-is, or-zero}
use Rattle.octets.proofs.PartLaws.{part_left, part-take, front_kept}
use Rattle.fields.proofs.FieldLaws.{number_put, numbers-put}
use Rattle.store.specs.Layout.{Form, Sized, header_size, entry_size, entries_size, answers, stream_length, stream_start, store_length, stream_of}
use Rattle.store.specs.Check.{store_number}
use Rattle.store.specs.Read.{position, is_held, lookup_number, lookup_place, lookup_both}
use Rattle.store.specs.Read.{TwoPlaces}
use Rattle.store.proofs.StoreLaws.{lookup-zero}
use Rattle.store.proofs.StoreLaws as stores
use Rattle.catalog.specs.Name.{rounded}
use Rattle.catalog.specs.declared.AnswerName.{AnswerName}
use Rattle.store.specs.Answer.{name_of, answer_number}
use Rattle.append.specs.Append.{room_number, append_number, with_answer, append_out}
use Rattle.store.proofs.FormLaws.{header-size, entry-size}

-- The room; m is the answer's length, n, t and b what the code read, e the size of an entry

module _ (f : Form) (m : ℕ) (s : List ℕ) (n : ℕ) (en : n ≡ answers f s) where
  pub room-count : f.answers_most < n + 1 → 8 ≡ room_number f m s
  unfolding room_number
  room-count h = rw (← en, lt-leb (n + 1) f.answers_most h)

  module _ (t : ℕ) (et : t ≡ stream_length f s) (few : n + 1 ≤ f.answers_most) where
    pub room-stream : f.stream_most < t + m → 8 ≡ room_number f m s
    unfolding room_number
    room-stream h = rw (← en, ← et, le-leb (n + 1) f.answers_most few, lt-leb (t + m) f.stream_most h)

    module _ (b e : ℕ) (eb : b ≡ stream_start f s) (ee : e ≡ entry_size f) (short : t + m ≤ f.stream_most) where
      pub room-short : length s < b + t + e + m → 4 ≡ room_number f m s
      unfolding room_number
      room-short h = rw (← eb, ← en, ← et, ← ee, le-leb (n + 1) f.answers_most few, le-leb (t + m) f.stream_most short, lt-leb (b + t + e + m) (length s) h)

      pub room-some : b + t + e + m ≤ length s → 0 ≡ room_number f m s
      unfolding room_number
      room-some h = rw (← eb, ← en, ← et, ← ee, le-leb (n + 1) f.answers_most few, le-leb (t + m) f.stream_most short, le-leb (b + t + e + m) (length s) h)

-- The name, from the TREP that the code read
pub name-given : (a : List ℕ) (day trep : ℕ) → trep ≡ get_or a 1 0 → ◌≡◌ {A = AnswerName} (record { trep = trep; day = day }) (name_of a day)
name-given a day trep e = rw e

-- The number of an append; found are the store's number and the place of the name, u and q the numbers of the answer and the room

module _ (f : Form) (a : List ℕ) (day : ℕ) (s : List ℕ) (name other : AnswerName) (found : TwoPlaces) (given : name ≡ name_of a day)
    (ef : found ≡ lookup_both f name other s) where
  -- the name under which a store keeps it
  abbrev held : AnswerName
  held = rounded (name_of a day)

  store-part : found.number ≡ store_number f s
  store-part = ap (λ (p : TwoPlaces). p.number) ef

  held-part : found.first.number ≡ lookup_number f (name_of a day) s
  unfolding lookup_place
  held-part = ap (λ (p : TwoPlaces). p.first.number) ef ∙ rw given

  pub append-broken : (found.number ≡ 0 → ⊥) → found.number ≡ append_number f a day s
  unfolding append_number
  append-broken h = rw (← store-part, ne_eqb found.number 0 h)

  module _ (whole : found.number ≡ 0) (u : ℕ) (eu : u ≡ answer_number a day) where
    zero : store_number f s ≡ 0
    zero = sym store-part ∙ whole

    pub append-unlisted : (u ≡ 0 → ⊥) → u ≡ append_number f a day s
    unfolding append_number
    append-unlisted h = rw (zero, ← eu, ne_eqb u 0 h)

    module _ (zu : u ≡ 0) where
      pub append-held : found.first.number ≡ 0 → 7 ≡ append_number f a day s
      unfolding append_number
      append-held h =
          let below = (stores.found f (name_of a day) s (sym held-part ∙ h)).below in
          rw (zero, ← eu, zu, lt-ltb (position f held s) (answers f s) below)

      pub append-room : (q : ℕ) → (found.first.number ≡ 0 → ⊥) → q ≡ room_number f (length a) s → q ≡ append_number f a day s
      unfolding append_number
      append-room q h e =
          let none : is_held f held s ≡ false = not_found (λ l. h (held-part ∙ lookup-zero f (name_of a day) s zero l)) in
          rw (zero, ← eu, zu, none) e
        where
          not_found : (position f held s < answers f s → ⊥) → is_held f held s ≡ false
          not_found n =
              elim (dec_lt (position f held s) (answers f s)) as (λ _. is_held f held s ≡ false) [
                | yes l ↦ absurd (n l)
                | no l ↦ le-ltb (position f held s) (answers f s) (omega arith)
              ]

-- What number 0 says of an append

pub record Accepted (f : Form) (a : List ℕ) (day : ℕ) (s : List ℕ) : Type 0 where
  pub unbroken : store_number f s ≡ 0
  pub listed : answer_number a day ≡ 0
  pub fresh : answers f s ≤ position f (rounded (name_of a day)) s
  pub count : answers f s + 1 ≤ f.answers_most
  pub stream : stream_length f s + length a ≤ f.stream_most
  pub room : store_length f s + entry_size f + length a ≤ length s

pub accepted : (f : Form) (a : List ℕ) (day : ℕ) (s : List ℕ) → append_number f a day s ≡ 0 → Accepted f a day s
unfolding append_number room_number
accepted f a day s e =
    let p = or-zero _ _ e in
    let q = or-zero _ _ p.rest in
    let h = unless-is _ 7 _ 0 refl q.rest in
    let n = unless-is _ 8 _ 0 refl h.rest in
    let t = unless-is _ 8 _ 0 refl n.rest in
    let l = unless-is _ 4 _ 0 refl t.rest in
    record {
      unbroken = p.first;
      listed = q.first;
      fresh = leb-free h.first;
      count = leb-true _ _ n.first;
      stream = leb-true _ _ t.first;
      room = leb-true _ _ l.first;
    }
  where
    leb-free : {i n : ℕ} → not (ltb i n) ≡ true → n ≤ i
    leb-free {i} {n} h = ltb-false i n (not-true (ltb i n) h)

-- the same from the number r that the code tested
module _ (f : Form) (a : List ℕ) (day : ℕ) (s : List ℕ) (r : ℕ) (e : r ≡ append_number f a day s) (z : r ≡ 0) where
  pub accepted-count : answers f s + 1 ≤ f.answers_most
  accepted-count = (accepted f a day s (sym e ∙ z)).count

  pub accepted-stream : stream_length f s + length a ≤ f.stream_most
  accepted-stream = (accepted f a day s (sym e ∙ z)).stream

  pub accepted-room : store_length f s + entry_size f + length a ≤ length s
  accepted-room = (accepted f a day s (sym e ∙ z)).room

  pub accepted-length : (b t k : ℕ) → b ≡ stream_start f s → t ≡ stream_length f s → k ≡ entry_size f
      → b + t + k + length a ≡ changed_by (append_number f a day s) (store_length f s + entry_size f + length a) 0
  accepted-length b t k p q l = changed-by r _ _ _ 0 e z (rw (p, q, l))

  -- the store that was written under the day of the rounded name
  pub accepted-out : (name kept : AnswerName) (out : List ℕ) → name ≡ name_of a day → kept ≡ rounded name → out ≡ front (with_answer f a kept.day s) s
      → out ≡ append_out f a day s
  unfolding append_out
  accepted-out name kept out p q o = changed-by r _ out _ s e z (o ∙ rw (q, p))

-- Fields one behind the other

module _ (f : Form) (sized : Sized f) (s o₁ o₂ : List ℕ) where
  abbrev w : ℕ
  w = f.width

  -- the two of the header
  pub header-written : (n t : ℕ) → header_size f ≤ length s → o₁ ≡ with_number w (length f.mark) n s → o₂ ≡ with_number w (length f.mark + w) t o₁
      → o₂ ≡ put (length f.mark) (bytes_of w n ++ bytes_of w t) s
  header-written n t h e₁ e₂ =
      e₂ ∙ ap (with_number w (length f.mark + w) t) e₁ ∙ numbers-put w w (length f.mark) n t s sized.field sized.field (omega (arith, header-size f))

  -- the three of an entry
  pub entry-written : (o₃ : List ℕ) (at day off len : ℕ) → at + entry_size f ≤ length s
      → o₁ ≡ with_number 4 at day s → o₂ ≡ with_number w (at + 4) off o₁ → o₃ ≡ with_number w (at + 4 + w) len o₂
      → o₃ ≡ put at (bytes_of 4 day ++ (bytes_of w off ++ bytes_of w len)) s
  entry-written o₃ at day off len h e₁ e₂ e₃ =
      let size = entry-size f in
      let d : List ℕ = bytes_of 4 day in
      let l : length (put at d s) ≡ length s = length-put at d s (omega arith) in
      let p : o₁ ≡ put at d s = e₁ ∙ number_put 4 at day s refl (omega arith) in
      e₃
      ∙ ap (with_number w (at + 4 + w) len) e₂
      ∙ numbers-put w w (at + 4) off len o₁ sized.field sized.field (rw p (omega arith))
      ∙ ap (put (at + 4) (bytes_of w off ++ bytes_of w len)) p
      ∙ put-put at d (bytes_of w off ++ bytes_of w len) s (omega arith)

regroup : (k c t e d o l s a : List ℕ) → ((((k ++ (c ++ t)) ++ e) ++ (d ++ (o ++ l))) ++ s) ++ a ≡ k ++ (c ++ (t ++ (e ++ (d ++ (o ++ (l ++ (s ++ a)))))))
regroup k c t e d o l s a = simp append_assoc

-- The whole append: the stream moved up, the header, the entry, the answer
module _ (f : Form) (a : List ℕ) (day : ℕ) (s : List ℕ) (n t b k : ℕ) (en : n ≡ answers f s) (et : t ≡ stream_length f s) (eb : b ≡ stream_start f s)
    (ek : k ≡ entry_size f)
    (room : store_length f s + entry_size f + length a ≤ length s) (o₁ o₂ o₃ : List ℕ) (e₁ : o₁ ≡ shifted b (b + t) k s)
    (e₂ : o₂ ≡ put (length f.mark) (bytes_of f.width (n + 1) ++ bytes_of f.width (t + length a)) o₁)
    (e₃ : o₃ ≡ put b (bytes_of 4 day ++ (bytes_of f.width t ++ bytes_of f.width (length a))) o₂) where
  abbrev v : ℕ
  v = f.width

  abbrev mark : ℕ
  mark = length f.mark

  fields : List ℕ
  fields = bytes_of v (n + 1) ++ bytes_of v (t + length a)

  entry : List ℕ
  entry = bytes_of 4 day ++ (bytes_of v t ++ bytes_of v (length a))

  long-fields : length fields ≡ v + v
  unfolding fields
  long-fields = length-append (bytes_of v (n + 1)) (bytes_of v (t + length a)) ∙ omega (arith, length-bytes v (n + 1), length-bytes v (t + length a))

  long-entry : length entry ≡ k
  unfolding entry
  long-entry =
      length-append (bytes_of 4 day) (bytes_of v t ++ bytes_of v (length a))
      ∙ omega (arith, length-append (bytes_of v t) (bytes_of v (length a)), length-bytes v t, length-bytes v (length a), entry-size f)

  -- header and entries end where the stream began
  start : b ≡ mark + (v + v) + entries_size f n
  start = omega (arith, header-size f, rw (← en) at eb)

  fits : b + t + k + length a ≤ length s
  fits = rw (eb, et, ek) room

  f₁ : o₁ ≡ take (b + k) s ++ (slice b (b + t) s ++ drop (b + t + k) s)
  unfolding moved
  f₁ = e₁ ∙ shifted_fits b (b + t) k s (omega arith) (omega (arith, fits))

  l₁ : length o₁ ≡ length s
  l₁ =
      let h = fits in
      rw f₁ (simp (length-append, length-take, length-drop) (omega arith))

  -- the mark and the old entries stay where they were, the stream lies one entry higher, and what is behind the new store stays
  marked : take mark o₁ ≡ take mark s
  marked =
      let h = fits in
      let q = start in
      rw (f₁, take-append-le mark (take (b + k) s) (slice b (b + t) s ++ drop (b + t + k) s) (simp length-take (omega arith)))
      (take-take mark (b + k) s (omega arith))

  entries : part_at (mark + (v + v)) (entries_size f n) o₁ ≡ part_at (mark + (v + v)) (entries_size f n) s
  entries =
      let h = fits in
      let q = start in
      rw (f₁, part_left (mark + (v + v)) (entries_size f n) (take (b + k) s) (slice b (b + t) s ++ drop (b + t + k) s) (simp length-take (omega arith)))
      (part-take (mark + (v + v)) (entries_size f n) (b + k) s (omega arith) (omega arith))

  stream : part_at (b + k) t o₁ ≡ part_at b t s
  stream =
      let h = fits in
      let m : length (take (b + k) s) ≡ b + k = length-take-le (b + k) s (omega arith) in
      let j : length (slice b (b + t) s) ≡ t = length-slice b (b + t) s (omega arith) ∙ (omega arith) in
      let z : slice b (b + t) s ≡ part_at b t s = sym (take_all t (slice b (b + t) s) (omega arith)) ∙ part-take b t (b + t) s (omega arith) (omega arith) in
      rw (f₁, drop_at (take (b + k) s) (slice b (b + t) s ++ drop (b + t + k) s) (b + k) m) (take_at (slice b (b + t) s) (drop (b + t + k) s) t j ∙ z)

  behind : drop (b + t + k + length a) o₁ ≡ drop (b + t + k + length a) s
  behind =
      let h = fits in
      let m : length (take (b + k) s) ≡ b + k = length-take-le (b + k) s (omega arith) in
      let j : length (slice b (b + t) s) ≡ t = length-slice b (b + t) s (omega arith) ∙ (omega arith) in
      let p : List ℕ = take (b + k) s ++ slice b (b + t) s in
      let l : length p ≡ b + t + k = length-append (take (b + k) s) (slice b (b + t) s) ∙ (omega arith) in
      let g : o₁ ≡ p ++ drop (b + t + k) s = f₁ ∙ sym (append_assoc (take (b + k) s) (slice b (b + t) s) (drop (b + t + k) s)) in
      let d : drop (b + t + k) o₁ ≡ drop (b + t + k) s = rw g (drop_at p (drop (b + t + k) s) (b + t + k) l) in
      sym (drop-drop (length a) (b + t + k) o₁) ∙ ap (drop (length a)) d ∙ drop-drop (length a) (b + t + k) s

  -- the new store up to its entries, up to its last one, and up to the answer
  header : List ℕ
  header = take mark s ++ fields

  before_entry : List ℕ
  before_entry = header ++ part_at (mark + (v + v)) (entries_size f n) s

  before_answer : List ℕ
  before_answer = (before_entry ++ entry) ++ part_at b t s

  header-long : length header ≡ mark + (v + v)
  unfolding header
  header-long =
      let h = fits in
      let q = start in
      length-append (take mark s) fields ∙ omega (arith, long-fields, length-take-le mark s (omega arith))

  before-long : length before_entry ≡ b
  unfolding before_entry
  before-long =
      let h = fits in
      let q = start in
      length-append header (part_at (mark + (v + v)) (entries_size f n) s)
      ∙ omega (arith, header-long, length_part s (mark + (v + v)) (entries_size f n) (omega arith))

  answer-long : length before_answer ≡ b + t + k
  unfolding before_answer
  answer-long =
      let h = fits in
      length-append (before_entry ++ entry) (part_at b t s)
      ∙ omega (arith, length-append before_entry entry, before-long, long-entry, length_part s b t (omega arith))

  put_is : put mark fields o₁ ≡ front header o₁
  unfolding put front header
  put_is =
      let e : mark + length fields ≡ length header = omega (arith, long-fields, header-long) in
      rw (marked, e)

  -- after the three writes all but the answer stands
  all : o₃ ≡ front before_answer o₁
  unfolding header before_entry before_answer fields entry
  all =
      let h = fits in
      let q = start in
      let l = l₁ in
      let g₁ : o₂ ≡ front header o₁ = e₂ ∙ put_is in
      let g₂ : o₂ ≡ front before_entry o₁ =
      g₁ ∙ front_kept header o₁ (mark + (v + v)) (entries_size f n) header-long (omega arith) ∙ ap (λ (x : List ℕ). front (header ++ x) o₁) entries in
      let g₃ : o₃ ≡ front (before_entry ++ entry) o₁ = e₃ ∙ ap (put b entry) g₂ ∙ put_front b before_entry entry o₁ before-long in
      let m : length (before_entry ++ entry) ≡ b + k = length-append before_entry entry ∙ (omega (arith, before-long, long-entry)) in
      g₃ ∙ front_kept (before_entry ++ entry) o₁ (b + k) t m (omega arith) ∙ ap (λ (x : List ℕ). front ((before_entry ++ entry) ++ x) o₁) stream

  l₃ : length o₃ ≡ length s
  l₃ = rw (all, length_front before_answer o₁ (omega (arith, answer-long, fits, l₁))) l₁

  whole : before_answer ++ a ≡ with_answer f a day s
  unfolding header before_entry before_answer fields entry with_answer
  whole =
      rw (← header-size f, en, et, eb)
      (regroup (take mark s) (bytes_of v (answers f s + 1)) (bytes_of v (stream_length f s + length a))
      (part_at (header_size f) (entries_size f (answers f s)) s) (bytes_of 4 day)
      (bytes_of v (stream_length f s)) (bytes_of v (length a)) (stream_of f s) a)

  pub last-is : (o : List ℕ) → o ≡ copied a (take (length o₃ - (b + t + k)) (drop (b + t + k) o₃))
      → take (b + t + k) o₃ ++ (o ++ drop (length o₃ - (b + t + k)) (drop (b + t + k) o₃)) ≡ front (with_answer f a day s) s
  unfolding front
  last-is o e =
      let l : length (before_answer ++ a) ≡ b + t + k + length a = length-append before_answer a ∙ (omega (arith, answer-long)) in
      lent-copy (b + t + k) a o₃ o (omega (arith, fits, l₃)) e
      ∙ ap (put (b + t + k) a) all
      ∙ put_front (b + t + k) before_answer a o₁ answer-long
      ∙ ap (λ (x : List ℕ). (before_answer ++ a) ++ x) (ap (λ (m : ℕ). drop m o₁) l ∙ behind ∙ ap (λ (m : ℕ). drop m s) (sym l))
      ∙ ap (λ (x : List ℕ). front x s) whole

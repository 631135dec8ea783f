-- What is read from the store of a list, with any bytes behind it: the list.
use Prim.Native.Nat.{ℕ, zero, suc, ◌+◌, ◌^◌, ◌<◌, ◌≤◌}
use mathlib.Core.Bool.{true}
use mathlib.Core.List.{List, [], ◌∷◌, ◌++◌, append_assoc, append-nil}
use mathlib.Core.Path.{◌≡◌, refl, sym, ap, ◌∙◌}
use native.Mathlib.Omega.{arith}
use native.Mathlib.Nat.{zero-add}
use lib.ListN.{length, get_or, take, length-append}
use lib.Seq.{take-append_seam, drop-append-add}
use Rattle.octets.specs.Buffer.{part_at}
use Rattle.fields.specs.BigEndian.{bytes_of, field_width, number_at}
use Rattle.fields.proofs.NumberLaws.{length-bytes}
use Rattle.octets.proofs.PartLaws.{part-here}
use Rattle.fields.proofs.FieldLaws.{number_in, number-here}
use Rattle.store.specs.Layout.{Form, Sized, header_size, entry_size, entries_size, entry_start, answers, stream_length, store_length, stream_of}
use Rattle.store.specs.Layout.{entry_day, entry_offset, entry_length}
use Rattle.store.specs.Contents.{Stored, nothing, back_to_back, offset_of, entry_bytes, entries_from, store_of, Holdable}
use Rattle.store.proofs.FormLaws.{header-size, entry-size, entries_none, entries-suc, entry-below}

-- Lists of answers

pub back-append : (gs hs : List Stored) → back_to_back (gs ++ hs) ≡ back_to_back gs ++ back_to_back hs
unfolding back_to_back
back-append [] hs = refl
back-append (g ∷ gs) hs = ap (λ (x : List ℕ). g.answer ++ x) (back-append gs hs) ∙ sym (append_assoc g.answer (back_to_back gs) (back_to_back hs))

-- the i-th answer lies in the stream
pub answer-inside : (gs : List Stored) (i : ℕ) → i < length gs → offset_of i gs + length (get_or gs i nothing).answer ≤ length (back_to_back gs)
unfolding back_to_back
answer-inside [] i h = absurd (omega arith)
answer-inside (g ∷ gs) zero h = omega (arith, length-append g.answer (back_to_back gs))
answer-inside (g ∷ gs) (suc i) h =
    omega (arith, answer-inside gs i (omega arith), length-append g.answer (back_to_back gs), length-append g.answer (back_to_back (take i gs)))

pub answer-part : (gs : List Stored) (i : ℕ) → i < length gs
    → part_at (offset_of i gs) (length (get_or gs i nothing).answer) (back_to_back gs) ≡ (get_or gs i nothing).answer
unfolding back_to_back
answer-part [] i h = absurd (omega arith)
answer-part (g ∷ gs) zero h = take-append_seam g.answer (back_to_back gs)
answer-part (g ∷ gs) (suc i) h =
    rw (length-append g.answer (back_to_back (take i gs)), drop-append-add g.answer (back_to_back gs) (offset_of i gs)) (answer-part gs i (omega arith))

module _ (f : Form) where
  pub entry-long : (o : ℕ) (g : Stored) → length (entry_bytes f o g) ≡ entry_size f
  unfolding entry_bytes
  entry-long o g =
      let d : List ℕ = bytes_of 4 g.day in
      let x : List ℕ = bytes_of f.width o in
      let l : List ℕ = bytes_of f.width (length g.answer) in
      length-append d (x ++ l)
      ∙ omega (arith, length-append x l, length-bytes f.width o, length-bytes f.width (length g.answer), entry-size f)

  pub entries-long : (o : ℕ) (gs : List Stored) → length (entries_from f o gs) ≡ entries_size f (length gs)
  unfolding entries_from
  entries-long o [] = sym (entries_none f)
  entries-long o (g ∷ gs) =
      let rest : ℕ = o + length g.answer in
      length-append (entry_bytes f o g) (entries_from f rest gs)
      ∙ omega (arith, entry-long o g, entries-long rest gs, entries-suc f (length gs))

  pub entries-append : (o : ℕ) (gs hs : List Stored) → entries_from f o (gs ++ hs) ≡ entries_from f o gs ++ entries_from f (o + length (back_to_back gs)) hs
  unfolding entries_from back_to_back
  entries-append o [] hs = let z : o + 0 ≡ o = omega arith in rw z
  entries-append o (g ∷ gs) hs =
      let m : ℕ = length g.answer in
      let e : o + m + length (back_to_back gs) ≡ o + length (g.answer ++ back_to_back gs) = omega (arith, length-append g.answer (back_to_back gs)) in
      rw (entries-append (o + m) gs hs, e) (sym (append_assoc (entry_bytes f o g) (entries_from f (o + m) gs) _))

  -- the i-th entry
  pub entry-part : (gs : List Stored) (i o : ℕ) (p r : List ℕ) → i < length gs
      → part_at (length p + entries_size f i) (entry_size f) (p ++ (entries_from f o gs ++ r)) ≡ entry_bytes f (o + offset_of i gs) (get_or gs i nothing)
  unfolding entries_from back_to_back
  entry-part [] i o p r h = absurd (omega arith)
  entry-part (g ∷ gs) zero o p r h =
      let z : o + 0 ≡ o = omega arith in
      rw (append_assoc (entry_bytes f o g) (entries_from f (o + length g.answer) gs) r, z)
      (part-here (length p + entries_size f 0) (entry_size f) p (entry_bytes f o g) _ (omega (arith, entries_none f)) (entry-long o g))
  entry-part (g ∷ gs) (suc i) o p r h =
      let b : List ℕ = entry_bytes f o g in
      let m : ℕ = length g.answer in
      let l : length (p ++ b) ≡ length p + entry_size f = length-append p b ∙ omega (arith, entry-long o g) in
      let at : length p + entries_size f (suc i) ≡ length (p ++ b) + entries_size f i = omega (arith, entries-suc f i) in
      let off : o + length (g.answer ++ back_to_back (take i gs)) ≡ o + m + offset_of i gs = omega (arith, length-append g.answer (back_to_back (take i gs))) in
      rw (at, off, append_assoc b (entries_from f (o + m) gs) r, ← append_assoc p b (entries_from f (o + m) gs ++ r))
      (entry-part gs i (o + m) (p ++ b) r (omega arith))

  -- header, entries, stream
  pub head : List Stored → List ℕ
  head gs = f.mark ++ (bytes_of f.width (length gs) ++ bytes_of f.width (length (back_to_back gs)))

  pub head-long : (gs : List Stored) → length (head gs) ≡ header_size f
  unfolding head
  head-long gs =
      let c : List ℕ = bytes_of f.width (length gs) in
      let t : List ℕ = bytes_of f.width (length (back_to_back gs)) in
      length-append f.mark (c ++ t)
      ∙ omega (arith, length-append c t, length-bytes f.width (length gs), length-bytes f.width (length (back_to_back gs)), header-size f)

  pub store-parts : (gs : List Stored) → store_of f gs ≡ head gs ++ (entries_from f 0 gs ++ back_to_back gs)
  unfolding store_of head
  store-parts gs = simp append_assoc

  pub store_long : (gs : List Stored) → length (store_of f gs) ≡ header_size f + entries_size f (length gs) + length (back_to_back gs)
  store_long gs =
      ap length (store-parts gs)
      ∙ length-append (head gs) _
      ∙ omega (arith, head-long gs, length-append (entries_from f 0 gs) (back_to_back gs), entries-long 0 gs)

-- A store whose fields and stream are those of the list

pub record Reads (f : Form) (gs : List Stored) (s : List ℕ) : Type 0 where
  pub header : header_size f ≤ length s
  pub within : store_length f s ≤ length s
  pub count : answers f s ≡ length gs
  pub total : stream_length f s ≡ length (back_to_back gs)
  pub stream : stream_of f s ≡ back_to_back gs
  pub days : (i : ℕ) → i < length gs → entry_day f i s ≡ (get_or gs i nothing).day
  pub offsets : (i : ℕ) → i < length gs → entry_offset f i s ≡ offset_of i gs
  pub lengths : (i : ℕ) → i < length gs → entry_length f i s ≡ length (get_or gs i nothing).answer

-- the store of a list is one
module _ (f : Form) (sized : Sized f) (gs : List Stored) (fit : Holdable f gs) (r : List ℕ) where
  abbrev n : ℕ
  n = length gs

  abbrev t : ℕ
  t = length (back_to_back gs)

  abbrev w : ℕ
  w = f.width

  abbrev s : List ℕ
  s = store_of f gs ++ r

  small_count : n < 256 ^ w
  small_count = omega (arith, fit.count, sized.counts)

  small-stream : t < 256 ^ w
  small-stream = omega (arith, fit.stream, sized.streams)

  at_count : s ≡ f.mark ++ (bytes_of w n ++ ((bytes_of w t ++ (entries_from f 0 gs ++ back_to_back gs)) ++ r))
  unfolding store_of
  at_count = simp append_assoc

  at-stream : s ≡ (f.mark ++ bytes_of w n) ++ (bytes_of w t ++ ((entries_from f 0 gs ++ back_to_back gs) ++ r))
  unfolding store_of
  at-stream = simp append_assoc

  at-entries : s ≡ head f gs ++ (entries_from f 0 gs ++ (back_to_back gs ++ r))
  at-entries = rw (store-parts f gs) (simp append_assoc)

  long : length s ≡ header_size f + entries_size f n + t + length r
  long = length-append (store_of f gs) r ∙ omega (arith, store_long f gs)

  counted : answers f s ≡ n
  counted = ap (number_at w (length f.mark)) at_count ∙ number-here w (length f.mark) n f.mark _ sized.field refl small_count

  totalled : stream_length f s ≡ t
  totalled =
      let l : length (f.mark ++ bytes_of w n) ≡ length f.mark + w = length-append f.mark (bytes_of w n) ∙ omega (arith, length-bytes w n) in
      ap (number_at w (length f.mark + w)) at-stream ∙ number-here w (length f.mark + w) t (f.mark ++ bytes_of w n) _ sized.field l small-stream

  streamed : stream_of f s ≡ back_to_back gs
  streamed =
      let l : length (head f gs ++ entries_from f 0 gs) ≡ header_size f + entries_size f n =
      length-append (head f gs) (entries_from f 0 gs) ∙ omega (arith, head-long f gs, entries-long f 0 gs) in
      rw (counted, totalled)
      (ap (part_at (header_size f + entries_size f n) t) (at-entries ∙ sym (append_assoc (head f gs) (entries_from f 0 gs) (back_to_back gs ++ r)))
      ∙ part-here (header_size f + entries_size f n) t (head f gs ++ entries_from f 0 gs) (back_to_back gs) r l refl)

  module _ (i : ℕ) (h : i < n) where
    abbrev g : Stored
    g = get_or gs i nothing

    entry : part_at (entry_start f i) (entry_size f) s ≡ entry_bytes f (offset_of i gs) g
    entry =
        let p = entry-part f gs i 0 (head f gs) (back_to_back gs ++ r) h in
        ap (part_at (entry_start f i) (entry_size f)) at-entries ∙ rw (head-long f gs, zero-add) at p

    -- a field of it, with the bytes p before it and x behind it
    field : (k v at m : ℕ) (p x : List ℕ) → field_width v ≡ true → k + v ≤ entry_size f → length p ≡ k → m < 256 ^ v → at ≡ entry_start f i + k
        → entry_bytes f (offset_of i gs) g ≡ p ++ (bytes_of v m ++ x) → number_at v at s ≡ m
    field k v at m p x fw inside l small here e =
        rw here
        (number_in (entry_start f i) (entry_size f) k v s fw inside (omega (arith, long, entry-below f i n h))
        ∙ ap (number_at v k) (entry ∙ e)
        ∙ number-here v k m p x fw l small)

    day-read : entry_day f i s ≡ g.day
    unfolding entry_bytes
    day-read =
        field 0 4 (entry_start f i) g.day [] _ refl (omega (arith, entry-size f)) refl (fit.listed i h).in_bytes.day (omega arith) refl

    offset_read : entry_offset f i s ≡ offset_of i gs
    unfolding entry_bytes
    offset_read =
        let in-stream = answer-inside gs i h in
        field 4 w (entry_start f i + 4) (offset_of i gs) (bytes_of 4 g.day) _ sized.field (omega (arith, entry-size f)) refl
        (omega (arith, small-stream)) refl refl

    length-read : entry_length f i s ≡ length g.answer
    unfolding entry_bytes
    length-read =
        let in-stream = answer-inside gs i h in
        let o : List ℕ = bytes_of w (offset_of i gs) in
        let d : List ℕ = bytes_of 4 g.day in
        field (4 + w) w (entry_start f i + 4 + w) (length g.answer) (d ++ o) [] sized.field (omega (arith, entry-size f))
        (length-append d o ∙ omega (arith, length-bytes w (offset_of i gs))) (omega (arith, small-stream)) (omega arith) (simp (append_assoc, append-nil))

  pub written-reads : Reads f gs s
  written-reads =
      record {
        header = omega (arith, long);
        within = rw (counted, totalled) (omega (arith, long));
        count = counted;
        total = totalled;
        stream = streamed;
        days = day-read;
        offsets = offset_read;
        lengths = length-read;
      }

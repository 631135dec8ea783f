-- An unbroken store is, in its own bytes, the store of its contents.
use Prim.Native.Nat.{ℕ, zero, suc, ◌+◌, ◌<◌, ◌≤◌}
use mathlib.Core.List.{List, [], ◌∷◌, ◌++◌, append_assoc, append-nil}
use mathlib.Core.Path.{◌≡◌, refl, sym, ap, ◌∙◌}
use native.Mathlib.Omega.{arith}
use native.Mathlib.Nat.{zero-add}
use lib.ListN.{length, get_or, take}
use lib.Seq.{take-suc, take_all, take-add}
use Rattle.octets.specs.Buffer.{Bytes, part_at}
use Rattle.fields.specs.BigEndian.{bytes_of}
use Rattle.octets.proofs.PartLaws.{part-add}
use Rattle.fields.proofs.FieldLaws.{bytes-at}
use Rattle.store.specs.Layout.{Form, Sized, header_size, entry_size, entries_size, entry_start, answers, stream_length, stream_start, store_length}
use Rattle.store.specs.Check.{store_number}
use Rattle.store.specs.Contents.{Stored, nothing, back_to_back, offset_of, entry_bytes, entries_from, store_of, contents}
use Rattle.store.proofs.FormLaws.{header-size, entry-size, entries_none, entries-suc, entry-below}
use Rattle.store.proofs.StoreLaws.{unbroken}
use Rattle.store.proofs.WrittenLaws.{entries-append}
use Rattle.store.proofs.ContentsLaws.{contents-length, contents-reads}

three-parts : {a b c x y z : List ℕ} → a ≡ x → b ≡ y → c ≡ z → a ++ (b ++ c) ≡ x ++ (y ++ z)
three-parts p q r = rw (p, q, r)

module _ (f : Form) (sized : Sized f) (s : List ℕ) (z : store_number f s ≡ 0) (bytes : Bytes s) (marked : take (length f.mark) s ≡ f.mark) where
  abbrev gs : List Stored
  gs = contents f s

  abbrev n : ℕ
  n = answers f s

  abbrev t : ℕ
  t = stream_length f s

  abbrev w : ℕ
  w = f.width

  abbrev mark : ℕ
  mark = length f.mark

  total : t ≡ length (back_to_back gs)
  total = (contents-reads f s z).total

  -- the i-th entry, and the first ones
  entry-is : (i : ℕ) → i < n → part_at (entry_start f i) (entry_size f) s ≡ entry_bytes f (offset_of i gs) (get_or gs i nothing)
  unfolding entry_bytes
  entry-is i h =
      let l : i < length gs = omega (arith, contents-length f s) in
      let reads = contents-reads f s z in
      let room : entry_start f i + entry_size f ≤ length s = omega (arith, entry-below f i n h, (unbroken f s z).within) in
      let size : entry_size f ≡ 4 + (w + w) = entry-size f in
      rw (size, part-add (entry_start f i) 4 (w + w) s, part-add (entry_start f i + 4) w w s, ← reads.offsets i l, ← reads.lengths i l, ← reads.days i l)
      (sym
      (three-parts (bytes-at 4 (entry_start f i) s refl bytes (omega arith))
      (bytes-at w (entry_start f i + 4) s sized.field bytes (omega arith))
      (bytes-at w (entry_start f i + 4 + w) s sized.field bytes (omega arith))))

  entries-to : (i : ℕ) → i ≤ n → part_at (header_size f) (entries_size f i) s ≡ entries_from f 0 (take i gs)
  unfolding entries_from
  entries-to zero h = rw (entries_none f)
  entries-to (suc i) h =
      let l : i < length gs = omega (arith, contents-length f s) in
      let g : Stored = get_or gs i nothing in
      let size : entries_size f (suc i) ≡ entries_size f i + entry_size f = omega (arith, entries-suc f i) in
      rw (size, part-add (header_size f) (entries_size f i) (entry_size f) s, entries-to i (omega arith), entry-is i (omega arith), take-suc gs i nothing l)
      (sym (entries-append f 0 (take i gs) (g ∷ []) ∙ rw (zero-add, append-nil)))

  pub entries-are : part_at (header_size f) (entries_size f n) s ≡ entries_from f 0 gs
  entries-are = entries-to n (omega arith) ∙ ap (entries_from f 0) (take_all n gs (omega (arith, contents-length f s)))

  header_is : take (header_size f) s ≡ f.mark ++ (bytes_of w n ++ bytes_of w t)
  header_is =
      let long : header_size f ≤ length s = (unbroken f s z).header in
      let size : header_size f ≡ mark + (w + w) = header-size f in
      rw (size, take-add mark (w + w) s, marked, part-add mark w w s)
      (ap (λ (x : List ℕ). f.mark ++ x)
      (sym (rw (bytes-at w mark s sized.field bytes (omega arith), bytes-at w (mark + w) s sized.field bytes (omega arith)))))

  pub own-bytes : take (store_length f s) s ≡ store_of f (contents f s)
  unfolding store_of
  own-bytes =
      let c = contents-length f s in
      rw (
        take-add (stream_start f s) t s,
        take-add (header_size f) (entries_size f n) s,
        header_is,
        entries-are,
        (contents-reads f s z).stream,
        c,
        ← total,
      ) (simp append_assoc)

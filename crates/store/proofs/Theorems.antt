-- The calls as functions of the list.
use Prim.Native.Nat.{ℕ, suc, ◌+◌, ◌<◌, ◌≤◌}
use mathlib.Core.List.{List, [], ◌∷◌, ◌++◌, append_assoc}
use mathlib.Core.Path.{◌≡◌, sym, ap, ◌∙◌}
use native.Mathlib.Omega.{arith}
use native.Mathlib.Decide.{dec_lt}
use lib.ListN.{length, get_or, get_or-eq_default}
use lib.Seq.{take-append_seam}
use borrow.Author.Tests.{lt-ltb, le-ltb}
use Rattle.octets.specs.Order.{unless}
use Rattle.octets.specs.Buffer.{Bytes, part_at}
use Rattle.octets.proofs.SearchLaws.{first-same}
use Rattle.fields.specs.BigEndian.{bytes_of}
use Rattle.octets.proofs.PartLaws.{bytes-append}
use Rattle.fields.proofs.FieldLaws.{bytes-number}
use Rattle.catalog.specs.Name.{rounded}
use Rattle.catalog.specs.declared.AnswerName.{AnswerName}
use Rattle.store.specs.Layout.{Form, Sized, answers, answer_at, name_at}
use Rattle.store.specs.Check.{store_number}
use Rattle.store.specs.Read.{position, is_held, lookup_number, lookup_part, stream_part, held_number, held_answer}
use Rattle.store.specs.Contents.{Stored, name_for, nothing, back_to_back, entry_bytes, entries_from, store_of, contents}
use Rattle.store.specs.Contents.{place_of, is_among, answer_named, start_of, Holdable, OfForm}
use Rattle.store.proofs.PositionLaws.{has_name}
use Rattle.store.proofs.StoreLaws.{lookup-zero, lookup-empty, found, stream-part}
use Rattle.store.proofs.WrittenLaws.{written-reads}
use Rattle.store.proofs.ContentsLaws.{reads-unbroken, reads-contents, contents-length, contents-at, contents-reads, stored-name}
use Rattle.store.proofs.ListLaws.{named}

-- The store of a list

module _ (f : Form) (sized : Sized f) (gs : List Stored) (rest : List ℕ) (fit : Holdable f gs) where
  pub written-unbroken : store_number f (store_of f gs ++ rest) ≡ 0
  written-unbroken = reads-unbroken f gs (store_of f gs ++ rest) fit (written-reads f sized gs fit rest)

  pub written-contents : contents f (store_of f gs ++ rest) ≡ gs
  written-contents = reads-contents f gs (store_of f gs ++ rest) fit (written-reads f sized gs fit rest)

-- The calls of an unbroken store

module _ (f : Form) (s : List ℕ) (z : store_number f s ≡ 0) where
  abbrev gs : List Stored
  gs = contents f s

  module _ (name : AnswerName) where
    pub position-is : position f name s ≡ place_of name gs
    position-is =
        first-same (has_name f name s) (named name gs) (answers f s) (λ i h. rw (stored-name f s z i h, contents-at f s i h))
        ∙ rw (contents-length f s)

    pub held-is : is_held f name s ≡ is_among name gs
    held-is = rw (position-is, contents-length f s)

  -- a lookup, by the name under which the answer is kept
  module _ (name : AnswerName) where
    pub lookup-is : lookup_number f name s ≡ unless (is_among (rounded name) gs) 6 0
    unfolding lookup_number
    lookup-is = rw (z, held-is (rounded name))

    pub lookup-bytes : lookup_part f name s ≡ answer_named (rounded name) gs
    lookup-bytes =
        let p : ℕ = position f (rounded name) s in
        let q = position-is (rounded name) in
        let c = contents-length f s in
        elim (dec_lt p (answers f s)) as (λ _. lookup_part f name s ≡ answer_named (rounded name) gs) [
          | yes l ↦
              (found f name s (lookup-zero f name s z l)).part
              ∙ sym (ap (λ (x : Stored). x.answer) (contents-at f s p l))
              ∙ ap (λ (k : ℕ). (get_or gs k nothing).answer) q
          | no l ↦
              let out : get_or gs (place_of (rounded name) gs) nothing ≡ nothing = get_or-eq_default gs nothing (omega arith) in
              lookup-empty f name s (λ e. missing-not (omega arith) e) ∙ ap (λ (x : Stored). x.answer) (sym out)
        ]
      where
        missing-not : answers f s ≤ position f (rounded name) s → lookup_number f name s ≡ 0 → ⊥
        missing-not h e = let l = (found f name s e).below in omega arith

  pub stream-is : stream_part f s ≡ back_to_back gs
  stream-is = stream-part f s z ∙ (contents-reads f s z).stream

  -- the k-th answer
  pub kth-is : (k : ℕ) → k < length gs
      → held_answer f k s ≡ record { number = 0; name = name_for (get_or gs k nothing); start = start_of f k gs; len = length (get_or gs k nothing).answer }
  unfolding held_answer held_number
  kth-is k h =
      let l : k < answers f s = omega (arith, contents-length f s) in
      let reads = contents-reads f s z in
      let name : name_at f k s ≡ name_for (get_or gs k nothing) = stored-name f s z k l ∙ ap name_for (sym (contents-at f s k l)) in
      rw (z, lt-ltb k (answers f s) l, name, reads.offsets k h, reads.lengths k h, contents-length f s)

  pub kth-bytes : (k : ℕ) → k < length gs → part_at (held_answer f k s).start (held_answer f k s).len s ≡ (get_or gs k nothing).answer
  unfolding held_answer held_number answer_at
  kth-bytes k h =
      let l : k < answers f s = omega (arith, contents-length f s) in
      rw (z, lt-ltb k (answers f s) l) (sym (ap (λ (x : Stored). x.answer) (contents-at f s k l)))

  pub none_left_lem : (k : ℕ) → length gs ≤ k → (held_answer f k s).number ≡ 6
  unfolding held_answer held_number
  none_left_lem k h =
      let l : answers f s ≤ k = omega (arith, contents-length f s) in
      rw (z, le-ltb k (answers f s) l)

-- The store of a list is of its form, with bytes behind it

back-bytes : (gs : List Stored) → ((i : ℕ) → i < length gs → Bytes (get_or gs i nothing).answer) → Bytes (back_to_back gs)
unfolding back_to_back
back-bytes [] b i = omega arith
back-bytes (g ∷ gs) b i = bytes-append g.answer (back_to_back gs) (b 0 (omega arith)) (back-bytes gs (λ j h. b (suc j) (omega arith))) i

entries-bytes : (f : Form) (o : ℕ) (gs : List Stored) → Bytes (entries_from f o gs)
unfolding entries_from entry_bytes
entries-bytes f o [] i = omega arith
entries-bytes f o (g ∷ gs) i =
    let m : ℕ = length g.answer in
    bytes-append (entry_bytes f o g) (entries_from f (o + m) gs)
    (bytes-append (bytes_of 4 g.day) (bytes_of f.width o ++ bytes_of f.width m) (bytes-number 4 g.day)
    (bytes-append (bytes_of f.width o) (bytes_of f.width m) (bytes-number f.width o) (bytes-number f.width m)))
    (entries-bytes f (o + m) gs) i

pub written-form : (f : Form) (gs : List Stored) (rest : List ℕ) → Bytes f.mark → Bytes rest → Holdable f gs → OfForm f (store_of f gs ++ rest)
unfolding store_of
written-form f gs rest mark behind fit =
    let w : ℕ = f.width in
    let n : ℕ = length gs in
    let t : ℕ = length (back_to_back gs) in
    let back = back-bytes gs (λ i h. (fit.listed i h).in_bytes.bytes) in
    let e : List ℕ = entries_from f 0 gs ++ back_to_back gs in
    let fields = bytes-append (bytes_of w t) e (bytes-number w t) (bytes-append (entries_from f 0 gs) (back_to_back gs) (entries-bytes f 0 gs) back) in
    record {
      bytes = bytes-append (store_of f gs) rest
          (bytes-append f.mark (bytes_of w n ++ (bytes_of w t ++ e)) mark (bytes-append (bytes_of w n) (bytes_of w t ++ e) (bytes-number w n) fields)) behind;
      marked = rw (append_assoc f.mark (bytes_of w n ++ (bytes_of w t ++ e)) rest) (take-append_seam f.mark _);
    }

-- An append as one to the list, and what it leaves.
use Prim.Native.Nat.{ℕ, suc, ◌+◌, ◌<◌}
use mathlib.Core.List.{List, [], ◌∷◌, ◌++◌, map, append_assoc, append-nil}
use mathlib.Core.Path.{◌≡◌, sym, ap, ◌∙◌}
use native.Mathlib.Omega.{arith}
use native.Mathlib.Nat.{zero-add}
use native.Mathlib.Decide.{dec_lt}
use lib.ListN.{length, get_or, drop, length-append, length-map}
use lib.Seq.{get_or-append-add}
use Rattle.octets.specs.Buffer.{front}
use Rattle.fields.specs.BigEndian.{bytes_of}
use Rattle.octets.proofs.PartLaws.{bytes-part, bytes_drop}
use Rattle.catalog.specs.Name.{rounded}
use Rattle.catalog.specs.declared.AnswerName.{AnswerName}
use Rattle.store.specs.Layout.{Form, Sized, entry_size, answers, stream_length, store_length}
use Rattle.store.specs.Check.{store_number}
use Rattle.store.specs.Read.{lookup_number, lookup_part, stream_part}
use Rattle.store.specs.Contents.{Stored, name_for, kept, nothing, back_to_back, entry_bytes, entries_from, store_of, contents}
use Rattle.store.specs.Contents.{answer_named, InBytes, Listed, Holdable, OfForm}
use Rattle.store.proofs.PositionLaws.{position-missing}
use Rattle.store.proofs.FormLaws.{entries-suc}
use Rattle.store.proofs.WrittenLaws.{back-append, entries-append, store_long}
use Rattle.store.proofs.ContentsLaws.{contents-length, contents-at, contents-reads, contents-holdable, stored-name}
use Rattle.store.proofs.ListLaws.{is_among_lem, answer-of, more-length, more-back, more-old, more-new, others-among, others-answer}
use Rattle.store.proofs.OwnBytes.{entries-are}
use Rattle.store.proofs.Theorems.{written-unbroken, written-contents, written-form, held-is, lookup-is, lookup-bytes, stream-is}
use Rattle.append.specs.Append.{room_number, append_number, with_answer, append_out, with_last, append_number_to}
use Rattle.append.specs.Claims.{Found, Appended, Appends, none, more, ReadsBack}
use Rattle.append.proofs.AppendLaws.{Accepted, accepted}
use Rattle.append.proofs.KeptLaws.{kept-name, kept-listed, back-kept, kept_at}

-- The list with an answer more

-- mark, count, stream length, entries; day, offset and length of the new one; stream and answer
regroup : (m c t e d o l s a : List ℕ)
    → m ++ (c ++ (t ++ (e ++ (d ++ (o ++ (l ++ (s ++ a))))))) ≡ m ++ (c ++ (t ++ ((e ++ ((d ++ (o ++ l)) ++ [])) ++ (s ++ a))))
regroup m c t e d o l s a = simp (append_assoc, append-nil)

-- the new store is that of the contents and the answer
module _ (f : Form) (sized : Sized f) (s : List ℕ) (z : store_number f s ≡ 0) (formed : OfForm f s) where
  abbrev gs : List Stored
  gs = contents f s

  pub with-answer : (g : Stored) → with_answer f g.answer g.day s ≡ store_of f (contents f s ++ (g ∷ []))
  unfolding with_answer store_of entries_from back_to_back entry_bytes
  with-answer g =
      let reads = contents-reads f s z in
      let w : ℕ = f.width in
      let m : ℕ = length g.answer in
      let t : ℕ = length (back_to_back gs) in
      let many : length (gs ++ (g ∷ [])) ≡ length gs + 1 = more-length gs g in
      let long : length (back_to_back gs ++ g.answer) ≡ t + m = length-append (back_to_back gs) g.answer in
      rw (formed.marked, entries-are f sized s z formed.bytes formed.marked, reads.stream, reads.count, reads.total)
      (rw (many, more-back gs g, long, entries-append f 0 gs (g ∷ []), zero-add)
      (regroup f.mark (bytes_of w (length gs + 1)) (bytes_of w (t + m)) (entries_from f 0 gs) (bytes_of 4 g.day) (bytes_of w t) (bytes_of w m)
      (back_to_back gs) g.answer))

module _ (f : Form) (s : List ℕ) (z : store_number f s ≡ 0) where
  abbrev held : List Stored
  held = contents f s

  -- its length
  pub more-long : (g : Stored) → length (store_of f (held ++ (g ∷ []))) ≡ store_length f s + entry_size f + length g.answer
  more-long g =
      let reads = contents-reads f s z in
      let n : length (held ++ (g ∷ [])) ≡ suc (length held) = more-length held g ∙ omega arith in
      store_long f (held ++ (g ∷ []))
      ∙ rw (n, more-back held g, reads.count)
      (omega (arith, entries-suc f (length held), length-append (back_to_back held) g.answer, reads.total))

  pub append-is : (g : Stored) → append_number f g.answer g.day s ≡ append_number_to f g (length s) held
  unfolding append_number room_number append_number_to
  append-is g =
      let reads = contents-reads f s z in
      let t : length (back_to_back (with_last g held)) ≡ stream_length f s + length g.answer =
      ap length (more-back held (kept g)) ∙ length-append (back_to_back held) g.answer ∙ omega (arith, reads.total) in
      rw (z, held-is f s z (rounded (name_for g)), more-length held (kept g), contents-length f s, t, more-long (kept g))

-- an answer that an unbroken store keeps i-th is found under every name that is kept as its own
pub found_at : (f : Form) (s : List ℕ) → store_number f s ≡ 0 → (gs : List Stored) → contents f s ≡ gs → Holdable f gs
    → (i : ℕ) → i < length gs → (g : Stored) → get_or gs i nothing ≡ kept g → Found f g s
found_at f s z gs e fit i h g is =
    let at : name_for (get_or gs i nothing) ≡ rounded (name_for g) = ap name_for is ∙ kept-name g in
    record {
      number = λ name q. lookup-is f s z name ∙ rw (e, q, ← at) (rw (is_among_lem f gs fit i h));
      part = λ name q.
          lookup-bytes f s z name
          ∙ ap (answer_named (rounded name)) e
          ∙ ap (λ (n : AnswerName). answer_named n gs) (q ∙ sym at)
          ∙ answer-of f gs fit i h
          ∙ ap (λ (x : Stored). x.answer) is;
    }

-- An accepted append

pub append-out : (f : Form) → Sized f → (g : Stored) (s : List ℕ) → OfForm f s → append_number f g.answer g.day s ≡ 0
    → append_out f g.answer g.day s ≡ front (store_of f (with_last g (contents f s))) s
unfolding append_out
append-out f sized g s formed taken =
    let z = (accepted f g.answer g.day s taken).unbroken in
    rw (taken, with-answer f sized s z formed (kept g))

module _ (f : Form) (sized : Sized f) (g : Stored) (s : List ℕ) (formed : OfForm f s) (given : InBytes g)
    (taken : append_number f g.answer g.day s ≡ 0) where
  abbrev old : List Stored
  old = contents f s

  abbrev new : List Stored
  new = with_last g (contents f s)

  abbrev after : List ℕ
  after = append_out f g.answer g.day s

  ok : Accepted f g.answer g.day s
  ok = accepted f g.answer g.day s taken

  old-fit : Holdable f old
  old-fit = contents-holdable f s ok.unbroken formed.bytes

  -- the old names are not the new one
  fresh : (i : ℕ) → i < length old → name_for (get_or old i nothing) ≡ name_for (kept g) → ⊥
  fresh i h e =
      let l : i < answers f s = omega (arith, contents-length f s) in
      position-missing f (rounded (name_for g)) s ok.fresh i l
      (stored-name f s ok.unbroken i l ∙ ap name_for (sym (contents-at f s i l)) ∙ e ∙ kept-name g)

  new-fit : Holdable f new
  new-fit =
      let n = more-length old (kept g) in
      let reads = contents-reads f s ok.unbroken in
      record {
        listed = λ i h.
            elim (dec_lt i (length old)) as (λ _. Listed (get_or new i nothing)) [
              | yes l ↦ rw (more-old old (kept g) i l) (old-fit.listed i l)
              | no l ↦ let e : i ≡ length old = omega arith in rw (e, more-new old (kept g)) (kept-listed g given ok.listed)
            ];
        different = λ i j l h e.
            let a : i < length old = omega arith in
            elim (dec_lt j (length old)) as (λ _. ⊥) [
              | yes b ↦ old-fit.different i j l b (rw (more-old old (kept g) i a, more-old old (kept g) j b) at e)
              | no b ↦ let q : j ≡ length old = omega arith in fresh i a (rw (q, more-new old (kept g), more-old old (kept g) i a) at e)
            ];
        count = omega (arith, ok.count, contents-length f s);
        stream = rw (more-back old (kept g)) (omega (arith, length-append (back_to_back old) g.answer, reads.total, ok.stream));
      }

  abbrev rest : List ℕ
  rest = drop (length (store_of f new)) s

  is : after ≡ store_of f new ++ rest
  unfolding front
  is = append-out f sized g s formed taken

  pub append-unbroken : store_number f after ≡ 0
  append-unbroken = rw is (written-unbroken f sized new rest new-fit)

  pub append-contents : contents f after ≡ new
  append-contents = rw is (written-contents f sized new rest new-fit)

  pub append-form : OfForm f after
  append-form =
      rw is (written-form f new rest (rw (← formed.marked) (bytes-part 0 (length f.mark) s formed.bytes))
      (bytes_drop (length (store_of f new)) s formed.bytes) new-fit)

  pub append-found : Found f g after
  append-found =
      found_at f after append-unbroken new append-contents new-fit (length old) (omega (arith, more-length old (kept g))) g (more-new old (kept g))

  module _ (name : AnswerName) (other : rounded name ≡ rounded (name_for g) → ⊥) where
    other-kept : rounded name ≡ name_for (kept g) → ⊥
    other-kept e = other (e ∙ kept-name g)

    pub others-number : lookup_number f name after ≡ lookup_number f name s
    others-number =
        lookup-is f after append-unbroken name
        ∙ rw (append-contents, others-among old (kept g) (rounded name) other-kept) (sym (lookup-is f s ok.unbroken name))

    pub others-part : lookup_part f name after ≡ lookup_part f name s
    others-part =
        lookup-bytes f after append-unbroken name
        ∙ ap (answer_named (rounded name)) append-contents
        ∙ others-answer old (kept g) (rounded name) other-kept
        ∙ sym (lookup-bytes f s ok.unbroken name)

  pub append-stream : stream_part f after ≡ stream_part f s ++ g.answer
  append-stream =
      stream-is f after append-unbroken
      ∙ ap back_to_back append-contents
      ∙ more-back old (kept g)
      ∙ ap (λ (x : List ℕ). x ++ g.answer) (sym (stream-is f s ok.unbroken))

  pub appended : Appended f g s after
  appended =
      record {
        unbroken = append-unbroken;
        of_form = append-form;
        contents = append-contents;
        found = append-found;
        others_number = others-number;
        others_part = others-part;
        stream = append-stream;
      }

-- Any list of them

-- the answers that were there, and these behind them
record Left (f : Form) (gs : List Stored) (s r : List ℕ) : Type 0 where
  unbroken : store_number f r ≡ 0
  of_form : OfForm f r
  contents : contents f r ≡ contents f s ++ map kept gs

left : (f : Form) → Sized f → {gs : List Stored} {s r : List ℕ} → OfForm f s → store_number f s ≡ 0 → Appends f gs s r → Left f gs s r
left f sized {gs} {s} formed z none = record { unbroken = z; of_form = formed; contents = sym (append-nil (contents f s)) }
left f sized formed z (more {g} {gs} {s} {r} taken given rest) =
    let first = appended f sized g s formed given taken in
    let later = left f sized first.of_form first.unbroken rest in
    record {
      unbroken = later.unbroken;
      of_form = later.of_form;
      contents = later.contents ∙ rw first.contents (append_assoc (contents f s) (kept g ∷ []) (map kept gs));
    }

pub appends : (f : Form) → Sized f → (gs : List Stored) (s r : List ℕ) → OfForm f s → store_number f s ≡ 0 → Appends f gs s r → ReadsBack f gs s r
appends f sized gs s r formed z all =
    let old : List Stored = contents f s in
    let l : Left f gs s r = left f sized formed z all in
    let news : List Stored = map kept gs in
    let fit : Holdable f (old ++ news) = rw l.contents at (contents-holdable f r l.unbroken l.of_form.bytes) in
    record {
      unbroken = l.unbroken;
      of_form = l.of_form;
      contents = l.contents;
      lookups = λ i h.
          found_at f r l.unbroken (old ++ news) l.contents fit (length old + i) (omega (arith, length-append old news, length-map gs kept))
          (get_or gs i nothing) (get_or-append-add old news i nothing ∙ kept_at gs i);
      stream = stream-is f r l.unbroken ∙ ap back_to_back l.contents ∙ back-append old news
          ∙ rw (back-kept gs) (ap (λ (x : List ℕ). x ++ back_to_back gs) (sym (stream-is f s z)));
    }

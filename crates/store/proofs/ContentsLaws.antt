-- A store that reads as a list that it may hold is unbroken and has that list as its contents; an unbroken store reads as its contents.
use Prim.Native.Nat.{ℕ, zero, suc, ◌+◌, ◌<◌, ◌≤◌}
use mathlib.Core.Bool.{true, false, not}
use mathlib.Core.List.{List, [], ◌∷◌, ◌++◌, append-nil}
use mathlib.Core.Path.{◌≡◌, refl, sym, ap, ◌∙◌}
use native.Mathlib.Omega.{arith}
use native.Mathlib.Nat.{add-zero}
use lib.ListN.{length, get_or, take, length-append}
use lib.Seq.{take-suc, take_all, take-add}
use borrow.Author.Tests.{eq-eqb}
use Rattle.octets.specs.Buffer.{Bytes, part_at}
use Rattle.octets.specs.Search.{none_of}
use Rattle.octets.proofs.Tests.{and_both}
use Rattle.octets.proofs.BufferLaws.{length_part}
use Rattle.fields.proofs.NumberLaws.{number_fits}
use Rattle.octets.proofs.PartLaws.{part_in, byte-in, bytes-part}
use Rattle.octets.proofs.SearchLaws.{none-built}
use Rattle.octets.proofs.ValueLaws.{same-values, length-values, value-at, values_of}
use Rattle.catalog.specs.declared.AnswerName.{AnswerName}
use Rattle.catalog.proofs.NameLaws.{allowed}
use Rattle.catalog.proofs.DayLaws.{stored-allowed}
use Rattle.store.specs.Layout.{Form, answers, stream_length, stream_start, stream_of, entry_start, entry_offset, entry_length, answer_start, answer_at, name_at}
use Rattle.store.specs.Check.{filled_to, place_right, places_right, answer_right, answers_right, repeats, names_differ, store_number}
use Rattle.store.specs.Read.{position}
use Rattle.store.specs.Contents.{Stored, name_for, nothing, back_to_back, offset_of, stored_at, contents, Listed, Holdable}
use Rattle.store.proofs.AnswerLaws.{answer-long, answer-begun, answer-allowed, answer-named}
use Rattle.store.proofs.FactLaws.{placed-passes, new-passes}
use Rattle.store.proofs.StoreLaws.{unbroken, unbroken-zero, held, places-fill, answer-length, position-of}
use Rattle.store.proofs.WrittenLaws.{Reads, back-append, answer-inside, answer-part}

-- one answer further in a list
pub offset-next : (gs : List Stored) (i : ℕ) → i < length gs → offset_of (suc i) gs ≡ offset_of i gs + length (get_or gs i nothing).answer
unfolding back_to_back
offset-next gs i h =
    let g : Stored = get_or gs i nothing in
    ap (λ (x : List Stored). length (back_to_back x)) (take-suc gs i nothing h)
    ∙ ap length (back-append (take i gs) (g ∷ []) ∙ ap (λ (x : List ℕ). back_to_back (take i gs) ++ x) (append-nil g.answer))
    ∙ length-append (back_to_back (take i gs)) g.answer

offset-none : (gs : List Stored) → offset_of 0 gs ≡ 0
unfolding back_to_back
offset-none gs = refl

pub offset-all : (gs : List Stored) → offset_of (length gs) gs ≡ length (back_to_back gs)
offset-all gs = ap (λ (x : List Stored). length (back_to_back x)) (take_all (length gs) gs (omega arith))

-- From the list to the store

module _ (f : Form) (gs : List Stored) (s : List ℕ) (fit : Holdable f gs) (reads : Reads f gs s) where
  module _ (i : ℕ) (h : i < length gs) where
    abbrev g : Stored
    g = get_or gs i nothing

    long : 2 ≤ length g.answer
    long = answer-long g.answer g.day (fit.listed i h).number

    pub answer-read : answer_at f i s ≡ g.answer
    unfolding answer_at
    answer-read =
        let o : ℕ = offset_of i gs in
        let m : ℕ = length g.answer in
        let inside : o + m ≤ stream_length f s = omega (arith, answer-inside gs i h, reads.total) in
        rw (reads.offsets i h, reads.lengths i h)
        (part_in (stream_start f s) (stream_length f s) o m s inside reads.within
        ∙ ap (part_at o m) reads.stream
        ∙ answer-part gs i h)

    byte-read : (k : ℕ) → k < 2 → get_or s (answer_start f i s + k) 0 ≡ get_or g.answer k 0
    unfolding answer_at
    byte-read k l =
        byte-in (answer_start f i s) (entry_length f i s) k s (omega (arith, reads.lengths i h, long)) ∙ ap (λ (x : List ℕ). get_or x k 0) answer-read

    pub name-read : name_at f i s ≡ name_for g
    unfolding name_at
    name-read =
        let t = byte-read 1 (omega arith) in
        let d = reads.days i h in
        rw (t, d)

    pub stored-read : stored_at f i s ≡ g
    stored-read =
        let a = answer-read in
        let d = reads.days i h in
        rw (a, d)

    right : answer_right f i s ≡ true
    unfolding answer_right
    right =
        let b : get_or s (answer_start f i s) 0 ≡ 0x76 =
        ap (λ (k : ℕ). get_or s k 0) (sym (add-zero (answer_start f i s))) ∙ byte-read 0 (omega arith)
        ∙ answer-begun g.answer g.day (fit.listed i h).number in
        let l = (allowed (name_for g) (answer-allowed g.answer g.day (fit.listed i h).number)).0 in
        rw (b, name-read, l, (fit.listed i h).day)

  filled : (i : ℕ) → i ≤ length gs → filled_to f i s ≡ offset_of i gs
  unfolding filled_to
  filled zero h = sym (offset-none gs)
  filled (suc i) h = omega (arith, filled i (omega arith), reads.lengths i (omega arith), offset-next gs i (omega arith))

  placed : (i : ℕ) → i < length gs → place_right f i s ≡ true
  placed i h =
      let e = filled i (omega arith) in
      let l = reads.lengths i h in
      placed-passes f s i
      (record {
        offset = reads.offsets i h ∙ sym e;
        long = omega (arith, long i h);
        inside = omega (arith, answer-inside gs i h, reads.total);
      })

  differs : (i : ℕ) → i < length gs → repeats f i s ≡ false
  differs i h = new-passes f s i (λ j l e. fit.different j i l h (rw (name-read j (omega arith), name-read i h) at e))

  -- it is unbroken
  pub reads-unbroken : store_number f s ≡ 0
  unfolding places_right answers_right names_differ
  reads-unbroken =
      let c = reads.count in
      let full : filled_to f (answers f s) s ≡ stream_length f s = rw c (filled (length gs) (omega arith) ∙ offset-all gs ∙ sym reads.total) in
      unbroken-zero f s record {
        header = reads.header;
        within = reads.within;
        count = omega (arith, fit.count);
        stream = omega (arith, fit.stream, reads.total);
        places = and_both (none_of (λ j. not (place_right f j s)) (answers f s)) _
            (none-built (λ j. not (place_right f j s)) (answers f s) (λ j l. rw (placed j (omega arith))))
            (eq-eqb (filled_to f (answers f s) s) (stream_length f s) full);
        right = none-built (λ j. not (answer_right f j s)) (answers f s) (λ j l. rw (right j (omega arith)));
        differ = none-built (λ j. repeats f j s) (answers f s) (λ j l. differs j (omega arith));
      }

  -- and holds just these answers
  pub reads-contents : contents f s ≡ gs
  unfolding contents
  reads-contents =
      rw reads.count
      (same-values (length gs) (λ i. stored_at f i s) (λ i. get_or gs i nothing) stored-read ∙ values_of gs nothing)

-- From the store to the list

module _ (f : Form) (s : List ℕ) where
  pub contents-length : length (contents f s) ≡ answers f s
  unfolding contents
  contents-length = length-values (answers f s) (λ i. stored_at f i s)

  pub contents-at : (i : ℕ) → i < answers f s → get_or (contents f s) i nothing ≡ stored_at f i s
  unfolding contents
  contents-at i h = value-at (answers f s) (λ j. stored_at f j s) i nothing h

module _ (f : Form) (s : List ℕ) (z : store_number f s ≡ 0) where
  abbrev gs : List Stored
  gs = contents f s

  abbrev n : ℕ
  n = answers f s

  in_list : (i : ℕ) → i < length gs → i < n
  in_list i h = omega (arith, contents-length f s)

  length_at : (i : ℕ) → i < n → length (get_or gs i nothing).answer ≡ entry_length f i s
  length_at i h = rw (contents-at f s i h) (answer-length f s z i h)

  filled_at : (i : ℕ) → i ≤ n → filled_to f i s ≡ offset_of i gs
  unfolding filled_to
  filled_at zero h = sym (offset-none gs)
  filled_at (suc i) h =
      omega (arith, filled_at i (omega arith), length_at i (omega arith), offset-next gs i (omega (arith, contents-length f s)))

  offset_at : (i : ℕ) → i < n → entry_offset f i s ≡ offset_of i gs
  offset_at i h = (held f s z i h).placed ∙ filled_at i (omega arith)

  all-filled : stream_length f s ≡ length (back_to_back gs)
  all-filled =
      sym (places-fill f s (unbroken f s z).places) ∙ filled_at n (omega arith) ∙ rw (← contents-length f s) (offset-all gs)

  -- the first answers, back to back
  stream-to : (i : ℕ) → i ≤ n → take (offset_of i gs) (stream_of f s) ≡ back_to_back (take i gs)
  unfolding back_to_back answer_at
  stream-to zero h = refl
  stream-to (suc i) h =
      let l : i < length gs = omega (arith, contents-length f s) in
      let g : Stored = get_or gs i nothing in
      let o : ℕ = offset_of i gs in
      let m : ℕ = entry_length f i s in
      let inside : o + m ≤ stream_length f s = omega (arith, (held f s z i (omega arith)).inside, offset_at i (omega arith)) in
      let here : part_at o m (stream_of f s) ≡ g.answer =
      sym (part_in (stream_start f s) (stream_length f s) o m s inside (unbroken f s z).within)
      ∙ rw (contents-at f s i (omega arith), ← offset_at i (omega arith)) in
      rw (offset-next gs i l, length_at i (omega arith), take-add o m (stream_of f s), stream-to i (omega arith), here, take-suc gs i nothing l)
      (sym (back-append (take i gs) (g ∷ []) ∙ ap (λ (x : List ℕ). back_to_back (take i gs) ++ x) (append-nil g.answer)))

  streamed : stream_of f s ≡ back_to_back gs
  streamed =
      let l : length (stream_of f s) ≡ stream_length f s = length_part s (stream_start f s) (stream_length f s) (unbroken f s z).within in
      let e : offset_of n gs ≡ stream_length f s = rw (← contents-length f s) (offset-all gs) ∙ sym all-filled in
      sym (take_all (offset_of n gs) (stream_of f s) (omega arith))
      ∙ stream-to n (omega arith)
      ∙ ap back_to_back (take_all n gs (omega (arith, contents-length f s)))

  pub contents-reads : Reads f (contents f s) s
  contents-reads =
      record {
        header = (unbroken f s z).header;
        within = (unbroken f s z).within;
        count = sym (contents-length f s);
        total = all-filled;
        stream = streamed;
        days = λ i h. rw (contents-at f s i (in_list i h));
        offsets = λ i h. offset_at i (in_list i h);
        lengths = λ i h. sym (length_at i (in_list i h));
      }

  pub stored-name : (i : ℕ) → i < n → name_at f i s ≡ name_for (stored_at f i s)
  unfolding name_at answer_at
  stored-name i h =
      let t = byte-in (answer_start f i s) (entry_length f i s) 1 s (omega (arith, (held f s z i h).long)) in
      rw t

  -- of bytes, it may hold them
  module _ (bytes : Bytes s) where
    stored-listed : (i : ℕ) → i < n → Listed (stored_at f i s)
    unfolding answer_at
    stored-listed i h =
        let k = held f s z i h in
        let l = answer-length f s z i h in
        let b : ℕ = answer_start f i s in
        let m : ℕ = entry_length f i s in
        let first : get_or (answer_at f i s) 0 0 ≡ 0x76 = sym (byte-in b m 0 s (omega (arith, k.long))) ∙ ap (λ (j : ℕ). get_or s j 0) (add-zero b) ∙ k.begins in
        record {
          in_bytes = record { bytes = bytes-part b m s bytes; day = number_fits 4 (entry_start f i) s bytes };
          number = sym (answer-named (answer_at f i s) (stored_at f i s).day 0 (omega (arith, k.long)) first
              (rw (← stored-name i h) (sym (stored-allowed (name_at f i s) k.listed k.day))));
          day = rw (← stored-name i h) k.day;
        }

    differ : (i j : ℕ) → i < j → j < length gs → name_for (get_or gs i nothing) ≡ name_for (get_or gs j nothing) → ⊥
    differ i j l h e =
        let a : i < n = omega (arith, in_list j h) in
        let b : j < n = in_list j h in
        let p : name_for (stored_at f i s) ≡ name_for (stored_at f j s) = rw (contents-at f s i a, contents-at f s j b) at e in
        let q : name_at f i s ≡ name_at f j s = stored-name i a ∙ p ∙ sym (stored-name j b) in
        let r : i ≡ j = sym (position-of f s z i a) ∙ ap (λ (name : AnswerName). position f name s) q ∙ position-of f s z j b in
        omega arith

    pub contents-holdable : Holdable f (contents f s)
    contents-holdable =
        record {
          listed = λ i h. rw (contents-at f s i (in_list i h)) (stored-listed i (in_list i h));
          different = differ;
          count = omega (arith, contents-length f s, (unbroken f s z).count);
          stream = omega (arith, all-filled, (unbroken f s z).stream);
        }

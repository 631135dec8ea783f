-- What each check says of the store, and what it takes to pass or to fail it.
use Prim.Native.Nat.{ℕ, ◌+◌, ◌<◌}
use mathlib.Core.Bool.{Bool, true, false, ◌&&◌}
use mathlib.Core.List.{List}
use mathlib.Core.Logic.{◌⊎◌, inl, inr}
use mathlib.Core.Path.{◌≡◌, refl, sym, ◌∙◌}
use native.Mathlib.Omega.{arith}
use lib.Dec.{eqb, leb}
use lib.ListN.{length, get_or}
use borrow.Author.Tests.{lt-ltb, le-leb, lt-leb, eq-eqb, ne_eqb, ltb-true, ltb-false, leb-true, leb-false, eqb-true, eqb-false, not-true}
use Rattle.octets.specs.Search.{first_of}
use Rattle.octets.proofs.Tests.{never, and_left, and_right, and-false}
use Rattle.octets.proofs.SearchLaws.{first_holds, first-before, first-least, none-built}
use Rattle.catalog.specs.Table.{listed}
use Rattle.catalog.specs.Name.{day_stored, same_answer}
use Rattle.catalog.proofs.NameLaws.{same_self, same-is, same_not}
use Rattle.store.specs.Layout.{Form, header_size, answers, stream_length, store_length, entry_offset, entry_length, answer_start, name_at}
use Rattle.store.specs.Check.{header_fits, counts_fit, filled_to, place_right, answer_right, repeats}
use Rattle.store.specs.Faults.{Whole, WithinBounds, Placed, Misplaced, gap, short, past, Begun, Misbegun, not_first, not_trep, not_day, New, Repeated}

module _ (f : Form) (s : List ℕ) where
  -- Header and counts

  pub whole_is : header_fits f s ≡ true → Whole f s
  unfolding header_fits
  whole_is h =
      record {
        header = leb-true _ _ (and_left (leb (header_size f) (length s)) _ h);
        store = leb-true _ _ (and_right (leb (header_size f) (length s)) _ h);
      }

  pub whole-passes : Whole f s → header_fits f s ≡ true
  unfolding header_fits
  whole-passes w = rw (le-leb (header_size f) (length s) w.header, le-leb (store_length f s) (length s) w.store)

  pub bounded-is : header_fits f s ≡ true → counts_fit f s ≡ true → WithinBounds f s
  unfolding counts_fit
  bounded-is h c =
      record {
        whole = whole_is h;
        count = leb-true _ _ (and_left (leb (answers f s) f.answers_most) _ c);
        stream = leb-true _ _ (and_right (leb (answers f s) f.answers_most) _ c);
      }

  pub bounded-passes : WithinBounds f s → counts_fit f s ≡ true
  unfolding counts_fit
  bounded-passes b = rw (le-leb (answers f s) f.answers_most b.count, le-leb (stream_length f s) f.stream_most b.stream)

  pub over-is : counts_fit f s ≡ false → (f.answers_most < answers f s) ⊎ (f.stream_most < stream_length f s)
  unfolding counts_fit
  over-is = go (leb (answers f s) f.answers_most) refl
    where
      go : (b : Bool) → leb (answers f s) f.answers_most ≡ b → (b && leb (stream_length f s) f.stream_most) ≡ false
          → (f.answers_most < answers f s) ⊎ (f.stream_most < stream_length f s)
      go true e h = inr (leb-false _ _ h)
      go false e h = inl (leb-false _ _ e)

  pub over-fails : (f.answers_most < answers f s) ⊎ (f.stream_most < stream_length f s) → counts_fit f s ≡ false
  unfolding counts_fit
  over-fails (inl h) = rw (lt-leb (answers f s) f.answers_most h)
  over-fails (inr h) = and-false (leb (answers f s) f.answers_most) _ (lt-leb (stream_length f s) f.stream_most h)

  -- One entry

  module _ (i : ℕ) where
    pub placed-is : place_right f i s ≡ true → Placed f i s
    unfolding place_right
    placed-is h =
        let q = and_right (eqb (entry_offset f i s) (filled_to f i s)) _ h in
        record {
          offset = eqb-true _ _ (and_left (eqb (entry_offset f i s) (filled_to f i s)) _ h);
          long = leb-true _ _ (and_left (leb 2 (entry_length f i s)) _ q);
          inside = leb-true _ _ (and_right (leb 2 (entry_length f i s)) _ q);
        }

    pub placed-passes : Placed f i s → place_right f i s ≡ true
    unfolding place_right
    placed-passes p =
        rw (
          eq-eqb (entry_offset f i s) (filled_to f i s) p.offset,
          le-leb 2 (entry_length f i s) p.long,
          le-leb (filled_to f i s + entry_length f i s) (stream_length f s) p.inside,
        )

    pub misplaced-is : place_right f i s ≡ false → Misplaced f i s
    unfolding place_right
    misplaced-is = go (eqb (entry_offset f i s) (filled_to f i s)) (leb 2 (entry_length f i s)) refl refl
      where
        go : (o l : Bool) → eqb (entry_offset f i s) (filled_to f i s) ≡ o → leb 2 (entry_length f i s) ≡ l
            → (o && (l && leb (filled_to f i s + entry_length f i s) (stream_length f s))) ≡ false → Misplaced f i s
        go false l eo el h = gap (eqb-false _ _ eo)
        go true false eo el h = short (leb-false _ _ el)
        go true true eo el h = past (leb-false _ _ h)

    pub misplaced-fails : Misplaced f i s → place_right f i s ≡ false
    unfolding place_right
    misplaced-fails (gap h) = rw (ne_eqb (entry_offset f i s) (filled_to f i s) h)
    misplaced-fails (short h) = and-false (eqb (entry_offset f i s) (filled_to f i s)) _ (rw (lt-leb 2 (entry_length f i s) h))
    misplaced-fails (past h) =
        and-false (eqb (entry_offset f i s) (filled_to f i s)) _
        (and-false (leb 2 (entry_length f i s)) _ (lt-leb (filled_to f i s + entry_length f i s) (stream_length f s) h))

    -- One answer

    pub begun-is : answer_right f i s ≡ true → Begun f i s
    unfolding answer_right
    begun-is h =
        let a = and_right (eqb (get_or s (answer_start f i s) 0) 0x76) _ h in
        record {
          first = eqb-true _ _ (and_left (eqb (get_or s (answer_start f i s) 0) 0x76) _ h);
          trep = and_left (listed (name_at f i s).trep) _ a;
          day = and_right (listed (name_at f i s).trep) _ a;
        }

    pub begun-passes : Begun f i s → answer_right f i s ≡ true
    unfolding answer_right
    begun-passes b = rw (eq-eqb (get_or s (answer_start f i s) 0) 0x76 b.first, b.trep, b.day)

    pub misbegun-is : answer_right f i s ≡ false → Misbegun f i s
    unfolding answer_right
    misbegun-is = go (eqb (get_or s (answer_start f i s) 0) 0x76) (listed (name_at f i s).trep) refl refl
      where
        go : (b t : Bool) → eqb (get_or s (answer_start f i s) 0) 0x76 ≡ b → listed (name_at f i s).trep ≡ t
            → (b && (t && day_stored (name_at f i s))) ≡ false → Misbegun f i s
        go false t eb et h = not_first (eqb-false _ _ eb)
        go true false eb et h = not_trep et
        go true true eb et h = not_day h

    pub misbegun-fails : Misbegun f i s → answer_right f i s ≡ false
    unfolding answer_right
    misbegun-fails (not_first h) = rw (ne_eqb (get_or s (answer_start f i s) 0) 0x76 h)
    misbegun-fails (not_trep h) = and-false (eqb (get_or s (answer_start f i s) 0) 0x76) _ (rw h)
    misbegun-fails (not_day h) = and-false (eqb (get_or s (answer_start f i s) 0) 0x76) _ (and-false (listed (name_at f i s).trep) _ h)

    -- One name

    pub new_is : repeats f i s ≡ false → New f i s
    unfolding repeats
    new_is h j l e =
        let z : false ≡ true =
        sym (first-before (λ k. same_answer (name_at f k s) (name_at f i s)) i j (omega (arith, ltb-false _ i h)))
        ∙ rw e (same_self (name_at f i s)) in
        never (cc)

    pub new-passes : New f i s → repeats f i s ≡ false
    unfolding repeats
    new-passes n = not-true _ (none-built (λ j. same_answer (name_at f j s) (name_at f i s)) i (λ j l. same_not _ _ (n j l)))

    pub repeated-is : repeats f i s ≡ true → Repeated f i s
    unfolding repeats
    repeated-is h =
        let l = ltb-true _ _ h in
        record {
          earlier = first_of (λ j. same_answer (name_at f j s) (name_at f i s)) i;
          below = l;
          same = same-is _ _ (first_holds (λ j. same_answer (name_at f j s) (name_at f i s)) i l);
        }

    pub repeated-fails : Repeated f i s → repeats f i s ≡ true
    unfolding repeats
    repeated-fails r =
        lt-ltb _ i
        (omega (arith, r.below, first-least (λ j. same_answer (name_at f j s) (name_at f i s)) i r.earlier (rw r.same (same_self (name_at f i s)))))

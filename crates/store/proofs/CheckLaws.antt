-- The five checks and the fault, from the tests of the code.
use Prim.Native.Nat.{ℕ, ◌+◌, ◌*◌, ◌-◌, ◌<◌, ◌≤◌}
use mathlib.Core.Bool.{Bool, true, false, not, ◌&&◌}
use mathlib.Core.List.{List, [], ◌∷◌}
use mathlib.Core.Path.{◌≡◌, refl, sym, ap, ◌∙◌}
use native.Mathlib.Omega.{arith}
use native.Mathlib.Decide.{dec_lt}
use native.Mathlib.Numerals.{add-one}
use lib.Dec.{leb}
use lib.ListN.{length, get_or}
use borrow.Author.Tests.{lt-ltb, le-ltb, le-leb, lt-leb, eq-eqb, ne_eqb}
use Rattle.fields.specs.BigEndian.{number_of}
use Rattle.octets.specs.Order.{unless}
use Rattle.octets.specs.Search.{first_from, first_of}
use Rattle.octets.proofs.SearchLaws.{search-hit, search-end, none-hit, none_end}
use Rattle.fields.proofs.NumberLaws.{read-two, read-four}
use Rattle.catalog.specs.Table.{listed}
use Rattle.catalog.specs.Name.{day_stored, same_answer}
use Rattle.catalog.specs.declared.AnswerName.{AnswerName}
use Rattle.catalog.proofs.NameLaws.{other-day}
use Rattle.store.specs.declared.Fault.{Fault}
use Rattle.store.specs.Layout.{Form, header_size, entry_size, entry_start, answers, stream_length, stream_start, entry_day, entry_offset}
use Rattle.store.specs.Layout.{entry_length, answer_start, name_at}
use Rattle.store.specs.Check.{header_fits, counts_fit, filled_to, place_right, places_right, answer_right, answers_right, repeats, names_differ}
use Rattle.store.specs.Check.{fault_at, no_fault, count_read, misplaced_at, wrong_at, repeat_at, store_fault, store_number}
use Rattle.store.proofs.FormLaws.{entry-size, entry-below}
use Rattle.store.proofs.FactLaws.{whole_is, placed-is, new-passes}
use Rattle.store.proofs.NumberLaws.{first-13, first-14, first-15, first-16, first-17, first-0, past-13}

-- the fields of an entry that lies in the buffer, from its bytes; at is where it starts
module _ (f : Form) (s : List ℕ) (i r at : ℕ) (h : entry_start f i + entry_size f ≤ length s) (e : at ≡ entry_start f i) where
  pub day-read : r ≡ number_of (get_or s at 0 ∷ get_or s (at + 1) 0 ∷ get_or s (at + 2) 0 ∷ get_or s (at + 3) 0 ∷ []) → r ≡ entry_day f i s
  day-read q = rw (← e) (read-four at s r 4 (omega (arith, entry-size f)) (omega (arith, entry-size f)) refl q)

  module _ (two : f.width ≡ 2) where
    pub offset_read : r ≡ number_of (get_or s (at + 4) 0 ∷ get_or s (at + 4 + 1) 0 ∷ []) → r ≡ entry_offset f i s
    offset_read q = rw (← e) (read-two (at + 4) s r f.width (omega (arith, entry-size f)) (omega (arith, entry-size f)) two q)

    pub length-read : r ≡ number_of (get_or s (at + 4 + 2) 0 ∷ get_or s (at + 4 + 2 + 1) 0 ∷ []) → r ≡ entry_length f i s
    length-read q =
        let p : entry_start f i + 4 + f.width ≡ at + 4 + 2 = omega arith in
        rw p (read-two (at + 4 + 2) s r f.width (omega (arith, entry-size f)) (omega (arith, entry-size f)) two q)

-- which entries lie in it
module _ (f : Form) (s : List ℕ) where
  pub header-start : header_fits f s ≡ true → stream_start f s ≤ length s
  header-start h = omega (arith, (whole_is f s h).store)

  pub checked-start : store_number f s ≡ 0 → stream_start f s ≤ length s
  checked-start z = header-start (past-13 f s 0 z refl).first

  pub whole-start : (r : ℕ) → r ≡ store_number f s → r ≡ 0 → stream_start f s ≤ length s
  whole-start r e z = checked-start (sym e ∙ z)

  pub entry_in : (i : ℕ) → i < answers f s → stream_start f s ≤ length s → entry_start f i + entry_size f ≤ length s
  entry_in i h l = omega (arith, entry-below f i (answers f s) h)

-- a name from its two parts
module _ (f : Form) (s : List ℕ) (i : ℕ) where
  pub name-is : (start trep day : ℕ) → start ≡ answer_start f i s → trep ≡ get_or s (start + 1) 0 → day ≡ entry_day f i s
      → ◌≡◌ {A = AnswerName} (record { trep = trep; day = day }) (name_at f i s)
  unfolding name_at
  name-is start trep day e t d = rw (t, d, e)

  -- a name is compared by its day, then whole
  pub other-by-day : (day : ℕ) (name : AnswerName) → day ≡ entry_day f i s → (day ≡ name.day → ⊥) → false ≡ same_answer (name_at f i s) name
  unfolding name_at
  other-by-day day name d h = sym (other-day (name_at f i s) name (rw d at h))

  pub same-by-name : (name other : AnswerName) (r : Bool) → other ≡ name_at f i s → r ≡ same_answer other name → r ≡ same_answer (name_at f i s) name
  same-by-name name other r e q = rw (← e) q

-- Header and counts; b, t and n are what the code read

module _ (f : Form) (s : List ℕ) where
  pub header-short : (h : ℕ) → h ≡ header_size f → length s < h → false ≡ header_fits f s
  unfolding header_fits
  header-short h e l = rw (← e, lt-leb h (length s) l)

  pub header_is : (h b t : ℕ) → h ≡ header_size f → h ≤ length s → b ≡ stream_start f s → t ≡ stream_length f s → leb (b + t) (length s) ≡ header_fits f s
  unfolding header_fits
  header_is h b t e l p q = rw (le-leb (header_size f) (length s) (omega arith), p, q)

  pub count-short : (h : ℕ) → h ≡ header_size f → length s < h → 0 ≡ count_read f s
  unfolding count_read
  count-short h e l = rw (← e, lt-leb h (length s) l)

  pub count-is : (h n : ℕ) → h ≡ header_size f → h ≤ length s → n ≡ answers f s → n ≡ count_read f s
  unfolding count_read
  count-is h n e l q = rw (← e, le-leb h (length s) l) q

  pub counts-many : (n : ℕ) → n ≡ answers f s → f.answers_most < n → false ≡ counts_fit f s
  unfolding counts_fit
  counts-many n p h = rw (← p, lt-leb n f.answers_most h)

  pub counts-is : (n t : ℕ) → n ≡ answers f s → t ≡ stream_length f s → n ≤ f.answers_most → leb t f.stream_most ≡ counts_fit f s
  unfolding counts_fit
  counts-is n t p q h = rw (← p, ← q, le-leb n f.answers_most h)

-- Places: the entries before i end at `end`

abbrev pub misplaced : Form → List ℕ → ℕ → Bool
misplaced f s i = not (place_right f i s)

module _ (f : Form) (s : List ℕ) where
  pub filled_none : 0 ≡ filled_to f 0 s
  unfolding filled_to
  filled_none = refl

  module _ (i end l : ℕ) (filled : end ≡ filled_to f i s) (len : l ≡ entry_length f i s) where
    pub filled_next : end + l ≡ filled_to f (i + 1) s
    unfolding filled_to
    filled_next = rw (filled, len, add-one i)

    -- an entry in its place ends within the stream
    pub next-within : place_right f i s ≡ true → end + l ≤ stream_length f s
    next-within h = omega (arith, (placed-is f s i h).inside)

    module _ (o : ℕ) (off : o ≡ entry_offset f i s) where
      pub place-gap : (o ≡ end → ⊥) → false ≡ place_right f i s
      unfolding place_right
      place-gap h = rw (← off, ← filled, ne_eqb o end h)

      module _ (here : o ≡ end) where
        pub place_short : l < 2 → false ≡ place_right f i s
        unfolding place_right
        place_short h = rw (← off, ← filled, ← len, eq-eqb o end here, lt-leb 2 l h)

        pub place_is : (t : ℕ) → t ≡ stream_length f s → 2 ≤ l → leb (end + l) t ≡ place_right f i s
        unfolding place_right
        place_is t stream long = rw (← off, ← filled, ← len, ← stream, eq-eqb o end here, le-leb 2 l long)

  -- an entry that is misplaced, or none and the stream filled or not
  module _ (n : ℕ) (p : n ≡ answers f s) where
    pub entry-wrong : (i : ℕ) → first_of (misplaced f s) n ≡ first_from (misplaced f s) (n - i) i → i < n → misplaced f s i ≡ true
        → ◌≡◌ {A = Fault} (record { number = 15; position = i }) (unless (places_right f s) (fault_at 15 (misplaced_at f s)) no_fault)
    unfolding places_right
    entry-wrong i whole more h = rw (← p, ← none-hit (misplaced f s) n i whole more h, search-hit (misplaced f s) n i whole more h)

    module _ (i end t : ℕ) (q : t ≡ stream_length f s) (l : i ≤ n) (h : n ≤ i) (filled : end ≡ filled_to f i s)
        (whole : first_of (misplaced f s) n ≡ first_from (misplaced f s) (n - i) i) where
      all : i ≡ n
      all = omega arith

      pub entries-end-short : (end ≡ t → ⊥)
          → ◌≡◌ {A = Fault} (record { number = 15; position = n }) (unless (places_right f s) (fault_at 15 (misplaced_at f s)) no_fault)
      unfolding places_right
      entries-end-short d =
          rw (← p, ← none_end (misplaced f s) n i whole h, ← q, ← all, ← filled, ne_eqb end t d, all, search-end (misplaced f s) n i whole h, all)

      pub entries-fill : end ≡ t → no_fault ≡ unless (places_right f s) (fault_at 15 (misplaced_at f s)) no_fault
      unfolding places_right
      entries-fill d = rw (← p, ← none_end (misplaced f s) n i whole h, ← q, ← all, ← filled, eq-eqb end t d)

-- One answer; b is its first byte, r whether an entry may have its name

module _ (f : Form) (s : List ℕ) (i start b : ℕ) (is-start : start ≡ answer_start f i s) (first : b ≡ get_or s start 0) where
  pub answer-other : (b ≡ 0x76 → ⊥) → false ≡ answer_right f i s
  unfolding answer_right
  answer-other h = rw (← is-start, ← first, ne_eqb b 0x76 h)

  pub answer-is : (name : AnswerName) (r : Bool) → b ≡ 0x76 → name ≡ name_at f i s → r ≡ (listed name.trep && day_stored name) → r ≡ answer_right f i s
  unfolding answer_right
  answer-is name r h e q = rw (← is-start, ← first, eq-eqb b 0x76 h, ← e) q

-- a test of the entry or of the answer, as the loop makes it: `if !f(..)`
pub tested : (r t b : Bool) → r ≡ t → not r ≡ b → not t ≡ b
tested r t b e h = rw e at h

-- Names: those before i rank below `above`, so that a name from there on is none of them

abbrev rank_of : AnswerName → ℕ
rank_of name = name.trep * 4294967296 + name.day

pub RankedBelow : Form → ℕ → ℕ → List ℕ → Type 0
RankedBelow f above i s = (j : ℕ) → j < i → rank_of (name_at f j s) < above

module _ (f : Form) (s : List ℕ) where
  pub ranked-none : (above : ℕ) → RankedBelow f above 0 s
  unfolding RankedBelow
  ranked-none above j h = absurd (omega arith)

  module _ (i above : ℕ) (name : AnswerName) (is : name ≡ name_at f i s) (ranked : RankedBelow f above i s) where
    -- the bound may grow with the name passed
    pub ranked-more : (next : ℕ) → above ≤ next → rank_of name < next → RankedBelow f next (i + 1) s
    unfolding RankedBelow
    ranked-more next l h j b =
        elim (dec_lt j i) as (λ _. rank_of (name_at f j s) < next) [
          | yes q ↦ omega (arith, ranked j q)
          | no q ↦ let e : j ≡ i = omega arith in rw (e, ← is) h
        ]

    pub new-above : (here : ℕ) → here ≡ rank_of name → above ≤ here → repeats f i s ≡ false
    unfolding RankedBelow
    new-above here e l =
        new-passes f s i (λ j h q. let z : rank_of (name_at f j s) ≡ rank_of name = rw (is, q) in omega (arith, ranked j h))

    -- a name that was looked for among them; p is where it was found first, i where nowhere
    module _ (p : ℕ) (found : p ≡ first_of (λ j. same_answer (name_at f j s) name) i) where
      pub repeats-earlier : p < i → repeats f i s ≡ true
      unfolding repeats
      repeats-earlier h = rw (← is, ← found) (lt-ltb p i h)

      pub new-here : i ≤ p → repeats f i s ≡ false
      unfolding repeats
      new-here h = rw (← is, ← found) (le-ltb p i h)

-- The fault: what each check gave, in order

module _ (f : Form) (s : List ℕ) where
  pub fault-short : (k : ℕ) → header_fits f s ≡ false → k ≡ count_read f s → ◌≡◌ {A = Fault} (record { number = 13; position = k }) (store_fault f s)
  fault-short k h e = rw e (sym (first-13 f s h))

  module _ (header : header_fits f s ≡ true) (n : ℕ) (p : n ≡ answers f s) where
    pub fault-bounds : counts_fit f s ≡ false → ◌≡◌ {A = Fault} (record { number = 14; position = n }) (store_fault f s)
    fault-bounds c = rw p (sym (first-14 f s header c))

    module _ (counts : counts_fit f s ≡ true) where
      -- the entries' check ended with r
      module _ (r : Fault) (e : r ≡ unless (places_right f s) (fault_at 15 (misplaced_at f s)) no_fault) where
        pub fault-entry : (r.number ≡ 0 → ⊥) → r ≡ store_fault f s
        fault-entry h = go (places_right f s) refl
          where
            go : (b : Bool) → places_right f s ≡ b → r ≡ store_fault f s
            go true q = let w : r.number ≡ 0 = rw (e, q) in absurd (h w)
            go false q = let w : r ≡ fault_at 15 (misplaced_at f s) = rw (e, q) in w ∙ sym (first-15 f s header counts q)

      -- it ended with no fault
      module _ (e : no_fault ≡ unless (places_right f s) (fault_at 15 (misplaced_at f s)) no_fault) where
        placed : places_right f s ≡ true
        placed = go (places_right f s) e
          where
            go : (b : Bool) → no_fault ≡ unless b (fault_at 15 (misplaced_at f s)) no_fault → b ≡ true
            go true q = refl
            go false q = let w : 0 ≡ 15 = ap (λ (t : Fault). t.number) q in absurd (omega (arith, w))

        module _ (wrong : ℕ) (w : wrong ≡ wrong_at f s) where
          pub fault-answer : wrong < n → ◌≡◌ {A = Fault} (record { number = 16; position = wrong }) (store_fault f s)
          unfolding answers_right
          fault-answer h = rw w (sym (first-16 f s header counts placed (rw (← w, ← p, lt-ltb wrong n h))))

          module _ (right : n ≤ wrong) where
            begun : answers_right f s ≡ true
            unfolding answers_right
            begun = rw (← w, ← p, le-ltb wrong n right)

            module _ (repeat : ℕ) (d : repeat ≡ repeat_at f s) where
              pub fault-twice : repeat < n → ◌≡◌ {A = Fault} (record { number = 17; position = repeat }) (store_fault f s)
              unfolding names_differ
              fault-twice h = rw d (sym (first-17 f s header counts placed begun (rw (← d, ← p, lt-ltb repeat n h))))

              pub fault-none : n ≤ repeat → no_fault ≡ store_fault f s
              unfolding names_differ
              fault-none h = sym (first-0 f s header counts placed begun (rw (← d, ← p, le-ltb repeat n h)))

pub number-of-fault : (f : Form) (s : List ℕ) (r : Fault) → r ≡ store_fault f s → r.number ≡ store_number f s
unfolding store_number
number-of-fault f s r e = rw e

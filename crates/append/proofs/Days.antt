-- The claims of specs/Days.antt.
use Prim.Native.Nat.{ℕ, ◌+◌, ◌<◌}
use mathlib.Core.Bool.{true}
use mathlib.Core.List.{List}
use mathlib.Core.Logic.{◌≢◌}
use mathlib.Core.Path.{◌≡◌, refl, sym, ap, ◌∙◌}
use native.Mathlib.Omega.{arith}
use lib.ListN.{length, get_or}
use borrow.Author.Tests.{lt-ltb}
use Rattle.octets.specs.Buffer.{front}
use Rattle.octets.specs.Search.{first_from}
use Rattle.fields.specs.BigEndian.{number_at}
use Rattle.catalog.specs.Table.{listed, known_to, is_activities}
use Rattle.catalog.specs.Name.{day_of, first_second, WholeDay, day_named, name_number, day_stored, rounded, same_answer}
use Rattle.catalog.proofs.DayLaws.{rounded-activities, rounded-multiple, rounded-number, same-rounded, rounded-day}
use Rattle.store.specs.Layout.{Form, Sized, header_size, entry_size, entries_size, answers, name_at}
use Rattle.store.specs.Check.{header_fits, counts_fit, filled_to, place_right, places_right, answer_right, answers_right, repeats, names_differ}
use Rattle.store.specs.Check.{store_fault, store_number}
use Rattle.store.specs.Read.{lookup_number, lookup_place, held_number, held_answer}
use Rattle.store.specs.Answer.{name_of, answer_number}
use Rattle.store.specs.Contents.{Stored, name_for, kept, nothing, contents, InBytes, OfForm}
use Rattle.store.proofs.Days.{day-claims as store-days}
use Rattle.store.proofs.StoreLaws.{found}
use Rattle.store.proofs.ContentsLaws.{contents-length, contents-at, stored-name}
use Rattle.store.proofs.ListLaws.{more-length, more-new}
use Rattle.append.specs.Append.{room_number, append_number, with_answer, append_result, append_out}
use Rattle.append.specs.Claims.{Appended}
use Rattle.append.specs.Days.{append_number_before, append_out_before, KeptByDay, DayClaims, DayExamples}
use Rattle.append.proofs.KeptLaws.{kept-name}
use Rattle.append.proofs.Refusals.{already-held}
use Rattle.append.proofs.Theorems.{appended}

module _ (f : Form) (sized : Sized f) (a : List ℕ) (second : ℕ) (s : List ℕ) (formed : OfForm f s)
    (given : InBytes (record { answer = a; day = second })) (dated : is_activities (get_or a 1 0) ≡ true) (taken : append_number f a second s ≡ 0) where
  abbrev g : Stored
  g = record { answer = a; day = second }

  abbrev after : List ℕ
  after = append_out f a second s

  made : Appended f g s after
  made = appended f sized g s formed given taken

  -- one answer more, and its name
  count : answers f after ≡ answers f s + 1
  count =
      sym (contents-length f after) ∙ ap length made.contents ∙ more-length (contents f s) (kept g)
      ∙ ap (λ (n : ℕ). n + 1) (contents-length f s)

  entry : name_at f (answers f s) after ≡ name_of a (first_second second)
  entry =
      let l : answers f s < answers f after = omega (arith, count) in
      let last : get_or (contents f after) (answers f s) nothing ≡ kept g =
      rw (made.contents, ← contents-length f s) (more-new (contents f s) (kept g)) in
      stored-name f after made.unbroken (answers f s) l
      ∙ ap name_for (sym (contents-at f after (answers f s) l) ∙ last)
      ∙ kept-name g
      ∙ rounded-activities (name_for g) dated

  read : (held_answer f (answers f s) after).name ≡ name_of a (first_second second)
  unfolding held_answer held_number
  read = rw (made.unbroken, lt-ltb (answers f s) (answers f after) (omega (arith, count))) entry

  -- the names of the day's other seconds
  module _ (other : ℕ) where
    one : day_of other ≡ day_of second → rounded (name_of a other) ≡ rounded (name_of a second)
    one e = same-rounded (name_of a other) (name_of a second) dated refl e

    two : day_of other ≢ day_of second → rounded (name_of a other) ≢ rounded (name_of a second)
    two n e = n (rounded-day (name_of a other) (name_of a second) dated e).1

    again : (more : List ℕ) → get_or more 1 0 ≡ get_or a 1 0 → day_of other ≡ day_of second → answer_number more other ≡ 0 → append_number f more other after ≡ 7
    again more t e l =
        let name : name_of more other ≡ name_of a other = rw t in
        let held = found f (name_of more other) after (made.found.number (name_of more other) (ap rounded name ∙ one e)) in
        already-held f more other after (record { unbroken = made.unbroken; listed = l })
        (record { at = _; below = held.below; named = held.named })

  kept-by-day : KeptByDay f a second s after
  kept-by-day =
      record {
        unbroken = made.unbroken;
        count = count;
        entry = entry;
        read = read;
        found_number = λ other e. made.found.number (name_of a other) (one other e);
        found_part = λ other e. made.found.part (name_of a other) (one other e);
        others_number = λ other n. made.others_number (name_of a other) (two other n);
        others_part = λ other n. made.others_part (name_of a other) (two other n);
        again = λ more other. again other more;
      }

-- names that are kept as one, in any store
module _ (f : Form) (a : List ℕ) (second other : ℕ) (s : List ℕ) (e : rounded (name_of a second) ≡ rounded (name_of a other)) where
  alike-answer : answer_number a second ≡ answer_number a other
  unfolding answer_number
  alike-answer = rw (← rounded-number (name_of a second), ← rounded-number (name_of a other), e)

  alike-number : append_number f a second s ≡ append_number f a other s
  unfolding append_number
  alike-number = rw (alike-answer, e)

  alike-out : append_out f a second s ≡ append_out f a other s
  unfolding append_out
  alike-out = rw (alike-number, e)

-- a whole day
module _ (f : Form) (a : List ℕ) (day : ℕ) (s : List ℕ) (e : WholeDay day) where
  whole-number : append_number f a day s ≡ append_number_before f a day s
  unfolding append_number append_number_before
  whole-number = rw (rounded-multiple (name_of a day) e, (store-days f).whole_answer a day e)

  whole_out_lem : append_out f a day s ≡ append_out_before f a day s
  unfolding append_out append_out_before
  whole_out_lem = rw (whole-number, rounded-multiple (name_of a day) e)

pub day-claims : (f : Form) → Sized f → DayClaims f
day-claims f sized =
    record {
      append = kept-by-day f sized;
      alike_number = alike-number f;
      alike_out = alike-out f;
      whole_number = whole-number f;
      whole_out = whole_out_lem f;
    }

pub day-examples : DayExamples
unfolding append_result append_out append_number with_answer answer_number room_number store_fault store_number header_fits counts_fit filled_to place_right places_right
    answer_right answers_right repeats names_differ first_from header_size entry_size entries_size name_at number_at lookup_number lookup_place front listed known_to
    is_activities first_second day_named name_number day_stored rounded same_answer
day-examples = record { result = refl; store = refl; found = refl; before = refl; again = refl }

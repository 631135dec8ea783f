-- Document 01's own numbers: W12 appended to sixteen zero bytes, and the answer that fills the stream.
use Prim.Native.Nat.{ℕ, ◌+◌, ◌≤◌}
use mathlib.Core.List.{List, [], ◌∷◌}
use mathlib.Core.Logic.{inr}
use mathlib.Core.Path.{◌≡◌, refl, sym, ap, ◌∙◌}
use native.Mathlib.Omega.{arith}
use lib.ListN.{length, replicate, length-append}
use Rattle.fields.specs.BigEndian.{number_at}
use Rattle.octets.specs.Buffer.{front}
use Rattle.octets.specs.Search.{first_from}
use Rattle.catalog.specs.Table.{listed, known_to, is_activities}
use Rattle.catalog.specs.Name.{rounded, day_named, name_number}
use Rattle.catalog.specs.declared.AnswerName.{AnswerName}
use Rattle.store.specs.Layout.{narrow, header_size, entry_size, entries_size, answers, stream_length, store_length}
use Rattle.store.specs.Check.{store_fault, header_fits, counts_fit, filled_to, places_right, answers_right, names_differ, store_number}
use Rattle.store.specs.Answer.{answer_number}
use Rattle.store.specs.Contents.{Stored, kept, back_to_back, contents, InBytes, OfForm}
use Rattle.store.specs.Claims.{Missing}
use Rattle.store.proofs.FormLaws.{narrow-sized}
use Rattle.store.proofs.AnswerLaws.{answer-named}
use Rattle.store.proofs.StoreLaws.{unbroken, places-fill}
use Rattle.store.proofs.ContentsLaws.{contents-reads}
use Rattle.store.proofs.ListLaws.{more-back}
use Rattle.store.proofs.NarrowLaws.{w12_bytes}
use Rattle.append.specs.Append.{room_number, append_number, with_answer, append_out}
use Rattle.append.specs.Claims.{Fresh, Bounded, Fills}
use Rattle.append.proofs.Theorems.{appended}
use Rattle.append.proofs.Refusals.{append-taken, over-bound}

pub w12-taken : append_number narrow (0x76 ∷ 0x00 ∷ 0x02 ∷ 0x02 ∷ []) 0 (replicate 16 0) ≡ 0
unfolding append_number answer_number room_number store_number store_fault header_fits counts_fit places_right answers_right names_differ filled_to first_from header_size
    entry_size entries_size number_at name_number day_named listed known_to is_activities
w12-taken = refl

pub w12 : append_out narrow (0x76 ∷ 0x00 ∷ 0x02 ∷ 0x02 ∷ []) 0 (replicate 16 0) ≡ w12_bytes
unfolding append_out with_answer front header_size entry_size entries_size number_at rounded is_activities
w12 = rw w12-taken

-- The bound, for an answer of 76, TREP and data under a name that 12 allows

module _ (name : AnswerName) (d s : List ℕ) (allowed : name_number name ≡ 0) where
  abbrev a : List ℕ
  a = 0x76 ∷ name.trep ∷ d

  abbrev g : Stored
  g = record { answer = a; day = name.day }

  listed_answer : answer_number a name.day ≡ 0
  listed_answer = sym (answer-named a name.day 0 (omega arith) refl (sym allowed))

  -- without answers there is no stream
  empty-stream : store_number narrow s ≡ 0 → answers narrow s ≡ 0 → stream_length narrow s ≡ 0
  unfolding filled_to
  empty-stream z e = sym (rw e at (places-fill narrow s (unbroken narrow s z).places))

  -- "59,998 data bytes .. fill the stream"
  pub fills : length d ≡ 59998 → OfForm narrow s → store_number narrow s ≡ 0 → answers narrow s ≡ 0
      → store_length narrow s + entry_size narrow + 60000 ≤ length s → InBytes g → Fills a name.day s
  fills long formed z e room given =
      let t = empty-stream z e in
      let fresh : Fresh narrow a name.day s = record { judged = record { unbroken = z; listed = listed_answer }; missing = λ i l q. omega arith } in
      let bounded : Bounded narrow a name.day s = record { fresh = fresh; count = omega arith; stream = omega arith } in
      let taken = append-taken narrow a name.day s bounded (omega arith) in
      let made = appended narrow narrow-sized g s formed given taken in
      let reads = contents-reads narrow (append_out narrow a name.day s) made.unbroken in
      let was = contents-reads narrow s z in
      record {
        taken = taken;
        unbroken = made.unbroken;
        stream = reads.total ∙ ap (λ (x : List Stored). length (back_to_back x)) made.contents
            ∙ ap length (more-back (contents narrow s) (kept g))
            ∙ length-append (back_to_back (contents narrow s)) a
            ∙ omega (arith, was.total);
      }

  -- "one byte more is 8"
  pub one_more_lem : length d ≡ 59999 → store_number narrow s ≡ 0 → Missing narrow (rounded name) s → append_number narrow a name.day s ≡ 8
  one_more_lem long z m =
      over-bound narrow a name.day s (record { judged = record { unbroken = z; listed = listed_answer }; missing = m }) (inr (omega arith))

-- What the numbers of an append say, each way: an append that could be accepted is never refused.
use Prim.Native.Nat.{ℕ, ◌+◌, ◌<◌, ◌≤◌}
use mathlib.Core.Bool.{Bool, true, false, not}
use mathlib.Core.List.{List}
use mathlib.Core.Logic.{◌↔◌, ◌⊎◌, inl, inr, ⊎_elim}
use mathlib.Core.Path.{◌≡◌, refl, sym, ◌∙◌}
use native.Mathlib.Omega.{arith}
use lib.Dec.{eqb, leb}
use lib.ListN.{length}
use borrow.Author.Tests.{lt-ltb, le-ltb, le-leb, lt-leb, ne_eqb, ltb-true, ltb-false, leb-true, leb-false, eqb-false, not-true, not-false}
use Rattle.octets.specs.Order.{unless}
use Rattle.octets.proofs.OrderLaws.{Both, unless-is, unless-fails, or_is, or-first}
use Rattle.store.specs.Layout.{Form, entry_size, answers, stream_length, store_length}
use Rattle.store.specs.Check.{store_number}
use Rattle.store.specs.Read.{position, is_held}
use Rattle.catalog.specs.Name.{rounded}
use Rattle.store.specs.Answer.{name_of, answer_number}
use Rattle.store.specs.Faults.{IsFault}
use Rattle.store.specs.Claims.{Unlisted, HeldAs}
use Rattle.store.proofs.PositionLaws.{held-position, position-held, missing-position, position-missing}
use Rattle.store.proofs.StoreLaws.{store-not}
use Rattle.store.proofs.Refusals.{unless-before, fault-not, fault-first, answer-either, unlisted-number, number-unlisted}
use Rattle.append.specs.Append.{room_number, append_number}
use Rattle.append.specs.Claims.{Judged, Fresh, Bounded}
use Rattle.append.proofs.AppendLaws.{accepted}

module _ (f : Form) (a : List ℕ) (day : ℕ) (s : List ℕ) where
  -- the search ends at a held answer
  abbrev found : Bool
  found = is_held f (rounded (name_of a day)) s

  -- the store's number and that of the answer are 0 or at least 12
  store-small : (k : ℕ) → eqb 0 k ≡ false → k < 13 → store_number f s ≡ k → ⊥
  store-small k zero small = store-not f s k (λ z. eqb-false 0 k zero (sym z)) (λ q. omega (arith, q.0))

  answer-small : (k : ℕ) → eqb 0 k ≡ false → k < 12 → answer_number a day ≡ k → ⊥
  answer-small k zero small e = ⊎_elim (λ q. eqb-false 0 k zero (sym q ∙ e)) (λ q. omega arith) (answer-either a day)

  judged-is : (k : ℕ) → eqb 0 k ≡ false → k < 12 → append_number f a day s ≡ k
      → Both (Judged f a day s) (unless (not found) 7 (room_number f (length a) s) ≡ k)
  unfolding append_number
  judged-is k zero small e =
      let p = or_is (store_number f s) _ k (store-small k zero (omega arith)) e in
      let q = or_is (answer_number a day) _ k (answer-small k zero small) p.rest in
      record { first = record { unbroken = p.first; listed = q.first }; rest = q.rest }

  fresh-is : (k : ℕ) → eqb 0 k ≡ false → k < 12 → eqb 7 k ≡ false → append_number f a day s ≡ k
      → Both (Fresh f a day s) (room_number f (length a) s ≡ k)
  fresh-is k zero small seven e =
      let j = judged-is k zero small e in
      let t = unless-is (not found) 7 _ k seven j.rest in
      let l = ltb-false (position f (rounded (name_of a day)) s) (answers f s) (not-true _ t.first) in
      record { first = record { judged = j.first; missing = position-missing f (rounded (name_of a day)) s l }; rest = t.rest }

  room-is : Fresh f a day s → (k : ℕ) → room_number f (length a) s ≡ k → append_number f a day s ≡ k
  unfolding append_number
  room-is known k e =
      let none : found ≡ false = le-ltb _ _ (missing-position f (rounded (name_of a day)) s known.missing) in
      rw (known.judged.unbroken, known.judged.listed, none) e

  -- the room gives 8, 4 or 0
  room-not : (k : ℕ) → eqb 8 k ≡ false → eqb 4 k ≡ false → eqb 0 k ≡ false → room_number f (length a) s ≡ k → ⊥
  unfolding room_number
  room-not k eight four zero e =
      let n = unless-is (leb (answers f s + 1) f.answers_most) 8 _ k eight e in
      let t = unless-is (leb (stream_length f s + length a) f.stream_most) 8 _ k eight n.rest in
      eqb-false 0 k zero (unless-is (leb (store_length f s + entry_size f + length a) (length s)) 4 0 k four t.rest).rest

  -- what is behind 12 gives 7, 8, 4 or 0
  behind-not : (k : ℕ) → eqb 7 k ≡ false → eqb 8 k ≡ false → eqb 4 k ≡ false → eqb 0 k ≡ false
      → unless (not found) 7 (room_number f (length a) s) ≡ k → ⊥
  behind-not k seven eight four zero e = room-not k eight four zero (unless-is (not found) 7 _ k seven e).rest

  -- 13 to 17 exactly where the store's number is that
  pub append-fault : (k : ℕ) → IsFault k → (append_number f a day s ≡ k) ↔ (store_number f s ≡ k)
  unfolding append_number
  append-fault k q =
      let other : (j : ℕ) → j < 13 → eqb j k ≡ false = λ j l. ne_eqb j k (fault-not k j q l) in
      let small : (j : ℕ) → j < 13 → j ≡ k → ⊥ = λ j l. fault-not k j q l in
      fault-first f s _ k q
      (λ e. behind-not k (other 7 (omega arith)) (other 8 (omega arith)) (other 4 (omega arith)) (other 0 (omega arith))
      (or_is (answer_number a day) _ k
      (λ w. ⊎_elim (λ z. small 0 (omega arith) (sym z ∙ w)) (λ z. small 12 (omega arith) (sym z ∙ w)) (answer-either a day)) e).rest)

  -- 5 nowhere
  pub append-not-five : append_number f a day s ≡ 5 → ⊥
  append-not-five e = behind-not 5 refl refl refl refl (judged-is 5 refl (omega arith) e).rest

  -- 12 exactly where it is unbroken and the answer is not listed
  pub append-twelve : (append_number f a day s ≡ 12) ↔ ((store_number f s ≡ 0) × Unlisted a day)
  unfolding append_number
  append-twelve =
      let known = or-first (answer_number a day) _ 12 refl (behind-not 12 refl refl refl refl) in (
        (λ e. let p = or_is (store_number f s) _ 12 (store-small 12 refl (omega arith)) e in (p.first, number-unlisted a day (known.0 p.rest))),
        (λ u. rw u.0 (known.1 (unlisted-number a day u.1))),
      )

  -- 7 exactly where a held answer has that name
  pub already-held : Judged f a day s → HeldAs f (rounded (name_of a day)) s → append_number f a day s ≡ 7
  unfolding append_number
  already-held j h = rw (j.unbroken, j.listed, lt-ltb (position f (rounded (name_of a day)) s) (answers f s) (held-position f (rounded (name_of a day)) s h))

  pub already-held-only : append_number f a day s ≡ 7 → Judged f a day s × HeldAs f (rounded (name_of a day)) s
  already-held-only e =
      let j = judged-is 7 refl (omega arith) e in
      let known = unless-fails (not found) 7 _ (room-not 7 refl refl refl) j.rest in
      (j.first, position-held f (rounded (name_of a day)) s (ltb-true _ _ (not-false _ known)))

  -- 8 exactly where the store would pass the form's bounds
  pub over-bound : Fresh f a day s → (f.answers_most < answers f s + 1) ⊎ (f.stream_most < stream_length f s + length a) → append_number f a day s ≡ 8
  unfolding room_number
  over-bound known h =
      let count : f.answers_most < answers f s + 1 → room_number f (length a) s ≡ 8 = λ l. rw (lt-leb (answers f s + 1) f.answers_most l) in
      let stream : f.stream_most < stream_length f s + length a → room_number f (length a) s ≡ 8 =
      λ l. unless-before (leb (answers f s + 1) f.answers_most) 8 _ (rw (lt-leb (stream_length f s + length a) f.stream_most l)) in
      room-is known 8 (⊎_elim count stream h)

  pub over-bound-only : append_number f a day s ≡ 8 → Fresh f a day s × ((f.answers_most < answers f s + 1) ⊎ (f.stream_most < stream_length f s + length a))
  unfolding room_number
  over-bound-only e =
      let known = fresh-is 8 refl (omega arith) refl e in
      let room : Bool = leb (store_length f s + entry_size f + length a) (length s) in
      (known.first, go (leb (answers f s + 1) f.answers_most) (leb (stream_length f s + length a) f.stream_most) room refl refl known.rest)
    where
      go : (b c d : Bool) → leb (answers f s + 1) f.answers_most ≡ b → leb (stream_length f s + length a) f.stream_most ≡ c
          → ◌≡◌ {A = ℕ} (unless b 8 (unless c 8 (unless d 4 0))) 8
          → (f.answers_most < answers f s + 1) ⊎ (f.stream_most < stream_length f s + length a)
      go false c d p q r = inl (leb-false _ _ p)
      go true false d p q r = inr (leb-false _ _ q)
      go true true true p q r = absurd (omega arith)
      go true true false p q r = absurd (omega arith)

  -- 4 exactly where the buffer is shorter than the new store
  pub buffer-short : Bounded f a day s → length s < store_length f s + entry_size f + length a → append_number f a day s ≡ 4
  unfolding room_number
  buffer-short b h =
      let count = le-leb (answers f s + 1) f.answers_most b.count in
      let stream = le-leb (stream_length f s + length a) f.stream_most b.stream in
      room-is b.fresh 4 (rw (count, stream, lt-leb (store_length f s + entry_size f + length a) (length s) h))

  pub buffer-short-only : append_number f a day s ≡ 4 → Bounded f a day s × (length s < store_length f s + entry_size f + length a)
  unfolding room_number
  buffer-short-only e =
      let known = fresh-is 4 refl (omega arith) refl e in
      let n = unless-is (leb (answers f s + 1) f.answers_most) 8 _ 4 refl known.rest in
      let t = unless-is (leb (stream_length f s + length a) f.stream_most) 8 _ 4 refl n.rest in (
        record { fresh = known.first; count = leb-true _ _ n.first; stream = leb-true _ _ t.first },
        leb-false _ _ (unless-fails (leb (store_length f s + entry_size f + length a) (length s)) 4 0 (λ z. omega arith) t.rest),
      )

  -- 0 exactly where none of these holds
  pub append-taken : Bounded f a day s → store_length f s + entry_size f + length a ≤ length s → append_number f a day s ≡ 0
  unfolding room_number
  append-taken b h =
      let count = le-leb (answers f s + 1) f.answers_most b.count in
      let stream = le-leb (stream_length f s + length a) f.stream_most b.stream in
      room-is b.fresh 0 (rw (count, stream, le-leb (store_length f s + entry_size f + length a) (length s) h))

  pub append-taken-only : append_number f a day s ≡ 0 → Bounded f a day s × (store_length f s + entry_size f + length a ≤ length s)
  append-taken-only e =
      let ok = accepted f a day s e in
      let judged : Judged f a day s = record { unbroken = ok.unbroken; listed = ok.listed } in
      let fresh : Fresh f a day s = record { judged = judged; missing = position-missing f (rounded (name_of a day)) s ok.fresh } in
      (record { fresh = fresh; count = ok.count; stream = ok.stream }, ok.room)

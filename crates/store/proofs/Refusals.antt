-- What the numbers say of the store and of an answer, each way.
use Prim.Native.Nat.{ℕ, ◌<◌}
use mathlib.Core.Bool.{Bool, true, false}
use mathlib.Core.List.{List}
use mathlib.Core.Logic.{◌↔◌, ◌⊎◌, inl, ⊎_elim}
use mathlib.Core.Path.{◌≡◌, refl, sym}
use native.Mathlib.Omega.{arith}
use lib.Dec.{eqb, ltb, leb}
use lib.ListN.{length, get_or}
use borrow.Author.Tests.{lt-leb, ne_eqb, leb-false, eqb-false}
use Rattle.octets.specs.Order.{unless, or_else}
use Rattle.catalog.specs.Table.{listed}
use Rattle.catalog.specs.Name.{day_named, rounded, name_number}
use Rattle.catalog.specs.declared.AnswerName.{AnswerName}
use Rattle.store.specs.Layout.{Form, answers}
use Rattle.store.specs.Check.{header_fits, counts_fit, places_right, answers_right, names_differ, store_number}
use Rattle.store.specs.Read.{is_held, lookup_number, stream_place, count_held, held_number, held_answer}
use Rattle.store.specs.Answer.{name_of, answer_number}
use Rattle.store.specs.Faults.{IsFault}
use Rattle.store.specs.Claims.{Missing}
use Rattle.store.specs.Claims.{Broken, header, counts, places, begins, names, Unlisted, short, first, trep, named}
use Rattle.octets.proofs.Tests.{never}
use Rattle.octets.proofs.OrderLaws.{unless-either, or_is, or-first}
use Rattle.store.proofs.NumberLaws.{number_by, number-in-order, past-13, past-14, past-15, past-16, past-17}
use Rattle.store.proofs.PositionLaws.{missing-position}
use Rattle.store.proofs.StoreLaws.{store-either, store-not, lookup-missing, lookup-missing-only}

-- a check before what gives its own refusal
pub unless-before : (holds : Bool) (k rest : ℕ) → rest ≡ k → unless holds k rest ≡ k
unless-before true k rest e = e
unless-before false k rest e = refl

-- a number of 13 to 17 is not 0, nor one that a check behind the store's gives
pub fault-not : (k j : ℕ) → IsFault k → j < 13 → j ≡ k → ⊥
fault-not k j q h e = omega (arith, q.0)

-- a check that refuses by 6 alone refuses by no other number
not-six : (holds : Bool) (k : ℕ) → (6 ≡ k → ⊥) → (0 ≡ k → ⊥) → unless holds 6 0 ≡ k → ⊥
not-six true k six zero e = zero e
not-six false k six zero e = six e

module _ (f : Form) (s : List ℕ) where
  -- a store is broken exactly where its number is that of a fault
  pub broken-number : Broken f s → IsFault (store_number f s)
  broken-number b = ⊎_elim (λ z. absurd (go b z)) (λ q. q) (store-either f s)
    where
      other : (t : Bool) → t ≡ true → t ≡ false → ⊥
      other t p e = never (cc)

      go : Broken f s → store_number f s ≡ 0 → ⊥
      go (header e) z = other _ (past-13 f s 0 z refl).first e
      go (counts e) z = other _ (past-14 f s 0 z refl refl).first e
      go (places e) z = other _ (past-15 f s 0 z refl refl refl).first e
      go (begins e) z = other _ (past-16 f s 0 z refl refl refl refl).first e
      go (names e) z = other _ (past-17 f s 0 z refl refl refl refl refl).first e

  pub number-broken : IsFault (store_number f s) → Broken f s
  number-broken q =
      go (header_fits f s) (counts_fit f s) (places_right f s) (answers_right f s) (names_differ f s)
      refl refl refl refl refl (rw (number-in-order f s) at q)
    where
      go : (h c p r d : Bool) → header_fits f s ≡ h → counts_fit f s ≡ c → places_right f s ≡ p → answers_right f s ≡ r
          → names_differ f s ≡ d → IsFault (number_by h c p r d) → Broken f s
      go false c p r d eh ec ep er ed w = header eh
      go true false p r d eh ec ep er ed w = counts ec
      go true true false r d eh ec ep er ed w = places ep
      go true true true false d eh ec ep er ed w = begins er
      go true true true true false eh ec ep er ed w = names ed
      go true true true true true eh ec ep er ed w = absurd (omega (arith, w.0))

  -- a call that gives the store's number first
  pub fault-first : (rest k : ℕ) → IsFault k → (rest ≡ k → ⊥) → (or_else (store_number f s) rest ≡ k) ↔ (store_number f s ≡ k)
  fault-first rest k q other = or-first (store_number f s) rest k (ne_eqb k 0 (λ e. fault-not k 0 q (omega arith) (sym e))) other

  pub lookup-fault : (name : AnswerName) (k : ℕ) → IsFault k → (lookup_number f name s ≡ k) ↔ (store_number f s ≡ k)
  unfolding lookup_number
  lookup-fault name k q = fault-first _ k q (not-six (is_held f (rounded name) s) k (fault-not k 6 q (omega arith)) (fault-not k 0 q (omega arith)))

  pub held-fault : (i k : ℕ) → IsFault k → ((held_answer f i s).number ≡ k) ↔ (store_number f s ≡ k)
  unfolding held_answer held_number
  held-fault i k q = fault-first _ k q (not-six (ltb i (answers f s)) k (fault-not k 6 q (omega arith)) (fault-not k 0 q (omega arith)))

  pub stream-number : (stream_place f s).number ≡ store_number f s
  unfolding stream_place
  stream-number = refl

  pub count-number : (count_held f s).number ≡ store_number f s
  unfolding count_held
  count-number = refl

  -- none of them gives 5
  pub store-not-five : store_number f s ≡ 5 → ⊥
  store-not-five = store-not f s 5 (λ z. omega arith) (λ q. omega (arith, q.0))

  pub lookup-not-five : (name : AnswerName) → lookup_number f name s ≡ 5 → ⊥
  unfolding lookup_number
  lookup-not-five name e = not-six (is_held f (rounded name) s) 5 (λ z. omega arith) (λ z. omega arith) (or_is (store_number f s) _ 5 store-not-five e).rest

  pub held-not-five : (i : ℕ) → (held_answer f i s).number ≡ 5 → ⊥
  unfolding held_answer held_number
  held-not-five i e = not-six (ltb i (answers f s)) 5 (λ z. omega arith) (λ z. omega arith) (or_is (store_number f s) _ 5 store-not-five e).rest

  -- 6 exactly where an unbroken store holds no answer of that name
  pub lookup-six : (name : AnswerName) → (lookup_number f name s ≡ 6) ↔ ((store_number f s ≡ 0) × Missing f (rounded name) s)
  lookup-six name =
      ((λ e. let m = lookup-missing-only f name s e in (m.first, m.rest)), (λ m. lookup-missing f name s m.0 (missing-position f (rounded name) s m.1)))

-- Each group of checks has one refusal

pub answer-either : (a : List ℕ) (day : ℕ) → (answer_number a day ≡ 0) ⊎ (answer_number a day ≡ 12)
unfolding answer_number name_number
answer-either a day =
    unless-either (leb 2 (length a)) 12 _
    (unless-either (eqb (get_or a 0 0) 0x76) 12 _
    (unless-either (listed (get_or a 1 0)) 12 _
    (unless-either (day_named (name_of a day)) 12 0
    (inl refl))))

-- 12 exactly where the answer is too short, does not begin 76 and a listed TREP, or has a day that is not allowed
module _ (a : List ℕ) (day : ℕ) where
  pub unlisted-number : Unlisted a day → answer_number a day ≡ 12
  unfolding answer_number name_number
  unlisted-number (short l) = rw (lt-leb 2 (length a) l)
  unlisted-number (first n) = unless-before (leb 2 (length a)) 12 _ (rw (ne_eqb (get_or a 0 0) 0x76 n))
  unlisted-number (trep e) = unless-before (leb 2 (length a)) 12 _ (unless-before (eqb (get_or a 0 0) 0x76) 12 _ (rw e))
  unlisted-number (named e) =
      unless-before (leb 2 (length a)) 12 _
      (unless-before (eqb (get_or a 0 0) 0x76) 12 _
      (unless-before (listed (get_or a 1 0)) 12 _
      (rw e)))

  pub number-unlisted : answer_number a day ≡ 12 → Unlisted a day
  unfolding answer_number name_number
  number-unlisted = go (leb 2 (length a)) (eqb (get_or a 0 0) 0x76) (listed (get_or a 1 0)) (day_named (name_of a day)) refl refl refl refl
    where
      go : (l b t d : Bool) → leb 2 (length a) ≡ l → eqb (get_or a 0 0) 0x76 ≡ b → listed (get_or a 1 0) ≡ t → day_named (name_of a day) ≡ d
          → ◌≡◌ {A = ℕ} (unless l 12 (unless b 12 (unless t 12 (unless d 12 0)))) 12 → Unlisted a day
      go false b t d el eb et ed e = short (leb-false _ _ el)
      go true false t d el eb et ed e = first (eqb-false _ _ eb)
      go true true false d el eb et ed e = trep et
      go true true true false el eb et ed e = named ed
      go true true true true el eb et ed e = absurd (omega arith)

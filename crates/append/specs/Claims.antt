-- What is claimed of appending (document 01, Bench store; House numbers): each number "Given exactly when" its rule
-- says, the append as one of the list, what it leaves, and what any list of appends leaves. For every form whose bounds
-- fit its fields; proofs/Claims.antt proves it.
use Rattle.std.specs.Prelude.{ℕ, ◌+◌, ◌<◌, ◌≤◌, List, [], ◌∷◌, ◌++◌, map, ◌↔◌, ◌⊎◌, ◌≢◌, ◌≡◌, length, get_or}
use Rattle.octets.specs.Numbers.{done, buffer_short, already_held, over_bound, not_in_table}
use Rattle.octets.specs.Buffer.{front}
use Rattle.catalog.specs.Name.{rounded, name_number}
use Rattle.catalog.specs.declared.AnswerName.{AnswerName}
use Rattle.store.specs.Layout.{Form, Sized, narrow, entry_size, answers, stream_length, store_length}
use Rattle.store.specs.Check.{store_number}
use Rattle.store.specs.Read.{lookup_number, lookup_part, stream_part}
use Rattle.store.specs.Answer.{name_of, answer_number}
use Rattle.store.specs.Contents.{Stored, name_for, kept, nothing, back_to_back, store_of, contents, InBytes, OfForm}
use Rattle.store.specs.Faults.{IsFault}
use Rattle.store.specs.Claims.{Unlisted, HeldAs, Missing}
use Rattle.append.specs.Days.{DayClaims, DayExamples}
use Rattle.append.specs.Append.{append_number, append_out, with_last, append_number_to}

-- Numbers

module _ (f : Form) where
  -- "Appending: 5, 12, 7, 8, 4", with the number of the store's fault for 5: refused neither for the store nor by 12
  pub record Judged (answer : List ℕ) (day : ℕ) (s : List ℕ) : Type 0 where
    pub unbroken : store_number f s ≡ done
    pub listed : answer_number answer day ≡ done

  -- nor by 7
  pub record Fresh (answer : List ℕ) (day : ℕ) (s : List ℕ) : Type 0 where
    pub judged : Judged answer day s
    pub missing : Missing f (rounded (name_of answer day)) s

  -- nor by 8
  pub record Bounded (answer : List ℕ) (day : ℕ) (s : List ℕ) : Type 0 where
    pub fresh : Fresh answer day s
    pub count : answers f s + 1 ≤ f.answers_most
    pub stream : stream_length f s + length answer ≤ f.stream_most

module _ (f : Form) where
  -- "Appending: 5, 12, 7, 8, 4", with the number of the store's fault for 5: each of them where those before it do not
  -- refuse
  pub record NumberClaims : Type 0 where
    -- "Wherever 5 was given, exactly one of these is given now" (document 02, Req 06): the number of the store's fault
    pub fault : (answer : List ℕ) (day : ℕ) (s : List ℕ) (k : ℕ) → IsFault k
        → (append_number f answer day s ≡ k) ↔ (store_number f s ≡ k)
    pub not_five : (answer : List ℕ) (day : ℕ) (s : List ℕ) → append_number f answer day s ≢ 5
    pub twelve : (answer : List ℕ) (day : ℕ) (s : List ℕ)
        → (append_number f answer day s ≡ not_in_table) ↔ ((store_number f s ≡ done) × Unlisted answer day)
    -- "7: answer already held"
    pub seven : (answer : List ℕ) (day : ℕ) (s : List ℕ)
        → (append_number f answer day s ≡ already_held)
        ↔ (Judged f answer day s × HeldAs f (rounded (name_of answer day)) s)
    -- "8: store would pass 64 answers or 60,000 stream bytes": the form's bounds
    pub eight : (answer : List ℕ) (day : ℕ) (s : List ℕ)
        → (append_number f answer day s ≡ over_bound)
        ↔ (Fresh f answer day s
        × ((f.answers_most < answers f s + 1) ⊎ (f.stream_most < stream_length f s + length answer)))
    -- "4: .. store buffer too short": for the store, an entry and the answer
    pub four : (answer : List ℕ) (day : ℕ) (s : List ℕ)
        → (append_number f answer day s ≡ buffer_short)
        ↔ (Bounded f answer day s × (length s < store_length f s + entry_size f + length answer))
    -- an append that none of these refuses is taken
    pub taken : (answer : List ℕ) (day : ℕ) (s : List ℕ)
        → (append_number f answer day s ≡ done)
        ↔ (Bounded f answer day s × (store_length f s + entry_size f + length answer ≤ length s))

-- The store as a list

module _ (f : Form) where
  pub record ListClaims : Type 0 where
    -- an append to an unbroken store is one to the list, "Appending puts the answer last": the store of the list with
    -- the answer behind it, in the front of the buffer
    pub append_refusal : (g : Stored) (s : List ℕ) → store_number f s ≡ done
        → append_number f g.answer g.day s ≡ append_number_to f g (length s) (contents f s)
    pub append : (g : Stored) (s : List ℕ) → OfForm f s → append_number f g.answer g.day s ≡ done
        → append_out f g.answer g.day s ≡ front (store_of f (with_last g (contents f s))) s

-- What it leaves

module _ (f : Form) where
  -- a lookup by every name that is kept as its own gives exactly that answer
  pub record Found (g : Stored) (s : List ℕ) : Type 0 where
    pub number : (name : AnswerName) → rounded name ≡ rounded (name_for g) → lookup_number f name s ≡ done
    pub part : (name : AnswerName) → rounded name ≡ rounded (name_for g) → lookup_part f name s ≡ g.answer

  -- what an accepted append of an answer makes of the store s
  pub record Appended (g : Stored) (s after : List ℕ) : Type 0 where
    pub unbroken : store_number f after ≡ done
    pub of_form : OfForm f after
    pub contents : contents f after ≡ with_last g (contents f s)
    pub found : Found g after
    -- every other lookup is as before
    pub others_number : (name : AnswerName) → rounded name ≢ rounded (name_for g)
        → lookup_number f name after ≡ lookup_number f name s
    pub others_part : (name : AnswerName) → rounded name ≢ rounded (name_for g)
        → lookup_part f name after ≡ lookup_part f name s
    -- the stream grows by exactly the answer
    pub stream : stream_part f after ≡ stream_part f s ++ g.answer

  -- from one store to another by these appends, none of them refused
  pub data Appends : List Stored → List ℕ → List ℕ → Type 0 where
    none : {s : List ℕ} → Appends [] s s
    more : {g : Stored} {gs : List Stored} {s r : List ℕ}
        → append_number f g.answer g.day s ≡ done → InBytes g
        → Appends gs (append_out f g.answer g.day s) r → Appends (g ∷ gs) s r

  -- what they leave: the answers that were there and these behind them, in order
  pub record ReadsBack (gs : List Stored) (s r : List ℕ) : Type 0 where
    pub unbroken : store_number f r ≡ done
    pub of_form : OfForm f r
    pub contents : contents f r ≡ contents f s ++ map kept gs
    -- each of their names looks up to exactly its answer
    pub lookups : (i : ℕ) → i < length gs → Found (get_or gs i nothing) r
    pub stream : stream_part f r ≡ stream_part f s ++ back_to_back gs

  pub record ReadBackClaims : Type 0 where
    pub append : (g : Stored) (s : List ℕ) → OfForm f s → InBytes g → append_number f g.answer g.day s ≡ done
        → Appended g s (append_out f g.answer g.day s)
    pub appends : (gs : List Stored) (s r : List ℕ) → OfForm f s → store_number f s ≡ done → Appends gs s r
        → ReadsBack gs s r

-- Document 01's own numbers

-- an answer that is taken and fills the stream
pub record Fills (answer : List ℕ) (day : ℕ) (s : List ℕ) : Type 0 where
  pub taken : append_number narrow answer day s ≡ done
  pub unbroken : store_number narrow (append_out narrow answer day s) ≡ done
  pub stream : stream_length narrow (append_out narrow answer day s) ≡ 60000

pub record NarrowClaims : Type 0 where
  -- "59,998 data bytes .. fill the stream": under any name that 12 allows, in an empty store whose buffer has room
  pub fills : (name : AnswerName) (d s : List ℕ) → name_number name ≡ done → length d ≡ 59998
      → OfForm narrow s → store_number narrow s ≡ done → answers narrow s ≡ 0
      → store_length narrow s + entry_size narrow + 60000 ≤ length s
      → InBytes (record { answer = 0x76 ∷ name.trep ∷ d; day = name.day })
      → Fills (0x76 ∷ name.trep ∷ d) name.day s
  -- "one byte more is 8": in any store that does not hold that name, whatever room it has
  pub one_more : (name : AnswerName) (d s : List ℕ) → name_number name ≡ done
      → length d ≡ 59999 → store_number narrow s ≡ done → Missing narrow (rounded name) s
      → append_number narrow (0x76 ∷ name.trep ∷ d) name.day s ≡ over_bound

pub record AppendClaims : Type 0 where
  pub numbers : (f : Form) → NumberClaims f
  pub list : (f : Form) → Sized f → ListClaims f
  pub leaves : (f : Form) → Sized f → ReadBackClaims f
  pub days : (f : Form) → Sized f → DayClaims f
  pub day_examples : DayExamples
  pub narrow_form : NarrowClaims

-- An answer that a store holds, as the calls of a transfer find it: the store's own laws, put together.
use Prim.Native.Nat.{ℕ, ◌≤◌}
use mathlib.Core.List.{List, ◌∷◌}
use mathlib.Core.Path.{◌≡◌, refl, sym, ap, ◌∙◌}
use lib.ListN.{length, drop}
use Rattle.octets.specs.Buffer.{part_at}
use Rattle.octets.specs.declared.Place.{Place}
use Rattle.catalog.specs.Name.{rounded}
use Rattle.catalog.specs.declared.AnswerName.{AnswerName}
use Rattle.store.specs.Layout.{narrow}
use Rattle.store.specs.Read.{position, lookup_number, lookup_place, lookup_part}
use Rattle.store.proofs.StoreLaws.{found, answer-length}
use Rattle.download.specs.Demand.{Holds}

pub record Held (store : List ℕ) (name : AnswerName) (answer : List ℕ) : Type 0 where
  pub number : (lookup_place narrow name store).number ≡ 0
  pub len : (lookup_place narrow name store).len ≡ length answer
  pub part : part_at (lookup_place narrow name store).start (lookup_place narrow name store).len store ≡ answer
  -- "each 76, listed TREP, data"
  pub shape : answer ≡ 0x76 ∷ name.trep ∷ drop 2 answer
  pub most : length answer ≤ 60000

pub held_place : (s : List ℕ) (name : AnswerName) → lookup_number narrow name s ≡ 0 → Held s name (lookup_part narrow name s)
unfolding lookup_part
held_place s name z =
    let f = found narrow name s z in
    record {
      number = ap (λ (p : Place). p.number) f.place;
      len = ap (λ (p : Place). p.len) f.place ∙ sym (ap length f.part ∙ answer-length narrow s f.whole (position narrow (rounded name) s) f.below);
      part = refl;
      shape = f.begins;
      most = f.most;
    }

pub held : (s : List ℕ) (name : AnswerName) (a : List ℕ) → Holds s name a → Held s name a
held s name a h = rw h.bytes at (held_place s name h.held)

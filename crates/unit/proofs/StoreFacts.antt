-- What a lookup says of the place that it gives: the store's own laws, put together.
use Prim.Native.Nat.{ℕ, ◌+◌, ◌≤◌}
use mathlib.Core.List.{List}
use mathlib.Core.Path.{◌≡◌}
use native.Mathlib.Omega.{arith}
use lib.ListN.{length}
use Rattle.catalog.specs.Name.{rounded}
use Rattle.catalog.specs.declared.AnswerName.{AnswerName}
use Rattle.store.specs.Layout.{narrow}
use Rattle.store.specs.Read.{position, lookup_number, lookup_place}
use Rattle.store.proofs.StoreLaws.{found, held, answer-within, answer-length, answer-most}

module _ (s : List ℕ) where
  -- an answer of an unbroken store
  pub record InStore (start n : ℕ) : Type 0 where
    pub two : 2 ≤ n
    pub most : n ≤ narrow.answer_most
    pub inside : start + n ≤ length s

  module _ (name : AnswerName) where
    located : lookup_number narrow name s ≡ 0 → InStore (lookup_place narrow name s).start (lookup_place narrow name s).len
    located z =
        let f = found narrow name s z in
        let i : ℕ = position narrow (rounded name) s in
        rw f.place
        (record {
          two = (held narrow s f.whole i f.below).long;
          most = omega (arith, answer-length narrow s f.whole i f.below, answer-most narrow s f.whole i f.below);
          inside = answer-within narrow s f.whole i f.below;
        })

    -- an answer that was found
    pub found_in : (lookup_place narrow name s).number ≡ 0 → InStore (lookup_place narrow name s).start (lookup_place narrow name s).len
    unfolding lookup_place
    found_in h = located h

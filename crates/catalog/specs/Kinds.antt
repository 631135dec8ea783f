-- Kinds of unit as numbers: the columns of the table.
use Rattle.std.specs.Prelude.{◌≡◌, ℕ, ◌<◌, Result, MatchResult}
use Rattle.catalog.specs.declared.kind.Kind.{Kind}
use Rattle.catalog.specs.declared.kind.Kind.TheVariants as kinds
use Rattle.catalog.specs.declared.kind.UnknownKind.{UnknownKind}

-- generation 1, generation 2 version 1, generation 2 version 2
abbrev pub kind_number : Kind → ℕ
kind_number kinds.Generation1 = 0
kind_number kinds.Generation2Version1 = 1
kind_number kinds.Generation2Version2 = 2

-- what a number gives: the kind of that number, or, where it is above 2, none
abbrev pub Kinds : ℕ → Result Kind UnknownKind → Type 0
Kinds n r = MatchResult r (λ kind. kind_number kind ≡ n) (λ e. (e.0 ≡ n) × (2 < n))

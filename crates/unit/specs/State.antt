-- The state beside a store: where the answer lies that is being sent, and what is possible.
use Rattle.std.specs.Prelude.{Bool, List, ℕ}
use Rattle.octets.specs.declared.Place.{Place}
use Rattle.store.specs.Layout.{narrow}
use Rattle.store.specs.Read.{lookup_place}
use Rattle.services.specs.declared.Phase.{Phase}
use Rattle.services.specs.declared.UnitState.{UnitState}
use Rattle.services.specs.State.{name_sent, possible_at}

-- where the answer lies that is being sent
abbrev pub place_sent : List ℕ → Phase → Place
place_sent store phase = lookup_place narrow (name_sent phase) store

unfoldable pub possible : List ℕ → UnitState → Bool
possible store u = possible_at (place_sent store u.phase) u

-- The answers of a store one by one.
use Rattle.store.specs.Read as read
use Rattle.host.specs.declared.bench_store.Held.{Held}

-- the k-th answer of a store, field by field
abbrev pub held_of : read.Held → Held
held_of h = record { number = h.number; trep = h.name.trep; day = h.name.day; start = h.start; len = h.len }

-- Each step on the cells is a step of the table by its meaning.
use Rattle.std.specs.Prelude.{◌≡◌, ℕ, ◌<◌, ◌≢◌}
use Rattle.model.specs.Counts.{without}
use Rattle.model.specs.Layouts.{Layout, capacity, nil, slot_at, filled, overwritten, emptied}
use Rattle.model.specs.Tables.{Table, stored, freed}
use Rattle.model.specs.Sound.{Means}

abbrev pub Refinement : Type 0 → Type 0
Refinement V =
    (l : Layout V) (t : Table V) → Means l t → (k : ℕ) → k < capacity l
    → ((v : V) → slot_at l.index k ≡ nil → Means (filled l k v) (stored t k v (without k t.free)))
    × ((v : V) → slot_at l.index k ≢ nil → Means (overwritten l k v) (stored t k v t.free))
    × (slot_at l.index k ≢ nil → Means (emptied l k) (freed t k))

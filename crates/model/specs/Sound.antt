-- What the cells of a table mean.
use Rattle.std.specs.Prelude.{◌≡◌, ℕ, ◌+◌, ◌-◌, ◌<◌, ◌≤◌, cond, ◌≢◌, List, [], ◌∷◌, length, None, Option, ◌==◌}
use Rattle.std.specs.List.{slice_get, AllByRecursion}
use Rattle.rows.specs.declared.cell.FreeListEntry.{FreeListEntry}
use Rattle.containers.specs.Queues.{Backed, contents}
use Rattle.model.specs.Counts.{sum_to, same, count}
use Rattle.model.specs.Layouts.{Layout, capacity, nil, unlinked, slot_at, link_at}
use Rattle.model.specs.Tables.{Table}

-- From h along next one meets the keys ks, each below C, and then nil; the previous of the first is p, and
-- that of each other is the key before it.
abbrev pub Linked : List FreeListEntry → ℕ → ℕ → ℕ → List ℕ → Type 0
Linked ls C p h [] = h ≡ nil
Linked ls C p h (k ∷ ks) = (h ≡ k) × (k < C) × ((link_at ls k).previous ≡ p) × Linked ls C k (link_at ls k).next ks

-- 1 where key k is vacant, else 0; and the other way round
abbrev pub vacant : List ℕ → ℕ → ℕ
vacant xs k = same (slot_at xs k) nil

abbrev pub holds : List ℕ → ℕ → ℕ
holds xs k = cond (slot_at xs k == nil) 0 1

-- what key k holds: the value at its slot
abbrev pub cell : {V : Type 0} → List ℕ → List V → ℕ → Option V
cell xs vs k = cond (slot_at xs k == nil) None (slice_get vs (slot_at xs k))

-- the cells l are those of the table t
pub record Means {V : Type 0} (l : Layout V) (t : Table V) : Type 0 where
  pub size : t.capacity ≡ capacity l
  pub small : capacity l ≤ 65535
  -- each row has a cell for each key and slot
  pub indexes : capacity l ≤ length l.index
  pub linked : capacity l ≤ length l.links
  pub stores : capacity l ≤ length l.values
  pub backed : Backed l.slots
  -- the queue's position is legal
  pub begins : l.slots.start ≤ capacity l - 1
  pub within : l.slots.len ≤ capacity l
  -- the free list reads alike along its links both ways; each key holds, or stands in it once
  pub free : Linked l.links (capacity l) nil l.head t.free
  pub keys : (k : ℕ) → k < capacity l → count k t.free ≡ vacant l.index k
  pub loose : (k : ℕ) → k < capacity l → slot_at l.index k ≢ nil → link_at l.links k ≡ unlinked
  -- each index cell is nil or a slot; each number that waits is a slot; each slot belongs to one key or waits once
  pub slotted : (k : ℕ) → k < capacity l → slot_at l.index k ≢ nil → slot_at l.index k < capacity l
  pub queued : AllByRecursion (λ s. s < capacity l) (contents l.slots)
  pub shared : (s : ℕ) → s < capacity l → sum_to (λ k. same s (slot_at l.index k)) (capacity l) + count s (contents l.slots) ≡ 1
  -- the length counts the holding keys
  pub counted : l.len ≡ sum_to (holds l.index) (capacity l)
  -- each key holds what the table says
  pub valued : (k : ℕ) → k < capacity l → t.held k ≡ cell l.index l.values k

-- A call on the cells l that answered r and left the cells l' is the call on the table that they mean.
abbrev pub Follows : {V A : Type 0} → Layout V → A → Layout V → (Table V → A) → (Table V → Table V) → Type 0
Follows {V} l r l' answer after = (t : Table V) → Means l t → (r ≡ answer t) × Means l' (after t)

-- A look at the cells l that answered r is the look at the table that they mean.
abbrev pub Tells : {V A : Type 0} → Layout V → A → (Table V → A) → Type 0
Tells {V} l r answer = (t : Table V) → Means l t → r ≡ answer t

-- the table that the cells l store, if its free list is ks
abbrev pub stored_table : {V : Type 0} → Layout V → List ℕ → Table V
stored_table l ks = record { capacity = capacity l; held = cell l.index l.values; free = ks }

-- The cells l are sound, with free list ks: they are those of the table that they store.
abbrev pub Sound : {V : Type 0} → Layout V → List ℕ → Type 0
Sound l ks = Means l (stored_table l ks)

-- The cells l stand the audit: they are sound, with the free list that one meets from the head.
abbrev pub Stands : {V : Type 0} → Layout V → Type 0
Stands l = (ks : List ℕ) × Sound l ks

-- What the parts of the audit look at. Together they are what makes cells stand.
use Rattle.std.specs.Prelude.{◌≡◌, ℕ, ◌+◌, ◌-◌, ◌%◌, ◌<◌, ◌≤◌, Bool, false, cond, ◌≢◌, List, length, Some, None, Option, ◌==◌, nat_lt, slice_index_or}
use Rattle.std.specs.List.{AllByRecursion}
use Rattle.rows.specs.declared.cell.FreeListEntry.{FreeListEntry}
use Rattle.containers.specs.Queues.{QueueState, Backed, contents}
use Rattle.model.specs.Counts.{sum_to, same, count}
use Rattle.model.specs.Layouts.{Layout, capacity, nil, unlinked, slot_at, link_at}
use Rattle.model.specs.Sound.{Linked, holds}

-- The capacity is small enough and each row has a cell for each key and slot; the queue's position is legal;
-- holding keys and waiting slots together are as many as there are slots.
pub record Sized {V : Type 0} (l : Layout V) : Type 0 where
  pub small : capacity l ≤ 65535
  pub indexes : capacity l ≤ length l.index
  pub linked : capacity l ≤ length l.links
  pub stores : capacity l ≤ length l.values
  pub backed : Backed l.slots
  pub begins : l.slots.start ≤ capacity l - 1
  pub within : l.slots.len ≤ capacity l
  pub total : l.len ≡ capacity l - l.slots.len

-- the key after k in the free list, if k is a vacant key below C whose link says that p is before it
abbrev pub next_key : List ℕ → List FreeListEntry → ℕ → ℕ → ℕ → Option ℕ
next_key xs ls C p k =
    cond (nat_lt k C) (cond ((link_at ls k).previous == p) (cond (slot_at xs k == nil) (Some (link_at ls k).next) None) None) None

-- the free list from h has n keys, all of them vacant
abbrev pub Listed : List ℕ → List FreeListEntry → ℕ → ℕ → ℕ → Type 0
Listed xs ls C h n = (ks : List ℕ) × Linked ls C nil h ks × AllByRecursion (λ k. slot_at xs k ≡ nil) ks × (length ks ≡ n)

-- a holding key has no links
abbrev pub Loose : List ℕ → List FreeListEntry → ℕ → Type 0
Loose xs ls C = (k : ℕ) → k < C → slot_at xs k ≢ nil → link_at ls k ≡ unlinked

-- 1 for a mark, else 0; 1 for a number that is not nil, else 0
abbrev pub bit : Bool → ℕ
bit b = cond b 1 0

abbrev pub given : ℕ → ℕ
given s = cond (s == nil) 0 1

-- the number i places after the place a, round the first C cells
abbrev pub ring : List ℕ → ℕ → ℕ → ℕ → ℕ
ring xs C a i = slot_at xs ((a + i) % C)

-- Of the first m numbers f, n are not nil, and these are slots that had no mark and differ.
pub record Apart (before : List Bool) (C : ℕ) (f : ℕ → ℕ) (m n : ℕ) : Type 0 where
  pub slots : (i : ℕ) → i < m → f i ≢ nil → f i < C
  pub number : n ≡ sum_to (λ i. given (f i)) m
  pub once : (s : ℕ) → s < C → bit (slice_index_or before s false) + sum_to (λ i. same s (f i)) m ≤ 1

-- Of the first m numbers f, n are not nil, and these are slots that had no mark, differ, and have one now.
pub record Marked (before after : List Bool) (C : ℕ) (f : ℕ → ℕ) (m n : ℕ) : Type 0 where
  pub slots : (i : ℕ) → i < m → f i ≢ nil → f i < C
  pub number : n ≡ sum_to (λ i. given (f i)) m
  pub marks : (s : ℕ) → s < C → bit (slice_index_or after s false) ≡ bit (slice_index_or before s false) + sum_to (λ i. same s (f i)) m

-- Each index cell is nil or a slot, n of them are slots, each number that waits is a slot, and no slot
-- stands twice among these.
pub record Shared (xs : List ℕ) (q : QueueState ℕ) (n : ℕ) : Type 0 where
  pub slotted : (k : ℕ) → k < q.capacity → slot_at xs k ≢ nil → slot_at xs k < q.capacity
  pub counted : n ≡ sum_to (holds xs) q.capacity
  pub queued : AllByRecursion (λ s. s < q.capacity) (contents q)
  pub apart : (s : ℕ) → s < q.capacity → sum_to (λ k. same s (slot_at xs k)) q.capacity + count s (contents q) ≤ 1

-- The cells and registers of a table, and what each step does to them.
use Rattle.std.specs.Prelude.{◌≡◌, ℕ, ◌+◌, ◌-◌, ◌≤◌, cond, List, drop, ◌==◌, slice_index_or, slice_set}
use Rattle.rows.specs.declared.cell.FreeListEntry.{FreeListEntry}
use Rattle.containers.specs.Queues.{QueueState, place_of, pushed, popped}

-- the rows' cells (index, links, values, free slots) and the registers; the capacity is the queue's
pub record Layout (V : Type 0) : Type 0 where
  pub head : ℕ
  pub len : ℕ
  pub index : List ℕ
  pub links : List FreeListEntry
  pub values : List V
  pub slots : QueueState ℕ

abbrev pub capacity : {V : Type 0} → Layout V → ℕ
capacity l = l.slots.capacity

-- the position of a queue is legal
abbrev pub Legal : QueueState ℕ → Type 0
Legal q = (q.capacity ≤ 65535) × (q.start ≤ q.capacity - 1) × (q.len ≤ q.capacity)

-- no cell at or past the capacity differs, in any row
abbrev pub SameBeyond : {V : Type 0} → Layout V → Layout V → Type 0
SameBeyond l l' =
    (drop (capacity l) l'.index ≡ drop (capacity l) l.index)
    × (drop (capacity l) l'.links ≡ drop (capacity l) l.links)
    × (drop (capacity l) l'.values ≡ drop (capacity l) l.values)
    × (drop (capacity l) l'.slots.cells ≡ drop (capacity l) l.slots.cells)

-- the number that stands for no key and no slot
abbrev pub nil : ℕ
nil = 4294967295

-- the links of a key that stands in no free list
abbrev pub unlinked : FreeListEntry
unlinked = record { previous = nil; next = nil }

abbrev pub slot_at : List ℕ → ℕ → ℕ
slot_at xs k = slice_index_or xs k nil

abbrev pub link_at : List FreeListEntry → ℕ → FreeListEntry
link_at ls k = slice_index_or ls k unlinked

-- a link with another next, with another previous
abbrev pub followed : ℕ → FreeListEntry → FreeListEntry
followed n e = record { previous = e.previous; next = n }

abbrev pub preceded : ℕ → FreeListEntry → FreeListEntry
preceded q e = record { previous = q; next = e.next }

-- the link of key p changed; nothing where p is nil
abbrev pub relinked : (FreeListEntry → FreeListEntry) → List FreeListEntry → ℕ → List FreeListEntry
relinked change ls p = cond (p == nil) ls (slice_set ls p (change (link_at ls p)))

-- key p followed by n, key p preceded by q
abbrev pub with_next : List FreeListEntry → ℕ → ℕ → List FreeListEntry
with_next ls p n = relinked (followed n) ls p

abbrev pub with_previous : List FreeListEntry → ℕ → ℕ → List FreeListEntry
with_previous ls p q = relinked (preceded q) ls p

-- the links with key k, whose link is e, taken out
abbrev pub cut_out : List FreeListEntry → ℕ → FreeListEntry → List FreeListEntry
cut_out ls k e = slice_set (with_previous (with_next ls e.previous e.next) e.next e.previous) k unlinked

abbrev pub head_without : ℕ → FreeListEntry → ℕ
head_without h e = cond (e.previous == nil) e.next h

-- the links with key k put in front of h
abbrev pub put_first : List FreeListEntry → ℕ → ℕ → List FreeListEntry
put_first ls h k = slice_set (with_previous ls h k) k (record { previous = nil; next = h })

-- the slot that waits longest
abbrev pub oldest_slot : QueueState ℕ → ℕ
oldest_slot q = slot_at q.cells (place_of q 0)

-- key k, whose link is e, leaves the free list
abbrev pub claimed : {V : Type 0} → Layout V → ℕ → FreeListEntry → Layout V
claimed l k e =
    record {
      head = head_without l.head e;
      len = l.len;
      index = l.index;
      links = cut_out l.links k e;
      values = l.values;
      slots = l.slots;
    }

-- key k gets v in slot s, the one that waits longest
abbrev pub given : {V : Type 0} → Layout V → ℕ → ℕ → V → Layout V
given l k s v =
    record {
      head = l.head;
      len = l.len + 1;
      index = slice_set l.index k s;
      links = l.links;
      values = slice_set l.values s v;
      slots = popped l.slots;
    }

-- a vacant key is filled: it leaves the free list, and takes the slot that waits longest
abbrev pub filled : {V : Type 0} → Layout V → ℕ → V → Layout V
filled l k v = claimed (given l k (oldest_slot l.slots) v) k (link_at l.links k)

-- slot s gets another value
abbrev pub rewritten : {V : Type 0} → Layout V → ℕ → V → Layout V
rewritten l s v =
    record {
      head = l.head;
      len = l.len;
      index = l.index;
      links = l.links;
      values = slice_set l.values s v;
      slots = l.slots;
    }

-- a holding key gets another value
abbrev pub overwritten : {V : Type 0} → Layout V → ℕ → V → Layout V
overwritten l k v =
    record {
      head = l.head;
      len = l.len;
      index = l.index;
      links = l.links;
      values = slice_set l.values (slot_at l.index k) v;
      slots = l.slots;
    }

-- key k stands first in the free list
abbrev pub released : {V : Type 0} → Layout V → ℕ → Layout V
released l k =
    record {
      head = k;
      len = l.len;
      index = l.index;
      links = put_first l.links l.head k;
      values = l.values;
      slots = l.slots;
    }

-- key k is emptied: slot s waits, and the key stands first in the free list
abbrev pub emptied_at : {V : Type 0} → Layout V → ℕ → ℕ → Layout V
emptied_at l k s =
    released
    (record {
      head = l.head;
      len = l.len - 1;
      index = slice_set l.index k nil;
      links = l.links;
      values = l.values;
      slots = pushed l.slots s;
    })
    k

-- a holding key is emptied, and its slot waits
abbrev pub emptied : {V : Type 0} → Layout V → ℕ → Layout V
emptied l k =
    record {
      head = k;
      len = l.len - 1;
      index = slice_set l.index k nil;
      links = put_first l.links l.head k;
      values = l.values;
      slots = pushed l.slots (slot_at l.index k);
    }

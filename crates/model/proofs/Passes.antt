-- A sound table passes every check.
use Rattle.std.proofs.Common.{◌≡◌, ℕ, ◌+◌, ◌-◌, ◌<◌, ◌≤◌, cond, eqb, ◌≢◌, ◌⊎◌, List, ◌∷◌, length, is_ok, Some, None, Ok, ap, ◌∙◌, subst, inl, inr, ⊎_elim, mod-lt, arith}
use Rattle.std.proofs.lemmas.Option.{slice_get-get_or}
use Rattle.std.proofs.lemmas.Bool.{cases_eq, eq-eqb, ne_eqb, lt-ltb, cond-true, cond-false}
use Rattle.std.specs.List.{slice_get, AllByRecursion}
use Rattle.std.specs.Option.{ok_or}
use Rattle.std.specs.Result.{result_and, result_map_both}
use Rattle.refusal.specs.declared.Refusal.TheVariants.{AuditFailed}
use Rattle.rows.specs.declared.cell.FreeListEntry.{FreeListEntry}
use Rattle.rows.proofs.Cells.{write_within}
use Rattle.containers.specs.Queues.{place_of, contents, popped, push_answer}
use Rattle.containers.proofs.Rounds.{nth_some}
use Rattle.model.specs.Counts.{count}
use Rattle.model.specs.Layouts.{Layout, capacity, nil, slot_at, link_at, unlinked, oldest_slot}
use Rattle.model.specs.Tables.{Table}
use Rattle.model.specs.Sound.{Means}
use Rattle.model.specs.Checks.{then, passes, seen, bounded, index_of, link_of, neighbour, claimable, waiting, vacant_only, room, storable, fillable, fill_answer, value_of, vacate_answer}
use Rattle.model.proofs.FreeLists.{linked_below, linked_before, linked_after, linked_first}
use Rattle.model.proofs.Refines.{shared_out, vacant_waits, vacant_listed, holding_counts, first_waits, cell_some}

pub bounded_below : (C n : ℕ) → n < C → bounded C n ≡ Ok n
bounded_below C n h = cond-true _ _ _ (lt-ltb n C h)

pub link_within : (ls : List FreeListEntry) (C k : ℕ) → k < C → C ≤ length ls → link_of ls C k ≡ Ok (link_at ls k)
link_within ls C k h fits =
    ap (λ r. then r (λ n. ok_or (slice_get ls n) AuditFailed)) (bounded_below C k h) ∙ ap (λ o. ok_or o AuditFailed) (slice_get-get_or ls k unlinked (omega arith))

-- a neighbour that is nil, or a key
pub neighbour_fits : (ls : List FreeListEntry) (C k : ℕ) → C ≤ length ls → (k ≡ nil) ⊎ (k < C) → neighbour ls C k ≡ Ok tt
neighbour_fits ls C k fits (inl e) = cond-true _ _ _ (eq-eqb k nil e)
neighbour_fits ls C k fits (inr h) =
    ⊎_elim
    (λ (e : k ≡ nil). cond-true _ _ _ (eq-eqb k nil e))
    (λ (e : k ≡ nil → ⊥). cond-false _ _ _ (ne_eqb k nil e) ∙ ap seen (link_within ls C k h fits))
    (cases_eq k nil)

module _ {V : Type 0} (l : Layout V) (t : Table V) (h : Means l t) where
  pub index_vacant : (k : ℕ) → k < capacity l → slot_at l.index k ≡ nil → index_of l k ≡ Ok None
  index_vacant k b e =
      ap (λ o. then (ok_or o AuditFailed) (λ s. cond (eqb s nil) (Ok None) (result_map_both Some (λ d. d) (bounded (capacity l) s)))) (slice_get-get_or l.index k nil (omega (arith, h.indexes)))
      ∙ cond-true _ _ _ (eq-eqb (slot_at l.index k) nil e)

  pub index_holding : (k : ℕ) → k < capacity l → slot_at l.index k ≢ nil → index_of l k ≡ Ok (Some (slot_at l.index k))
  index_holding k b e =
      ap (λ o. then (ok_or o AuditFailed) (λ s. cond (eqb s nil) (Ok None) (result_map_both Some (λ d. d) (bounded (capacity l) s)))) (slice_get-get_or l.index k nil (omega (arith, h.indexes)))
      ∙ cond-false _ _ _ (ne_eqb (slot_at l.index k) nil e)
      ∙ ap (result_map_both Some (λ d. d)) (bounded_below (capacity l) (slot_at l.index k) (h.slotted k b e))

  -- a key of the free list is below the capacity
  listed : (k : ℕ) → 0 < count k t.free → k < capacity l
  listed k p = linked_below l.links (capacity l) nil l.head t.free h.free k p

  pub vacant_claims : (k : ℕ) → k < capacity l → slot_at l.index k ≡ nil → claimable l.links (capacity l) k ≡ Ok (link_at l.links k)
  vacant_claims k b e =
      let ls = l.links in
      let C = capacity l in
      let in_List = vacant_listed l t h k b e in
      let before : ((link_at ls k).previous ≡ nil) ⊎ ((link_at ls k).previous < C)
      = ⊎_elim (λ c. inl c.1) (λ c. inr (listed (link_at ls k).previous c.1)) (linked_before ls C k nil l.head t.free h.free in_List) in
      let after : ((link_at ls k).next ≡ nil) ⊎ ((link_at ls k).next < C)
      = ⊎_elim (λ c. inl c) (λ c. inr (listed (link_at ls k).next c)) (linked_after ls C k nil l.head t.free h.free in_List) in
      ap (λ r. then r (λ d. result_and (neighbour ls C d.previous) (result_and (neighbour ls C d.next) (Ok d)))) (link_within ls C k b h.linked)
      ∙ ap (λ r. result_and r (result_and (neighbour ls C (link_at ls k).next) (Ok (link_at ls k)))) (neighbour_fits ls C (link_at ls k).previous h.linked before)
      ∙ ap (λ r. result_and r (Ok (link_at ls k))) (neighbour_fits ls C (link_at ls k).next h.linked after)

  -- the slot that waits longest is a slot
  pub waits_slot : 0 < l.slots.len → (oldest_slot l.slots < capacity l) × (waiting l.slots ≡ Ok (oldest_slot l.slots))
  waits_slot some =
      let q = l.slots in
      let all : AllByRecursion (λ s. s < capacity l) (oldest_slot q ∷ contents (popped q)) = subst (AllByRecursion (λ s. s < capacity l)) (first_waits l t h some) h.queued in
      let positive : 0 < capacity l = omega (arith, some, h.within) in
      let below = mod-lt (q.start + q.capacity - q.len + 0) positive in (
        all.0,
        cond-false _ _ _ (ne_eqb q.len 0 (omega arith))
            ∙ ap (λ o. then (ok_or o AuditFailed) (bounded q.capacity)) (slice_get-get_or q.cells (place_of q 0) nil (omega (arith, h.backed)))
            ∙ bounded_below q.capacity (oldest_slot q) all.0,
      )

  pub fill_passes : (k : ℕ) → k < capacity l → slot_at l.index k ≡ nil → fill_answer l k ≡ Ok tt
  fill_passes k b e =
      let some = vacant_waits l t h k b e in
      let slot = waits_slot some in
      let few : l.len < capacity l = omega (arith, shared_out l t h) in
      let last : then (waiting l.slots) (storable l.values) ≡ Ok tt
      = ap (λ r. then r (storable l.values)) slot.1 ∙ ap passes (lt-ltb (oldest_slot l.slots) (length l.values) (omega (arith, slot.0, h.stores))) in
      let first : fillable l k ≡ Ok (link_at l.links k)
      = ap (λ r. result_and (then r vacant_only) (result_and (room l) (claimable l.links (capacity l) k))) (index_vacant k b e)
      ∙ ap (λ r. result_and (passes r) (claimable l.links (capacity l) k)) (lt-ltb l.len (capacity l) few)
      ∙ vacant_claims k b e in
      ap (λ r. result_and r (then (waiting l.slots) (storable l.values))) first ∙ last

  pub vacate_passes : (k : ℕ) → k < capacity l → slot_at l.index k ≢ nil → vacate_answer l k ≡ Ok tt
  vacate_passes k b e =
      let q = l.slots in
      let one = holding_counts l t h k b e in
      let few : q.len < q.capacity = omega (arith, one, shared_out l t h) in
      let head-fits : (l.head ≡ nil) ⊎ (l.head < capacity l)
      = ⊎_elim (λ c. inl c) (λ c. inr (listed l.head c)) (linked_first l.links (capacity l) nil l.head t.free h.free) in
      let push : push_answer q ≡ Ok tt = cond-true _ _ _ (lt-ltb q.len q.capacity few) ∙ write_within q.cells q.start (omega (arith, h.begins, h.backed)) in
      ap (λ r. result_and (passes r) (result_and (seen (link_of l.links (capacity l) k)) (result_and (neighbour l.links (capacity l) l.head) (passes (is_ok (push_answer q)))))) (lt-ltb 0 l.len one)
      ∙ ap (λ r. result_and (seen r) (result_and (neighbour l.links (capacity l) l.head) (passes (is_ok (push_answer q))))) (link_within l.links (capacity l) k b h.linked)
      ∙ ap (λ r. result_and r (passes (is_ok (push_answer q)))) (neighbour_fits l.links (capacity l) l.head h.linked head-fits)
      ∙ ap (λ r. passes (is_ok r)) push

  pub value_there : (k : ℕ) → k < capacity l → slot_at l.index k ≢ nil → (v : V) × (value_of l (slot_at l.index k) ≡ Ok v) × (t.held k ≡ Some v)
  value_there k b e =
      let s = slot_at l.index k in
      let some = nth_some l.values s (omega (arith, h.slotted k b e, h.stores)) in
      (some.0, ap (λ o. ok_or o AuditFailed) some.1, h.valued k b ∙ cell_some l.index l.values k e ∙ some.1)

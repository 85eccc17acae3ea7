-- Each step on the cells is a step of the model.
use Rattle.std.proofs.Common.{◌≡◌, ℕ, ◌+◌, ◌-◌, ◌%◌, ◌<◌, ◌≤◌, cond, eqb, ◌≢◌, List, [], ◌∷◌, ◌++◌, length, drop, set, Some, None, sym, refl, ap, ◌∙◌, subst, ⊎_elim, mod-lt, arith, length-set}
use Rattle.std.specs.List.{slice_get, AllByRecursion}
use Rattle.std.specs.Map.{update}
use Rattle.std.proofs.lemmas.List.{get_or-set_same, get_or-set_other}
use Rattle.std.proofs.ByRecursion.{All-push}
use Rattle.std.proofs.lemmas.Option.{slice_get-get_or}
use Rattle.std.proofs.lemmas.Map.{update_here, update_apart}
use Rattle.std.proofs.lemmas.Bool.{cases_eq, cases_lt, eq-eqb, ne_eqb, cond-true, cond-false}
use Rattle.model.specs.Counts.{sum_to, same, count, without}
use Rattle.model.specs.Layouts.{Layout, capacity, nil, unlinked, slot_at, link_at, oldest_slot, cut_out, filled, overwritten, emptied}
use Rattle.model.specs.Tables.{Table, stored, freed}
use Rattle.model.specs.Sound.{vacant, holds, cell, Means}
use Rattle.model.proofs.Sums.{same_yes, same_no, same_small, sum_alike, sum_change, sum_term, sum_two, sum_add, sum_ones, sum_swap, sum_none, sum_once, sum_counts, count_push, count_without_same, count_without_other}
use Rattle.model.proofs.FreeLists.{Once, linked_below, linked_first, linked_before, linked_after, linked_out, linked_front, cut_out_length, cut_out_other, cut_out_here, put_first_length, put_first_other}
use Rattle.containers.specs.Queues.{contents, pushed, popped}
use Rattle.containers.proofs.Rounds.{length_contents, nth_contents, contents_pushed, contents_popped, pushed_backed, nth_set_same, nth_set_other}

-- a list that begins with x
split_first : (xs : List ℕ) (x : ℕ) → slice_get xs 0 ≡ Some x → xs ≡ x ∷ drop 1 xs
split_first [] x e = let z : ◌≡◌ {A = ℕ} 0 1 = cc in absurd (omega arith)
split_first (y ∷ ys) x e = let p : y ≡ x = cc in ap (λ n. n ∷ ys) p

pub holds_yes : (xs : List ℕ) (k : ℕ) → slot_at xs k ≢ nil → holds xs k ≡ 1
holds_yes xs k ne = cond-false (eqb (slot_at xs k) nil) 0 1 (ne_eqb (slot_at xs k) nil ne)

pub holds_no : (xs : List ℕ) (k : ℕ) → slot_at xs k ≡ nil → holds xs k ≡ 0
holds_no xs k e = cond-true (eqb (slot_at xs k) nil) 0 1 (eq-eqb (slot_at xs k) nil e)

pub cell_none : {V : Type 0} (xs : List ℕ) (vs : List V) (k : ℕ) → slot_at xs k ≡ nil → cell xs vs k ≡ None
cell_none xs vs k e = cond-true (eqb (slot_at xs k) nil) None (slice_get vs (slot_at xs k)) (eq-eqb (slot_at xs k) nil e)

pub cell_some : {V : Type 0} (xs : List ℕ) (vs : List V) (k : ℕ) → slot_at xs k ≢ nil → cell xs vs k ≡ slice_get vs (slot_at xs k)
cell_some xs vs k e = cond-false (eqb (slot_at xs k) nil) None (slice_get vs (slot_at xs k)) (ne_eqb (slot_at xs k) nil e)

-- what a key holds hangs on its own index cell and value cell only
cell_alike : {V : Type 0} (xs ys : List ℕ) (vs ws : List V) (k : ℕ) → slot_at ys k ≡ slot_at xs k
    → (slot_at xs k ≢ nil → slice_get ws (slot_at xs k) ≡ slice_get vs (slot_at xs k)) → cell xs vs k ≡ cell ys ws k
cell_alike xs ys vs ws k e n =
    ⊎_elim
    (λ (q : slot_at xs k ≡ nil). cell_none xs vs k q ∙ sym (cell_none ys ws k (e ∙ q)))
    (λ (q : slot_at xs k ≡ nil → ⊥).
    cell_some xs vs k q ∙ sym (n q) ∙ ap (slice_get ws) (sym e) ∙ sym (cell_some ys ws k (λ r. q (sym e ∙ r))))
    (cases_eq (slot_at xs k) nil)

-- a key that holds has one slot, and a vacant one has none
owner_sum : (xs : List ℕ) (C : ℕ) → C ≤ 65535 → ((k : ℕ) → k < C → slot_at xs k ≢ nil → slot_at xs k < C)
    → (k : ℕ) → k < C → sum_to (λ s. same s (slot_at xs k)) C ≡ holds xs k
owner_sum xs C small slotted k b =
    ⊎_elim
    (λ (e : slot_at xs k ≡ nil). sum_none (slot_at xs k) C (omega arith) ∙ sym (holds_no xs k e))
    (λ (e : slot_at xs k ≡ nil → ⊥). sum_once (slot_at xs k) C (slotted k b e) ∙ sym (holds_yes xs k e))
    (cases_eq (slot_at xs k) nil)

-- the index cells, slot by slot and key by key
pub owned_sum : (xs : List ℕ) (C : ℕ) → C ≤ 65535 → ((k : ℕ) → k < C → slot_at xs k ≢ nil → slot_at xs k < C)
    → sum_to (λ s. sum_to (λ k. same s (slot_at xs k)) C) C ≡ sum_to (holds xs) C
owned_sum xs C small slotted = sum_swap (λ s k. same s (slot_at xs k)) C C ∙ sum_alike _ _ C (owner_sum xs C small slotted)

-- each key holds or is vacant
pub split_sum : (xs : List ℕ) (C : ℕ) → sum_to (holds xs) C + sum_to (vacant xs) C ≡ C
split_sum xs C =
    sym (sum_add (holds xs) (vacant xs) C)
    ∙ sum_ones (λ k. holds xs k + vacant xs k) C
    (λ k _.
    ⊎_elim
    (λ (e : slot_at xs k ≡ nil). omega (arith, holds_no xs k e, same_yes (slot_at xs k) nil e))
    (λ (e : slot_at xs k ≡ nil → ⊥). omega (arith, holds_yes xs k e, same_no (slot_at xs k) nil e))
    (cases_eq (slot_at xs k) nil))

module _ {V : Type 0} (l : Layout V) (t : Table V) (h : Means l t) where
  pub once : Once t.free
  once j =
      ⊎_elim
      (λ (b : j < capacity l). omega (arith, h.keys j b, same_small (slot_at l.index j) nil))
      (λ (b : capacity l ≤ j).
      ⊎_elim
      (λ (p : 0 < count j t.free). omega (arith, linked_below l.links (capacity l) nil l.head t.free h.free j p))
      (λ (p : count j t.free ≤ 0). omega arith)
      (cases_lt 0 (count j t.free)))
      (cases_lt j (capacity l))

  -- holding keys and waiting slots together are as many as there are slots
  pub shared_out : l.len + l.slots.len ≡ capacity l
  shared_out =
      let C = capacity l in
      let A : ℕ → ℕ = λ s. sum_to (λ k. same s (slot_at l.index k)) C in
      let B : ℕ → ℕ = λ s. count s (contents l.slots) in
      let all : sum_to (λ s. A s + B s) C ≡ C = sum_ones (λ s. A s + B s) C h.shared in
      let parts : sum_to (λ s. A s + B s) C ≡ sum_to A C + sum_to B C = sum_add A B C in
      let a : sum_to A C ≡ l.len = owned_sum l.index C h.small h.slotted ∙ sym h.counted in
      let b : sum_to B C ≡ l.slots.len = sum_counts C (contents l.slots) h.queued ∙ length_contents l.slots h.within h.backed in
      omega (arith, all, parts, a, b)

  -- while a key is vacant, a slot waits
  pub vacant_waits : (k : ℕ) → k < capacity l → slot_at l.index k ≡ nil → 0 < l.slots.len
  vacant_waits k b e =
      let C = capacity l in
      let both = split_sum l.index C in
      let one = sum_term (vacant l.index) k C b in
      omega (arith, both, one, same_yes (slot_at l.index k) nil e, shared_out, h.counted)

  -- a holding key is counted
  pub holding_counts : (k : ℕ) → k < capacity l → slot_at l.index k ≢ nil → 0 < l.len
  holding_counts k b e = omega (arith, sum_term (holds l.index) k (capacity l) b, holds_yes l.index k e, h.counted)

  -- no two keys hold one slot
  pub slots_apart : (j k : ℕ) → j < capacity l → k < capacity l → j ≢ k → slot_at l.index k ≢ nil
      → slot_at l.index j ≢ slot_at l.index k
  slots_apart j k bj bk ne e q =
      let s = slot_at l.index k in
      let f : ℕ → ℕ = λ i. same s (slot_at l.index i) in
      let one = h.shared s (h.slotted k bk e) in
      let fj : f j ≡ 1 = same_yes s (slot_at l.index j) (sym q) in
      let fk : f k ≡ 1 = same_yes s (slot_at l.index k) refl in
      ⊎_elim
      (λ (b : j < k). omega (arith, one, fj, fk, sum_two f j k (capacity l) b bk))
      (λ (b : k ≤ j). omega (arith, one, fj, fk, sum_two f k j (capacity l) (omega arith) bj))
      (cases_lt j k)

  -- an overwritten value
  pub overwritten_means : (k : ℕ) (v : V) → k < capacity l → slot_at l.index k ≢ nil
      → Means (overwritten l k v) (stored t k v t.free)
  overwritten_means k v b e =
      let s = slot_at l.index k in
      let room : s < length l.values = omega (arith, h.slotted k b e, h.stores) in
      record {
        size = h.size;
        small = h.small;
        indexes = h.indexes;
        linked = h.linked;
        stores = omega (arith, h.stores, length-set l.values s v);
        backed = h.backed;
        begins = h.begins;
        within = h.within;
        free = h.free;
        keys = h.keys;
        loose = h.loose;
        slotted = h.slotted;
        queued = h.queued;
        shared = h.shared;
        counted = h.counted;
        valued = λ j bj.
            ⊎_elim
            (λ (q : j ≡ k).
            subst (λ n. update eqb t.held k (Some v) n ≡ cell l.index (set l.values s v) n) (sym q)
            (update_here t.held k (Some v)
            ∙ sym (nth_set_same l.values s v room)
            ∙ sym (cell_some l.index (set l.values s v) k e)))
            (λ (q : j ≡ k → ⊥).
            update_apart t.held k (Some v) j q
            ∙ h.valued j bj
            ∙ cell_alike l.index l.index l.values (set l.values s v) j refl
            (λ _. nth_set_other l.values s (slot_at l.index j) v (slots_apart j k bj b q e)))
            (cases_eq j k);
      }

  -- a vacant key stands in the free list, and a holding one does not
  pub vacant_listed : (k : ℕ) → k < capacity l → slot_at l.index k ≡ nil → 0 < count k t.free
  vacant_listed k b e = omega (arith, h.keys k b, same_yes (slot_at l.index k) nil e)

  pub holding_loose : (k : ℕ) → k < capacity l → slot_at l.index k ≢ nil → count k t.free ≡ 0
  holding_loose k b e = h.keys k b ∙ same_no (slot_at l.index k) nil e

  -- the slot that waits longest is the first of those that wait
  pub first_waits : 0 < l.slots.len → contents l.slots ≡ oldest_slot l.slots ∷ contents (popped l.slots)
  first_waits some =
      let sized = length_contents l.slots h.within h.backed in
      let positive : 0 < capacity l = omega (arith, some, h.within) in
      let below = mod-lt (l.slots.start + capacity l - l.slots.len + 0) positive in
      let first : slice_get (contents l.slots) 0 ≡ Some (oldest_slot l.slots)
      = nth_contents l.slots h.within h.backed 0 some ∙ slice_get-get_or l.slots.cells _ nil (omega (arith, below, h.backed)) in
      split_first (contents l.slots) (oldest_slot l.slots) first ∙ ap (λ xs. oldest_slot l.slots ∷ xs) (sym (contents_popped l.slots h.begins h.within h.backed))

  -- a holding key is not beside a vacant one
  apart_before : (j k : ℕ) → j < capacity l → k < capacity l → slot_at l.index j ≢ nil → slot_at l.index k ≡ nil
      → j ≢ (link_at l.links k).previous
  apart_before j k bj bk ej ek q =
      ⊎_elim
      (λ (c : (l.head ≡ k) × ((link_at l.links k).previous ≡ nil)). omega (arith, c.1, h.small))
      (λ (c : (l.head ≢ k) × (0 < count (link_at l.links k).previous t.free)).
      omega (arith, c.1, holding_loose j bj ej, ap (λ n. count n t.free) q))
      (linked_before l.links (capacity l) k nil l.head t.free h.free (vacant_listed k bk ek))

  apart_after : (j k : ℕ) → j < capacity l → k < capacity l → slot_at l.index j ≢ nil → slot_at l.index k ≡ nil
      → j ≢ (link_at l.links k).next
  apart_after j k bj bk ej ek q =
      ⊎_elim
      (λ (c : (link_at l.links k).next ≡ nil). omega (arith, c, h.small))
      (λ (c : 0 < count (link_at l.links k).next t.free).
      omega (arith, c, holding_loose j bj ej, ap (λ n. count n t.free) q))
      (linked_after l.links (capacity l) k nil l.head t.free h.free (vacant_listed k bk ek))

  apart_head : (j : ℕ) → j < capacity l → slot_at l.index j ≢ nil → j ≢ l.head
  apart_head j bj ej q =
      ⊎_elim
      (λ (c : l.head ≡ nil). omega (arith, c, h.small))
      (λ (c : 0 < count l.head t.free). omega (arith, c, holding_loose j bj ej, ap (λ n. count n t.free) q))
      (linked_first l.links (capacity l) nil l.head t.free h.free)

  -- a filled key
  pub filled_means : (k : ℕ) (v : V) → k < capacity l → slot_at l.index k ≡ nil
      → Means (filled l k v) (stored t k v (without k t.free))
  filled_means k v b e =
      let C = capacity l in
      let xs = l.index in
      let s = oldest_slot l.slots in
      let ys = set xs k s in
      let some = vacant_waits k b e in
      let split : contents l.slots ≡ s ∷ contents (popped l.slots) = first_waits some in
      let all : (s < C) × AllByRecursion (λ t. t < C) (contents (popped l.slots)) = subst (AllByRecursion (λ t. t < C)) split h.queued in
      let sn : s ≢ nil = omega (arith, all.0, h.small) in
      let kx : k < length xs = omega (arith, b, h.indexes) in
      let here : slot_at ys k ≡ s = get_or-set_same xs k s nil kx in
      let there : (j : ℕ) → j ≢ k → slot_at ys j ≡ slot_at xs j = λ j ne. get_or-set_other xs k j s nil ne in
      let hereN : slot_at ys k ≢ nil = λ q. sn (sym here ∙ q) in
      let room : s < length l.values = omega (arith, all.0, h.stores) in
      -- no key has the slot s
      let free : (j : ℕ) → j < C → slot_at xs j ≢ s = λ j bj q.
      omega (
        arith,
        h.shared s all.0,
        ap (count s) split,
        same_yes s s refl,
        sum_term (λ i. same s (slot_at xs i)) j C bj,
        same_yes s (slot_at xs j) (sym q),
      ) in
      record {
        size = h.size;
        small = h.small;
        indexes = omega (arith, h.indexes, length-set xs k s);
        linked = omega (arith, h.linked, cut_out_length l.links k (link_at l.links k));
        stores = omega (arith, h.stores, length-set l.values s v);
        backed = h.backed;
        begins = h.begins;
        within = omega (arith, h.within);
        free = linked_out l.links C h.small h.linked k l.head t.free (vacant_listed k b e) once h.free;
        keys = λ j bj.
            ⊎_elim
            (λ (q : j ≡ k).
            let p : count k (without k t.free) ≡ vacant ys k =
            omega (arith, count_without_same k t.free (vacant_listed k b e), once k, same_no (slot_at ys k) nil hereN) in
            subst (λ n. count n (without k t.free) ≡ vacant ys n) (sym q) p)
            (λ (q : j ≡ k → ⊥).
            count_without_other j k t.free q ∙ h.keys j bj ∙ ap (λ n. same n nil) (sym (there j q)))
            (cases_eq j k);
        loose = λ j bj hj.
            ⊎_elim
            (λ (q : j ≡ k).
            let z = cut_out_length l.links k (link_at l.links k) in
            subst (λ n. link_at (cut_out l.links k (link_at l.links k)) n ≡ unlinked) (sym q)
            (cut_out_here l.links k (link_at l.links k) (omega (arith, b, h.linked))))
            (λ (q : j ≡ k → ⊥).
            let ej : slot_at xs j ≢ nil = λ r. hj (there j q ∙ r) in
            cut_out_other l.links k (link_at l.links k) j q (apart_before j k bj b ej e) (apart_after j k bj b ej e)
            ∙ h.loose j bj ej)
            (cases_eq j k);
        slotted = λ j bj hj.
            ⊎_elim
            (λ (q : j ≡ k). subst (λ n. slot_at ys n < C) (sym q) (subst (λ n. n < C) (sym here) all.0))
            (λ (q : j ≡ k → ⊥). subst (λ n. n < C) (sym (there j q)) (h.slotted j bj (λ r. hj (there j q ∙ r))))
            (cases_eq j k);
        queued = all.1;
        shared = λ u bu.
            let f : ℕ → ℕ = λ j. same u (slot_at ys j) in
            let g : ℕ → ℕ = λ j. same u (slot_at xs j) in
            let c : sum_to f C + g k ≡ sum_to g C + f k =
            sum_change f g k C b (λ j _ ne. ap (same u) (there j ne)) in
            let fk : f k ≡ same u s = ap (same u) here in
            let gk : g k ≡ 0 = ap (same u) e ∙ same_no u nil (omega (arith, bu, h.small)) in
            let w : count u (contents l.slots) ≡ same u s + count u (contents (popped l.slots)) = ap (count u) split in
            let old = h.shared u bu in
            omega (arith, c, fk, gk, w, old);
        counted =
            let c : sum_to (holds ys) C + holds xs k ≡ sum_to (holds xs) C + holds ys k =
            sum_change (holds ys) (holds xs) k C b (λ j _ ne. ap (λ n. cond (eqb n nil) 0 1) (there j ne)) in
            omega (arith, c, holds_no xs k e, holds_yes ys k hereN, h.counted);
        valued = λ j bj.
            ⊎_elim
            (λ (q : j ≡ k).
            subst (λ n. update eqb t.held k (Some v) n ≡ cell ys (set l.values s v) n) (sym q)
            (update_here t.held k (Some v)
            ∙ sym (nth_set_same l.values s v room)
            ∙ ap (slice_get (set l.values s v)) (sym here)
            ∙ sym (cell_some ys (set l.values s v) k hereN)))
            (λ (q : j ≡ k → ⊥).
            update_apart t.held k (Some v) j q
            ∙ h.valued j bj
            ∙ cell_alike xs ys l.values (set l.values s v) j (there j q)
            (λ _. nth_set_other l.values s (slot_at xs j) v (free j bj)))
            (cases_eq j k);
      }

  -- an emptied key
  pub emptied_means : (k : ℕ) → k < capacity l → slot_at l.index k ≢ nil → Means (emptied l k) (freed t k)
  emptied_means k b e =
      let C = capacity l in
      let xs = l.index in
      let s = slot_at xs k in
      let ys = set xs k nil in
      let kx : k < length xs = omega (arith, b, h.indexes) in
      let here : slot_at ys k ≡ nil = get_or-set_same xs k nil nil kx in
      let there : (j : ℕ) → j ≢ k → slot_at ys j ≡ slot_at xs j = λ j ne. get_or-set_other xs k j nil nil ne in
      let one = holding_counts k b e in
      let room : l.slots.len < C = omega (arith, one, shared_out) in
      let begins : l.slots.start < C = omega (arith, h.begins, b) in
      let push : contents (pushed l.slots s) ≡ contents l.slots ++ s ∷ [] =
      contents_pushed l.slots h.begins h.within h.backed s room in
      let z = holding_loose k b e in
      record {
        size = h.size;
        small = h.small;
        indexes = omega (arith, h.indexes, length-set xs k nil);
        linked = omega (arith, h.linked, put_first_length l.links l.head k);
        stores = h.stores;
        backed = pushed_backed l.slots h.begins h.within h.backed s;
        begins = let r : (l.slots.start + 1) % C < C = mod-lt (l.slots.start + 1) (omega (arith, b)) in omega (arith, r);
        within = omega (arith, room);
        free = linked_front l.links C h.small h.linked k l.head t.free b z once h.free;
        keys = λ j bj.
            ⊎_elim
            (λ (q : j ≡ k).
            let p : count k (k ∷ t.free) ≡ vacant ys k =
            omega (arith, z, same_yes k k refl, same_yes (slot_at ys k) nil here) in
            subst (λ n. count n (k ∷ t.free) ≡ vacant ys n) (sym q) p)
            (λ (q : j ≡ k → ⊥).
            let p : vacant ys j ≡ vacant xs j = ap (λ n. same n nil) (there j q) in
            omega (arith, p, h.keys j bj, same_no j k q))
            (cases_eq j k);
        loose = λ j bj hj.
            ⊎_elim
            (λ (q : j ≡ k). absurd (hj (ap (slot_at ys) q ∙ here)))
            (λ (q : j ≡ k → ⊥).
            let ej : slot_at xs j ≢ nil = λ r. hj (there j q ∙ r) in
            put_first_other l.links l.head k j q (apart_head j bj ej) ∙ h.loose j bj ej)
            (cases_eq j k);
        slotted = λ j bj hj.
            ⊎_elim
            (λ (q : j ≡ k). absurd (hj (ap (slot_at ys) q ∙ here)))
            (λ (q : j ≡ k → ⊥). subst (λ n. n < C) (sym (there j q)) (h.slotted j bj (λ r. hj (there j q ∙ r))))
            (cases_eq j k);
        queued = subst (AllByRecursion (λ t. t < C)) (sym push) (All-push (λ t. t < C) (contents l.slots) s h.queued (h.slotted k b e));
        shared = λ u bu.
            let f : ℕ → ℕ = λ j. same u (slot_at ys j) in
            let g : ℕ → ℕ = λ j. same u (slot_at xs j) in
            let c : sum_to f C + g k ≡ sum_to g C + f k =
            sum_change f g k C b (λ j _ ne. ap (same u) (there j ne)) in
            let fk : f k ≡ 0 = ap (same u) here ∙ same_no u nil (omega (arith, bu, h.small)) in
            let w : count u (contents (pushed l.slots s)) ≡ count u (contents l.slots) + same u s = ap (count u) push ∙ count_push u (contents l.slots) s in
            let old = h.shared u bu in
            omega (arith, c, fk, w, old);
        counted =
            let c : sum_to (holds ys) C + holds xs k ≡ sum_to (holds xs) C + holds ys k =
            sum_change (holds ys) (holds xs) k C b (λ j _ ne. ap (λ n. cond (eqb n nil) 0 1) (there j ne)) in
            omega (arith, c, holds_no ys k here, holds_yes xs k e, h.counted);
        valued = λ j bj.
            ⊎_elim
            (λ (q : j ≡ k).
            subst (λ n. update eqb t.held k None n ≡ cell ys l.values n) (sym q)
            (update_here t.held k None ∙ sym (cell_none ys l.values k here)))
            (λ (q : j ≡ k → ⊥).
            update_apart t.held k None j q
            ∙ h.valued j bj
            ∙ cell_alike xs ys l.values l.values j (there j q) (λ _. refl))
            (cases_eq j k);
      }

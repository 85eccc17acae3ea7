-- The parts of the audit together are what makes cells stand.
use Rattle.std.proofs.Common.{◌≡◌, ℕ, ◌+◌, ◌-◌, ◌%◌, ◌<◌, ◌≤◌, Bool, false, List, get_or, replicate, Some, sym, refl, ap, ◌∙◌, subst, ⊎_elim, mod-lt, mod-eq_of_lt, zero-add, arith}
use lib.ListN.{get_or-replicate}
use Rattle.std.proofs.ByRecursion.{All-get_or, All-from_get_or}
use Rattle.std.proofs.lemmas.Option.{slice_get-get_or}
use Rattle.std.proofs.lemmas.Bool.{cases_eq, cases_lt}
use Rattle.containers.specs.Queues.{QueueState, Backed, contents, place_of}
use Rattle.containers.proofs.Rounds.{length_contents, nth_contents}
use Rattle.model.specs.Counts.{sum_to, same, count}
use Rattle.model.specs.Layouts.{Layout, capacity, nil, slot_at}
use Rattle.model.specs.Sound.{vacant, holds, stored_table, Stands}
use Rattle.model.proofs.Sums.{same_yes, same_no, sum_alike, sum_add, sum_ones, sum_counts}
use Rattle.model.proofs.FreeLists.{linked_below}
use Rattle.model.proofs.Refines.{owned_sum, split_sum, shared_out}
use Rattle.audit.specs.Parts.{Sized, Listed, Loose, bit, given, ring, Apart, Marked, Shared}
use Rattle.audit.proofs.Sums.{sum_tight, count_sum, all_counted, counted_all}
use Rattle.audit.proofs.Walks.{linked_all, linked_once}
use Rattle.audit.proofs.Marks.{bit_small, given_yes, given_no, given_small}

-- the marks of the index cells and of the queue
module _ (xs : List ℕ) (q : QueueState ℕ) (n : ℕ) (small : q.capacity ≤ 65535) (within : q.len ≤ q.capacity) (backed : Backed q) where
  -- at first no slot has a mark
  abbrev clear : List Bool
  clear = replicate 65535 false

  none : (s : ℕ) → s < q.capacity → get_or clear s false ≡ false
  none s b = get_or-replicate 65535 s false false (omega (arith, small, b))

  at_key : (k : ℕ) → k < q.capacity → ring xs q.capacity 0 k ≡ slot_at xs k
  at_key k b = ap (λ i. slot_at xs (i % q.capacity)) (zero-add k) ∙ ap (slot_at xs) (mod-eq_of_lt b)

  abbrev waits : ℕ → ℕ
  waits i = ring q.cells q.capacity (q.start + q.capacity - q.len) i

  at_place : (i : ℕ) → i < q.len → get_or (contents q) i nil ≡ waits i
  at_place i b =
      let sized = length_contents q within backed in
      let some : 0 < q.capacity = omega arith in
      let place = mod-lt (q.start + q.capacity - q.len + i) some in
      let l = slice_get-get_or (contents q) i nil (omega arith) in
      let m = nth_contents q within backed i b in
      let r = slice_get-get_or q.cells (place_of q i) nil (omega arith) in
      let both : Some (get_or (contents q) i nil) ≡ Some (waits i) = sym l ∙ m ∙ r in
      cc

  keys_sum : (s : ℕ) → sum_to (λ i. same s (ring xs q.capacity 0 i)) q.capacity ≡ sum_to (λ k. same s (slot_at xs k)) q.capacity
  keys_sum s = sum_alike _ _ q.capacity (λ k b. ap (same s) (at_key k b))

  holds_sum : sum_to (λ i. given (ring xs q.capacity 0 i)) q.capacity ≡ sum_to (holds xs) q.capacity
  holds_sum = sum_alike _ _ q.capacity (λ k b. ap given (at_key k b))

  queue_sum : (s : ℕ) → count s (contents q) ≡ sum_to (λ i. same s (waits i)) q.len
  queue_sum s =
      count_sum s nil (contents q)
      ∙ ap (sum_to (λ i. same s (get_or (contents q) i nil))) (length_contents q within backed)
      ∙ sum_alike _ _ q.len (λ i b. ap (same s) (at_place i b))

  pub shared_from : (now next : List Bool) → Marked clear now q.capacity (ring xs q.capacity 0) q.capacity n
      → Marked now next q.capacity waits q.len q.len → Shared xs q n
  shared_from now next keys queue =
      record {
        slotted = λ k b ne. subst (λ s. s < q.capacity) (at_key k b) (keys.slots k b (λ e. ne (sym (at_key k b) ∙ e)));
        counted = keys.number ∙ holds_sum;
        queued =
            All-from_get_or (λ s. s < q.capacity) (contents q) nil
            (λ i b.
            let within' : i < q.len = omega (arith, length_contents q within backed) in
            let one : given (waits i) ≡ 1 =
            sum_tight (λ j. given (waits j)) (λ _. 1) q.len (λ j _. given_small (waits j)) (omega (arith, queue.number, sum_ones (λ _. 1) q.len (λ _ _. refl))) i within' in
            subst (λ s. s < q.capacity) (sym (at_place i within')) (queue.slots i within' (λ e. omega (arith, one, given_no (waits i) e))));
        apart = λ s b. omega (arith, keys.marks s b, queue.marks s b, ap bit (none s b), bit_small (get_or next s false), keys_sum s, queue_sum s);
      }

  pub shared_keys : Shared xs q n → Apart clear q.capacity (ring xs q.capacity 0) q.capacity n
  shared_keys h =
      record {
        slots = λ k b ne. subst (λ s. s < q.capacity) (sym (at_key k b)) (h.slotted k b (λ e. ne (at_key k b ∙ e)));
        number = h.counted ∙ sym holds_sum;
        once = λ s b. omega (arith, h.apart s b, keys_sum s, ap bit (none s b));
      }

  waits_below : Shared xs q n → (i : ℕ) → i < q.len → waits i < q.capacity
  waits_below h i b =
      subst (λ s. s < q.capacity) (at_place i b) (All-get_or (λ s. s < q.capacity) (contents q) i nil (omega (arith, length_contents q within backed)) h.queued)

  pub shared_queue : (now : List Bool) → Marked clear now q.capacity (ring xs q.capacity 0) q.capacity n
      → Shared xs q n → Apart now q.capacity waits q.len q.len
  shared_queue now keys h =
      record {
        slots = λ i b _. waits_below h i b;
        number = sym (sum_ones (λ i. given (waits i)) q.len (λ i b. given_yes (waits i) (omega (arith, waits_below h i b))));
        once = λ s b. omega (arith, h.apart s b, keys.marks s b, keys_sum s, queue_sum s, ap bit (none s b));
      }

module _ {V : Type 0} (l : Layout V) where
  pub stands_from : Sized l → Listed l.index l.links (capacity l) l.head l.slots.len
      → Loose l.index l.links (capacity l) → Shared l.index l.slots l.len → Stands l
  stands_from z f o h =
      let C = capacity l in
      let xs = l.index in
      let ks = f.0 in
      let keys_below = linked_all l.links C nil l.head ks f.1 in
      let not-nil : count nil ks ≡ 0 =
      ⊎_elim
      (λ (some : 0 < count nil ks). absurd (omega (arith, z.small, linked_below l.links C nil l.head ks f.1 nil some)))
      (λ (few : count nil ks ≤ 0). omega arith)
      (cases_lt 0 (count nil ks)) in
      let once = linked_once l.links C nil l.head ks f.1 not-nil in
      let A : ℕ → ℕ = λ s. sum_to (λ k. same s (slot_at xs k)) C in
      let B : ℕ → ℕ = λ s. count s (contents l.slots) in
      let waiting : sum_to B C ≡ l.slots.len = sum_counts C (contents l.slots) h.queued ∙ length_contents l.slots z.within z.backed in
      let holding : sum_to A C ≡ sum_to (holds xs) C = owned_sum xs C z.small h.slotted in (
        ks,
        record {
          size = refl;
          small = z.small;
          indexes = z.indexes;
          linked = z.linked;
          stores = z.stores;
          backed = z.backed;
          begins = z.begins;
          within = z.within;
          free = f.1;
          keys =
              sum_tight (λ k. count k ks) (vacant xs) C
              (λ k _.
              ⊎_elim
              (λ (some : 0 < count k ks). omega (arith, once k, same_yes (slot_at xs k) nil (counted_all (λ j. slot_at xs j ≡ nil) ks f.2 k some)))
              (λ (few : count k ks ≤ 0). omega arith)
              (cases_lt 0 (count k ks)))
              (omega (arith, sum_counts C ks keys_below, f.3, split_sum xs C, h.counted, z.total, z.within));
          loose = o;
          slotted = h.slotted;
          queued = h.queued;
          shared =
              sum_tight (λ s. A s + B s) (λ _. 1) C h.apart
              (omega (arith, sum_add A B C, holding, waiting, h.counted, z.total, z.within, sum_ones (λ _. 1) C (λ _ _. refl)));
          counted = h.counted;
          valued = λ _ _. refl;
        },
      )

  pub stands_sized : Stands l → Sized l
  stands_sized (ks, h) =
      record {
        small = h.small;
        indexes = h.indexes;
        linked = h.linked;
        stores = h.stores;
        backed = h.backed;
        begins = h.begins;
        within = h.within;
        total = omega (arith, shared_out l (stored_table l ks) h);
      }

  pub stands_listed : Stands l → Listed l.index l.links (capacity l) l.head l.slots.len
  stands_listed (ks, h) =
      let C = capacity l in
      let xs = l.index in (
        ks,
        h.free,
        all_counted (λ k. slot_at xs k ≡ nil) ks
            (λ k some.
            ⊎_elim
            (λ (e : slot_at xs k ≡ nil). e)
            (λ (e : slot_at xs k ≡ nil → ⊥).
            absurd (omega (arith, h.keys k (linked_below l.links C nil l.head ks h.free k some), same_no (slot_at xs k) nil e)))
            (cases_eq (slot_at xs k) nil)),
        omega (arith, sum_counts C ks (linked_all l.links C nil l.head ks h.free), sum_alike (λ k. count k ks) (vacant xs) C h.keys, split_sum xs C, h.counted, shared_out l (stored_table l ks) h),
      )

  pub stands_loose : Stands l → Loose l.index l.links (capacity l)
  stands_loose (ks, h) = h.loose

  pub stands_shared : Stands l → Shared l.index l.slots l.len
  stands_shared (ks, h) =
      record { slotted = h.slotted; counted = h.counted; queued = h.queued; apart = λ s b. omega (arith, h.shared s b) }

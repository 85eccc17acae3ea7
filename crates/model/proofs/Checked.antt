-- What a passed check tells.
use Rattle.std.proofs.Common.{◌≡◌, ℕ, zero, suc, ◌<◌, true, false, eqb, ltb, ◌⊎◌, List, [], ◌∷◌, length, get_or, Some, Ok, Err, Result, sym, refl, ap, ◌∙◌, subst, inl, inr, ⊎_elim, arith}
use Rattle.std.proofs.lemmas.Bool.{cases_Bool, cases_eq, cond-true, cond-false, ltb-true, eqb-false, ne_eqb}
use Rattle.std.specs.List.{slice_get}
use Rattle.std.specs.Option.{ok_or}
use Rattle.std.specs.Result.{result_and, result_map_both}
use Rattle.refusal.specs.declared.Refusal.{Refusal}
use Rattle.refusal.specs.declared.Refusal.TheVariants.{AuditFailed}
use Rattle.rows.specs.declared.cell.FreeListEntry.{FreeListEntry}
use Rattle.containers.specs.Queues.{QueueState, place_of}
use Rattle.model.specs.Layouts.{Layout, capacity, nil, slot_at, link_at, unlinked, oldest_slot}
use Rattle.model.specs.Checks.{then, seen, bounded, link_of, claimable, fillable, waiting, neighbour, index_of, vacant_only, room, storable, store_answer, slot_of}

-- a check that follows another: both passed
pub then_ok : {A B : Type 0} (r : Result A Refusal) (f : A → Result B Refusal) (y : B) → then r f ≡ Ok y → (x : A) × (r ≡ Ok x) × (f x ≡ Ok y)
then_ok (Ok x) f y e = (x, refl, e)
then_ok (Err d) f y e = let z : ◌≡◌ {A = ℕ} 0 1 = cc in absurd (omega arith)

pub both_ok : {A B : Type 0} (r : Result A Refusal) (s : Result B Refusal) (y : B) → result_and r s ≡ Ok y → (x : A) × (r ≡ Ok x) × (s ≡ Ok y)
both_ok (Ok x) s y e = (x, refl, e)
both_ok (Err d) s y e = let z : ◌≡◌ {A = ℕ} 0 1 = cc in absurd (omega arith)

pub bounded_ok : (C n m : ℕ) → bounded C n ≡ Ok m → (n < C) × (n ≡ m)
bounded_ok C n m e =
    ⊎_elim
    (λ (yes-below : ltb n C ≡ true). let p = sym (cond-true _ _ _ yes-below) ∙ e in let q : n ≡ m = cc in (ltb-true n C yes-below, q))
    (λ (no-below : ltb n C ≡ false). let p = sym (cond-false _ _ _ no-below) ∙ e in let z : ◌≡◌ {A = ℕ} 0 1 = cc in absurd (omega arith))
    (cases_Bool (ltb n C))

pub found_ok : {T : Type 0} (xs : List T) (i : ℕ) (d : T) (x : T) → ok_or (slice_get xs i) AuditFailed ≡ Ok x → (i < length xs) × (x ≡ get_or xs i d)
found_ok [] i d x e = let z : ◌≡◌ {A = ℕ} 0 1 = cc in absurd (omega arith)
found_ok (y ∷ ys) zero d x e = let p : x ≡ y = cc in (omega arith, p)
found_ok (y ∷ ys) (suc i) d x e = let r = found_ok ys i d x e in (omega arith, r.1)

pub link_ok : (ls : List FreeListEntry) (C k : ℕ) (e : FreeListEntry) → link_of ls C k ≡ Ok e → (k < C) × (k < length ls) × (e ≡ link_at ls k)
link_ok ls C k e p =
    let one = then_ok (bounded C k) (λ n. ok_or (slice_get ls n) AuditFailed) e p in
    let two = bounded_ok C k one.0 one.1 in
    let three = found_ok ls k unlinked e (ap (λ n. ok_or (slice_get ls n) AuditFailed) two.1 ∙ one.2) in
    (two.0, three.0, three.1)

pub claim_ok : (ls : List FreeListEntry) (C k : ℕ) (e : FreeListEntry) → claimable ls C k ≡ Ok e → link_of ls C k ≡ Ok e
claim_ok ls C k e p =
    let one = then_ok (link_of ls C k) _ e p in
    let two = both_ok (neighbour ls C one.0.previous) _ e one.2 in
    let three = both_ok (neighbour ls C one.0.next) _ e two.2 in
    let four : one.0 ≡ e = cc three.2 in
    one.1 ∙ ap Ok four

-- a neighbour that can be linked is nil, or a key
pub neighbour_ok : (ls : List FreeListEntry) (C k : ℕ) (u : Unit {0}) → neighbour ls C k ≡ Ok u → (k ≡ nil) ⊎ (k < C)
neighbour_ok ls C k u p =
    ⊎_elim
    (λ (none : k ≡ nil). inl none)
    (λ (some : k ≡ nil → ⊥).
    let e = sym (cond-false _ _ _ (ne_eqb k nil some)) ∙ p in
    inr (found (link_of ls C k) e (λ x q. (link_ok ls C k x q).0)))
    (cases_eq k nil)
  where
    found : (r : Result FreeListEntry Refusal) → seen r ≡ Ok u → ((x : FreeListEntry) → r ≡ Ok x → k < C) → k < C
    found (Ok x) e then-below = then-below x refl
    found (Err d) e then-below = let z : ◌≡◌ {A = ℕ} 0 1 = cc in absurd (omega arith)

pub claim_beside : (ls : List FreeListEntry) (C k : ℕ) (e : FreeListEntry) → claimable ls C k ≡ Ok e
    → ((e.previous ≡ nil) ⊎ (e.previous < C)) × ((e.next ≡ nil) ⊎ (e.next < C))
claim_beside ls C k e p =
    let one = then_ok (link_of ls C k) _ e p in
    let two = both_ok (neighbour ls C one.0.previous) _ e one.2 in
    let three = both_ok (neighbour ls C one.0.next) _ e two.2 in
    let four : one.0 ≡ e = cc three.2 in (
      subst (λ d. (d.previous ≡ nil) ⊎ (d.previous < C)) four (neighbour_ok ls C one.0.previous two.0 two.1),
      subst (λ d. (d.next ≡ nil) ⊎ (d.next < C)) four (neighbour_ok ls C one.0.next three.0 three.1),
    )

-- a key that can be filled can leave the free list
pub fillable_claims : {V : Type 0} (l : Layout V) (k : ℕ) (e : FreeListEntry) → fillable l k ≡ Ok e → claimable l.links (capacity l) k ≡ Ok e
fillable_claims l k e p =
    let one = both_ok (then (index_of l k) vacant_only) _ e p in
    (both_ok (room l) _ e one.2).2

-- and leaves room, so that its value can be stored where the slot that waits longest has a cell for it
pub fillable_stores : {V : Type 0} (l : Layout V) (k : ℕ) (e : FreeListEntry) → fillable l k ≡ Ok e → store_answer l ≡ then (waiting l.slots) (storable l.values)
fillable_stores l k e p =
    let one = both_ok (then (index_of l k) vacant_only) _ e p in
    let two = both_ok (room l) _ e one.2 in
    ap (λ r. result_and r (then (waiting l.slots) (storable l.values))) two.1

pub fillable_ok : {V : Type 0} (l : Layout V) (k : ℕ) (e : FreeListEntry) → fillable l k ≡ Ok e → e ≡ link_at l.links k
fillable_ok l k e p = (link_ok l.links (capacity l) k e (claim_ok l.links (capacity l) k e (fillable_claims l k e p))).2

pub waiting_ok : (q : QueueState ℕ) (s : ℕ) → waiting q ≡ Ok s → (0 < q.len) × (s < q.capacity) × (s ≡ oldest_slot q)
waiting_ok q s p =
    ⊎_elim
    (λ (none : eqb q.len 0 ≡ true). let e = sym (cond-true _ _ _ none) ∙ p in let z : ◌≡◌ {A = ℕ} 0 1 = cc in absurd (omega arith))
    (λ (some : eqb q.len 0 ≡ false).
    let e = sym (cond-false _ _ _ some) ∙ p in
    let one = then_ok (ok_or (slice_get q.cells (place_of q 0)) AuditFailed) (bounded q.capacity) s e in
    let two = found_ok q.cells (place_of q 0) nil one.0 one.1 in
    let three = bounded_ok q.capacity one.0 s one.2 in
    (omega (arith, eqb-false q.len 0 some), omega arith, sym three.1 ∙ two.1))
    (cases_Bool (eqb q.len 0))

-- a value that can be stored has a slot
pub store_ok : {V : Type 0} (l : Layout V) (u : Unit {0}) → store_answer l ≡ Ok u → oldest_slot l.slots < capacity l
store_ok l u p =
    let one = both_ok (room l) _ u p in
    let two = then_ok (waiting l.slots) (storable l.values) u one.2 in
    let slot = waiting_ok l.slots two.0 two.1 in
    omega (arith, slot.1, slot.2)

-- a slot that was answered is the key's index cell, and below the capacity
pub index_ok : {V : Type 0} (l : Layout V) (k s : ℕ) → index_of l k ≡ Ok (Some s) → (s ≡ slot_at l.index k) × (s < capacity l)
index_ok l k s p =
    let one = then_ok (ok_or (slice_get l.index k) AuditFailed) _ (Some s) p in
    let two = found_ok l.index k nil one.0 one.1 in
    ⊎_elim
    (λ (none : eqb one.0 nil ≡ true). let e = sym (cond-true _ _ _ none) ∙ one.2 in let z : ◌≡◌ {A = ℕ} 0 1 = cc in absurd (omega arith))
    (λ (some : eqb one.0 nil ≡ false).
    let e = sym (cond-false _ _ _ some) ∙ one.2 in
    let three = some_ok (bounded (capacity l) one.0) s e in
    let four = bounded_ok (capacity l) one.0 s three in
    (sym four.1 ∙ two.1, omega arith))
    (cases_Bool (eqb one.0 nil))
  where
    some_ok : (r : Result ℕ Refusal) (s : ℕ) → result_map_both Some (λ d. d) r ≡ Ok (Some s) → r ≡ Ok s
    some_ok (Ok x) s e = cc
    some_ok (Err d) s e = let z : ◌≡◌ {A = ℕ} 0 1 = cc in absurd (omega arith)

pub slot_ok : {V : Type 0} (l : Layout V) (k s : ℕ) → slot_of l k ≡ Ok (Some s) → (s ≡ slot_at l.index k) × (s < capacity l)
slot_ok l k s p =
    ⊎_elim
    (λ (yes-below : ltb k (capacity l) ≡ true). index_ok l k s (sym (cond-true _ _ _ yes-below) ∙ p))
    (λ (no-below : ltb k (capacity l) ≡ false). let e = sym (cond-false _ _ _ no-below) ∙ p in let z : ◌≡◌ {A = ℕ} 0 1 = cc in absurd (omega arith))
    (cases_Bool (ltb k (capacity l)))

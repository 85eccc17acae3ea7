-- No call touches a cell at or past the capacity.
use Rattle.std.proofs.Common.{◌≡◌, ℕ, ◌<◌, cond, ltb, ◌⊎◌, List, drop, is_ok, Some, None, Ok, Err, Option, Result, sym, refl, ap, ◌∙◌, subst, ⊎_elim, arith}
use Rattle.std.proofs.lemmas.List.{drop-set-lt}
use Rattle.std.proofs.lemmas.Bool.{cases_eq, eq-eqb, ne_eqb, cond-true, cond-false}
use Rattle.std.specs.Result.{result_and, result_map_both}
use Rattle.refusal.specs.declared.Refusal.{Refusal}
use Rattle.rows.specs.declared.cell.FreeListEntry.{FreeListEntry}
use Rattle.model.specs.Layouts.{Layout, capacity, Legal, SameBeyond, nil, slot_at, link_at, with_next, with_previous, oldest_slot, filled, rewritten, overwritten, emptied}
use Rattle.model.specs.Checks.{then, passes, seen, slot_of, link_of, neighbour, claimable, fillable, waiting, storable, fill_answer, value_of, vacate_answer, of_slot, from_slot, at_slot, get_cells, insert_cells, insert_at_cells, stored_at, inserted_at, remove_cells, when_given}
use Rattle.model.proofs.Checked.{then_ok, both_ok, link_ok, claim_ok, claim_beside, neighbour_ok, fillable_claims, fillable_stores, fillable_ok, store_ok, slot_ok}

-- a link that is changed is nil's or a key's
next_beyond : (ls : List FreeListEntry) (C p n : ℕ) → (p ≡ nil) ⊎ (p < C) → drop C (with_next ls p n) ≡ drop C ls
next_beyond ls C p n fits =
    ⊎_elim
    (λ (none : p ≡ nil). ap (drop C) (cond-true _ _ _ (eq-eqb p nil none)))
    (λ (some : p ≡ nil → ⊥).
    ap (drop C) (cond-false _ _ _ (ne_eqb p nil some)) ∙ drop-set-lt C ls p _ (⊎_elim (λ (none : p ≡ nil). absurd (some none)) (λ (b : p < C). b) fits))
    (cases_eq p nil)

previous_beyond : (ls : List FreeListEntry) (C p q : ℕ) → (p ≡ nil) ⊎ (p < C) → drop C (with_previous ls p q) ≡ drop C ls
previous_beyond ls C p q fits =
    ⊎_elim
    (λ (none : p ≡ nil). ap (drop C) (cond-true _ _ _ (eq-eqb p nil none)))
    (λ (some : p ≡ nil → ⊥).
    ap (drop C) (cond-false _ _ _ (ne_eqb p nil some)) ∙ drop-set-lt C ls p _ (⊎_elim (λ (none : p ≡ nil). absurd (some none)) (λ (b : p < C). b) fits))
    (cases_eq p nil)

module _ {V : Type 0} (l : Layout V) where
  pub same_beyond : SameBeyond l l
  same_beyond = (refl, refl, refl, refl)

  filled_beyond : (k : ℕ) (v : V) (u : Unit {0}) → fill_answer l k ≡ Ok u → SameBeyond l (filled l k v)
  filled_beyond k v u p =
      let C = capacity l in
      let ls = l.links in
      let e = link_at ls k in
      let one = both_ok (fillable l k) (then (waiting l.slots) (storable l.values)) u p in
      let link : one.0 ≡ e = fillable_ok l k one.0 one.1 in
      let claims : claimable ls C k ≡ Ok e = fillable_claims l k one.0 one.1 ∙ ap Ok link in
      let b = (link_ok ls C k e (claim_ok ls C k e claims)).0 in
      let beside = claim_beside ls C k e claims in
      let slot = store_ok l u (fillable_stores l k one.0 one.1 ∙ one.2) in (
        drop-set-lt C l.index k _ b,
        drop-set-lt C (with_previous (with_next ls e.previous e.next) e.next e.previous) k _ b
            ∙ previous_beyond (with_next ls e.previous e.next) C e.next e.previous beside.1
            ∙ next_beyond ls C e.previous e.next beside.0,
        drop-set-lt C l.values (oldest_slot l.slots) v slot,
        refl,
      )

  rewritten_beyond : (s : ℕ) (v : V) → s < capacity l → SameBeyond l (rewritten l s v)
  rewritten_beyond s v b = (refl, refl, drop-set-lt (capacity l) l.values s v b, refl)

  emptied_beyond : (k : ℕ) (u : Unit {0}) → Legal l.slots → vacate_answer l k ≡ Ok u → SameBeyond l (emptied l k)
  emptied_beyond k u legal p =
      let C = capacity l in
      let ls = l.links in
      let one = both_ok (passes (ltb 0 l.len)) _ u p in
      let two = both_ok (seen (link_of ls C k)) _ u one.2 in
      let three = both_ok (neighbour ls C l.head) _ u two.2 in
      let b : k < C = found (link_of ls C k) two.0 two.1 (λ x q. (link_ok ls C k x q).0) in (
        drop-set-lt C l.index k _ b,
        drop-set-lt C (with_previous ls l.head k) k _ b ∙ previous_beyond ls C l.head k (neighbour_ok ls C l.head three.0 three.1),
        refl,
        drop-set-lt C l.slots.cells l.slots.start _ (omega (arith, legal.1)),
      )
    where
      found : {B : Type 0} (r : Result FreeListEntry Refusal) (w : Unit {0}) → seen r ≡ Ok w → ((x : FreeListEntry) → r ≡ Ok x → B) → B
      found (Ok x) w q give = give x refl
      found (Err d) w q give = let z : ◌≡◌ {A = ℕ} 0 1 = cc in absurd (omega arith)

  given_beyond : {A : Type 0} (m : Layout V) (r : Result (Option A) Refusal) → ((x : A) → r ≡ Ok (Some x) → SameBeyond l m) → SameBeyond l (when_given r m l)
  given_beyond m (Ok (Some x)) give = give x refl
  given_beyond m (Ok None) give = same_beyond
  given_beyond m (Err e) give = same_beyond

  done_beyond : (m : Layout V) (r : Result (Unit {0}) Refusal) → ((u : Unit {0}) → r ≡ Ok u → SameBeyond l m) → SameBeyond l (cond (is_ok r) m l)
  done_beyond m (Ok u) give = give u refl
  done_beyond m (Err e) give = same_beyond

  pub insert_beyond : (v : V) (r : Result (Option ℕ) Refusal) (l' : Layout V) → r ≡ insert_cells l → l' ≡ when_given r (filled l l.head v) l → SameBeyond l l'
  insert_beyond v r l' er el =
      subst (SameBeyond l) (sym el)
      (given_beyond (filled l l.head v) r
      (λ x e.
      let p : insert_cells l ≡ Ok (Some x) = sym er ∙ e in
      ⊎_elim
      (λ (none : l.head ≡ nil). let q = sym (cond-true _ _ _ (eq-eqb l.head nil none)) ∙ p in let z : ◌≡◌ {A = ℕ} 0 1 = cc in absurd (omega arith))
      (λ (some : l.head ≡ nil → ⊥).
      let q = sym (cond-false _ _ _ (ne_eqb l.head nil some)) ∙ p in
      let ok = made (fill_answer l l.head) x q in filled_beyond l.head v ok.0 ok.1)
      (cases_eq l.head nil)))
    where
      made : (a : Result (Unit {0}) Refusal) (x : ℕ) → result_map_both (λ _. Some l.head) (λ d. d) a ≡ Ok (Some x) → (u : Unit {0}) × (a ≡ Ok u)
      made (Ok u) x q = (u, refl)
      made (Err d) x q = let z : ◌≡◌ {A = ℕ} 0 1 = cc in absurd (omega arith)

  pub insert_at_beyond : (k : ℕ) (v : V) (r : Result (Unit {0}) Refusal) (l' : Layout V) → r ≡ insert_at_cells l k → l' ≡ cond (is_ok r) (inserted_at l k v) l → SameBeyond l l'
  insert_at_beyond k v r l' er el =
      subst (SameBeyond l) (sym el)
      (done_beyond (inserted_at l k v) r
      (λ u e.
      let one = then_ok (slot_of l k) (at_slot l k) u (sym er ∙ e) in
      subst (λ s. SameBeyond l (stored_at l k v s)) (sym one.1) (by_slot one.0 u one.1 one.2)))
    where
      by_slot : (o : Option ℕ) (u : Unit {0}) → slot_of l k ≡ Ok o → at_slot l k o ≡ Ok u → SameBeyond l (stored_at l k v (Ok o))
      by_slot None u p q = filled_beyond k v u q
      by_slot (Some s) u p q = rewritten_beyond s v (slot_ok l k s p).1

  pub replace_beyond : (k : ℕ) (v : V) (r : Result (Option V) Refusal) (l' : Layout V) → r ≡ get_cells l k → l' ≡ when_given r (overwritten l k v) l → SameBeyond l l'
  replace_beyond k v r l' er el =
      subst (SameBeyond l) (sym el)
      (given_beyond (overwritten l k v) r
      (λ x e. let one = then_ok (slot_of l k) (of_slot l) (Some x) (sym er ∙ e) in by_slot one.0 x one.1 one.2))
    where
      by_slot : (o : Option ℕ) (x : V) → slot_of l k ≡ Ok o → of_slot l o ≡ Ok (Some x) → SameBeyond l (overwritten l k v)
      by_slot None x p q = let z : ◌≡◌ {A = ℕ} 0 1 = cc in absurd (omega arith)
      by_slot (Some s) x p q = let slot = slot_ok l k s p in rewritten_beyond (slot_at l.index k) v (omega (arith, slot.0, slot.1))

  pub remove_beyond : (k : ℕ) (r : Result (Option V) Refusal) (l' : Layout V) → Legal l.slots → r ≡ remove_cells l k → l' ≡ when_given r (emptied l k) l → SameBeyond l l'
  remove_beyond k r l' legal er el =
      subst (SameBeyond l) (sym el)
      (given_beyond (emptied l k) r
      (λ x e. let one = then_ok (slot_of l k) (from_slot l k) (Some x) (sym er ∙ e) in by_slot one.0 x one.2))
    where
      by_slot : (o : Option ℕ) (x : V) → from_slot l k o ≡ Ok (Some x) → SameBeyond l (emptied l k)
      by_slot None x q = let z : ◌≡◌ {A = ℕ} 0 1 = cc in absurd (omega arith)
      by_slot (Some s) x q =
          let one = then_ok (value_of l s) (λ w. result_and (vacate_answer l k) (Ok (Some w))) (Some x) q in
          let two = both_ok (vacate_answer l k) (Ok (Some one.0)) (Some x) one.2 in
          emptied_beyond k two.0 legal two.1

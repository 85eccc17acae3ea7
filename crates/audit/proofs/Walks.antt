-- The walk along the free list: where it ends well it has met the list, and along the list it ends well.
use Rattle.std.proofs.Common.{◌≡◌, ℕ, zero, suc, ◌+◌, ◌-◌, ◌<◌, ◌≤◌, Bool, true, false, eqb, ltb, ◌≢◌, ◌⊎◌, List, [], ◌∷◌, length, Some, None, MatchBool, Option, sym, refl, ap, ◌∙◌, subst, inl, inr, ⊎_elim, arith}
use Rattle.std.specs.List.{AllByRecursion}
use Rattle.std.proofs.lemmas.Bool.{cases_eq, cases_lt, eq-eqb, ne_eqb, lt-ltb, le-ltb, eqb-true, cond-true, cond-false, both_ways}
use Rattle.rows.specs.declared.cell.FreeListEntry.{FreeListEntry}
use Rattle.model.specs.Counts.{count}
use Rattle.model.specs.Layouts.{nil, slot_at, link_at}
use Rattle.model.specs.Sound.{Linked}
use Rattle.model.proofs.Sums.{same_yes, same_no, same_small}
use Rattle.model.proofs.FreeLists.{Once, linked_before}
use Rattle.audit.specs.Parts.{next_key, Listed}

-- the test of what follows, if something does
abbrev pub onward : Option ℕ → (ℕ → Bool) → Bool
onward None f = false
onward (Some k) f = f k

-- whether n vacant keys are met from h, where p is before h, and then nil
abbrev pub walk : List ℕ → List FreeListEntry → ℕ → ℕ → ℕ → ℕ → Bool
walk xs ls C zero p h = eqb h nil
walk xs ls C (suc n) p h = onward (next_key xs ls C p h) (λ k. walk xs ls C n h k)

module _ (xs : List ℕ) (ls : List FreeListEntry) (C : ℕ) where
  key_goes : (p h : ℕ) → h < C → (link_at ls h).previous ≡ p → slot_at xs h ≡ nil → next_key xs ls C p h ≡ Some (link_at ls h).next
  key_goes p h b e v =
      cond-true (ltb h C) _ None (lt-ltb h C b)
      ∙ cond-true (eqb (link_at ls h).previous p) _ None (eq-eqb (link_at ls h).previous p e)
      ∙ cond-true (eqb (slot_at xs h) nil) _ None (eq-eqb (slot_at xs h) nil v)

  key_tells : (p h : ℕ) → ((h < C) × ((link_at ls h).previous ≡ p) × (slot_at xs h ≡ nil)) ⊎ (next_key xs ls C p h ≡ None)
  key_tells p h =
      ⊎_elim
      (λ (b : h < C).
      ⊎_elim
      (λ (e : (link_at ls h).previous ≡ p).
      ⊎_elim
      (λ (v : slot_at xs h ≡ nil). inl (b, e, v))
      (λ (v : slot_at xs h ≡ nil → ⊥).
      inr
      (cond-true (ltb h C) _ None (lt-ltb h C b)
      ∙ cond-true (eqb (link_at ls h).previous p) _ None (eq-eqb (link_at ls h).previous p e)
      ∙ cond-false (eqb (slot_at xs h) nil) _ None (ne_eqb (slot_at xs h) nil v)))
      (cases_eq (slot_at xs h) nil))
      (λ (e : (link_at ls h).previous ≡ p → ⊥).
      inr
      (cond-true (ltb h C) _ None (lt-ltb h C b)
      ∙ cond-false (eqb (link_at ls h).previous p) _ None (ne_eqb (link_at ls h).previous p e)))
      (cases_eq (link_at ls h).previous p))
      (λ (b : C ≤ h). inr (cond-false (ltb h C) _ None (le-ltb h C b)))
      (cases_lt h C)

  -- a walk that ends well has met the list
  walk_met : (n p h : ℕ) → walk xs ls C n p h ≡ true
      → (ks : List ℕ) × Linked ls C p h ks × AllByRecursion (λ k. slot_at xs k ≡ nil) ks × (length ks ≡ n)
  walk_met zero p h w = ([], eqb-true h nil w, tt, refl)
  walk_met (suc n) p h w =
      ⊎_elim
      (λ (t : (h < C) × ((link_at ls h).previous ≡ p) × (slot_at xs h ≡ nil)).
      let r = walk_met n h (link_at ls h).next (sym (ap (λ o. onward o (λ k. walk xs ls C n h k)) (key_goes p h t.0 t.1 t.2)) ∙ w) in
      (h ∷ r.0, (refl, t.0, t.1, r.1), (t.2, r.2), ap suc r.3))
      (λ (t : next_key xs ls C p h ≡ None).
      absurd (both_ways (walk xs ls C (suc n) p h) (ap (λ o. onward o (λ k. walk xs ls C n h k)) t) w))
      (key_tells p h)

  -- along the list a walk ends well
  walk_listed : (n p h : ℕ) (ks : List ℕ) → Linked ls C p h ks → AllByRecursion (λ k. slot_at xs k ≡ nil) ks → length ks ≡ n → walk xs ls C n p h ≡ true
  walk_listed zero p h [] c a e = eq-eqb h nil c
  walk_listed (suc n) p h [] c a e = absurd (omega arith)
  walk_listed zero p h (k ∷ ks) c a e = absurd (omega arith)
  walk_listed (suc n) p h (k ∷ ks) c a e =
      let same = c.0 in
      let r : Linked ls C h (link_at ls h).next ks = subst (λ q. Linked ls C q (link_at ls q).next ks) (sym same) c.3 in
      ap (λ o. onward o (λ j. walk xs ls C n h j))
      (key_goes p h (omega (arith, c.0, c.1)) (ap (λ q. (link_at ls q).previous) same ∙ c.2) (ap (slot_at xs) same ∙ a.0))
      ∙ walk_listed n h (link_at ls h).next ks r a.1 (omega arith)

  -- the answer of a walk tells whether the list is there
  pub walk_tells : (n h : ℕ) (b : Bool) → b ≡ walk xs ls C n nil h → MatchBool b (Listed xs ls C h n) (Listed xs ls C h n → ⊥)
  walk_tells n h true e = walk_met n nil h (sym e)
  walk_tells n h false e =
      λ t. both_ways (walk xs ls C n nil h) (sym e) (walk_listed n nil h t.0 t.1 t.2 t.3)

  -- the turns of a loop that walks
  pub walk_turn : (ys : List ℕ) (ms : List FreeListEntry) (n i p h : ℕ) (o : Option ℕ) → i < n → ys ≡ xs → ms ≡ ls → o ≡ next_key ys ms C p h
      → onward o (λ k. walk xs ls C (n - (i + 1)) h k) ≡ walk xs ls C (n - i) p h
  walk_turn ys ms n i p h o l ey em e =
      let one : suc (n - (i + 1)) ≡ n - i = omega arith in
      let next : o ≡ next_key xs ls C p h = e ∙ ap (λ zs. next_key zs ms C p h) ey ∙ ap (λ zs. next_key xs zs C p h) em in
      ap (λ q. onward q (λ k. walk xs ls C (n - (i + 1)) h k)) next ∙ ap (λ m. walk xs ls C m p h) one

  pub walk_ends : (n i p h : ℕ) → n ≤ i → eqb h nil ≡ walk xs ls C (n - i) p h
  walk_ends n i p h l = let none : 0 ≡ n - i = omega arith in ap (λ m. walk xs ls C m p h) none

-- the keys of a free list are below its bound, and none stands in it twice
pub linked_all : (ls : List FreeListEntry) (C p h : ℕ) (ks : List ℕ) → Linked ls C p h ks → AllByRecursion (λ k. k < C) ks
linked_all ls C p h [] c = tt
linked_all ls C p h (k ∷ ks) c = (c.1, linked_all ls C k (link_at ls k).next ks c.3)

pub linked_once : (ls : List FreeListEntry) (C p h : ℕ) (ks : List ℕ) → Linked ls C p h ks → count p ks ≡ 0 → Once ks
linked_once ls C p h [] c z j = omega arith
linked_once ls C p h (k ∷ ks) c z j =
    let never : 0 < count k ks → ⊥ = λ some.
    ⊎_elim
    (λ (q : ((link_at ls k).next ≡ k) × ((link_at ls k).previous ≡ k)). omega (arith, z, same_yes p k (sym c.2 ∙ q.1)))
    (λ (q : ((link_at ls k).next ≢ k) × (0 < count (link_at ls k).previous ks)). omega (arith, z, q.1, ap (λ n. count n ks) c.2))
    (linked_before ls C k k (link_at ls k).next ks c.3 some) in
    let none : count k ks ≡ 0 = ⊎_elim (λ (some : 0 < count k ks). absurd (never some)) (λ (l : count k ks ≤ 0). omega arith) (cases_lt 0 (count k ks)) in
    let rest = linked_once ls C k (link_at ls k).next ks c.3 none in
    ⊎_elim
    (λ (e : j ≡ k). omega (arith, none, ap (λ n. count n ks) e, same_small j k))
    (λ (e : j ≡ k → ⊥). omega (arith, rest j, same_no j k e))
    (cases_eq j k)

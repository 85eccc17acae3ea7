-- Laws of the free list: a key taken out of it, and a key put in front of it.
use Rattle.std.proofs.Common.{◌≡◌, ℕ, ◌<◌, ◌≤◌, cond, eqb, ◌≢◌, ◌⊎◌, List, [], ◌∷◌, length, set, sym, refl, ap, ◌∙◌, subst, inl, inr, ⊎_elim, arith, length-set}
use Rattle.std.proofs.lemmas.List.{get_or-set_same, get_or-set_other, set_past}
use Rattle.std.proofs.lemmas.Bool.{cases_eq, cases_lt, eq-eqb, ne_eqb, cond-true, cond-false, cond_both}
use Rattle.rows.specs.declared.cell.FreeListEntry.{FreeListEntry}
use Rattle.model.specs.Counts.{count, without}
use Rattle.model.specs.Layouts.{nil, unlinked, link_at, followed, preceded, relinked, with_next, with_previous, cut_out, head_without, put_first}
use Rattle.model.specs.Sound.{Linked}
use Rattle.model.proofs.Sums.{same_yes, same_no, without_later}

abbrev next_at : List FreeListEntry → ℕ → ℕ
next_at ls k = (link_at ls k).next

abbrev previous_at : List FreeListEntry → ℕ → ℕ
previous_at ls k = (link_at ls k).previous

-- a number that stands not in x ∷ xs is not x, and stands not in xs
apart_first : (j x : ℕ) (xs : List ℕ) → count j (x ∷ xs) ≡ 0 → j ≢ x
apart_first j x xs z e = omega (arith, z, same_yes j x e)

apart_rest : (j x : ℕ) (xs : List ℕ) → count j (x ∷ xs) ≡ 0 → count j xs ≡ 0
apart_rest j x xs z = omega (arith, z)

-- a free list stands where the links of its keys are as before
pub linked_kept : (ls ms : List FreeListEntry) (C : ℕ) (p h : ℕ) (ks : List ℕ)
    → ((j : ℕ) → 0 < count j ks → link_at ms j ≡ link_at ls j)
    → Linked ls C p h ks → Linked ms C p h ks
linked_kept ls ms C p h [] a c = c
linked_kept ls ms C p h (k ∷ ks) a c =
    let e : link_at ms k ≡ link_at ls k = a k (omega (arith, same_yes k k refl)) in
    let r : Linked ms C k (next_at ls k) ks
    = linked_kept ls ms C k (next_at ls k) ks (λ j l. a j (omega arith)) c.3 in
    (c.0, c.1, ap (λ q. q.previous) e ∙ c.2, subst (λ n. Linked ms C k n ks) (sym (ap (λ q. q.next) e)) r)

-- the keys of a free list are below its bound
pub linked_below : (ls : List FreeListEntry) (C : ℕ) (p h : ℕ) (ks : List ℕ) → Linked ls C p h ks
    → (j : ℕ) → 0 < count j ks → j < C
linked_below ls C p h [] c j l = absurd (omega arith)
linked_below ls C p h (k ∷ ks) c j l =
    ⊎_elim
    (λ (e : j ≡ k). omega (arith, c.1))
    (λ (e : j ≡ k → ⊥). linked_below ls C k (next_at ls k) ks c.3 j (omega (arith, same_no j k e)))
    (cases_eq j k)

-- the key before k: none in front of the first, else one of the list
pub linked_before : (ls : List FreeListEntry) (C : ℕ) (k p h : ℕ) (ks : List ℕ) → Linked ls C p h ks → 0 < count k ks
    → ((h ≡ k) × (previous_at ls k ≡ p)) ⊎ ((h ≢ k) × (0 < count (previous_at ls k) ks))
linked_before ls C k p h [] c l = absurd (omega arith)
linked_before ls C k p h (x ∷ xs) c l =
    ⊎_elim
    (λ (e : k ≡ x). inl (c.0 ∙ sym e, subst (λ n. previous_at ls n ≡ p) (sym e) c.2))
    (λ (e : k ≡ x → ⊥).
    inr (
      (λ q. e (sym q ∙ c.0)),
      ⊎_elim
          (λ (q : (next_at ls x ≡ k) × (previous_at ls k ≡ x)). omega (arith, same_yes (previous_at ls k) x q.1))
          (λ (q : (next_at ls x ≢ k) × (0 < count (previous_at ls k) xs)). omega (arith, q.1))
          (linked_before ls C k x (next_at ls x) xs c.3 (omega (arith, same_no k x e))),
    ))
    (cases_eq k x)

-- what a free list begins with: nothing, or one of its keys
pub linked_first : (ls : List FreeListEntry) (C : ℕ) (p h : ℕ) (ks : List ℕ) → Linked ls C p h ks → (h ≡ nil) ⊎ (0 < count h ks)
linked_first ls C p h [] c = inl c
linked_first ls C p h (x ∷ xs) c = inr (omega (arith, same_yes h x c.0))

-- the key behind k: none, or one of the list
pub linked_after : (ls : List FreeListEntry) (C : ℕ) (k p h : ℕ) (ks : List ℕ) → Linked ls C p h ks → 0 < count k ks
    → (next_at ls k ≡ nil) ⊎ (0 < count (next_at ls k) ks)
linked_after ls C k p h [] c l = absurd (omega arith)
linked_after ls C k p h (x ∷ xs) c l =
    ⊎_elim
    (λ (e : k ≡ x).
    ⊎_elim
    (λ (q : next_at ls x ≡ nil). inl (ap (next_at ls) e ∙ q))
    (λ (q : 0 < count (next_at ls x) xs). inr (omega (arith, ap (λ n. count (next_at ls n) xs) e)))
    (linked_first ls C x (next_at ls x) xs c.3))
    (λ (e : k ≡ x → ⊥).
    ⊎_elim
    (λ (q : next_at ls k ≡ nil). inl q)
    (λ (q : 0 < count (next_at ls k) xs). inr (omega arith))
    (linked_after ls C k x (next_at ls x) xs c.3 (omega (arith, same_no k x e))))
    (cases_eq k x)

-- Links ms that are ls with key k cut out, where a stood before k and b after it.
pub record Cut (ls ms : List FreeListEntry) (C k a b : ℕ) : Type 0 where
  pub other : (j : ℕ) → j ≢ k → j ≢ a → next_at ms j ≡ next_at ls j
  pub before : a ≢ k → a < C → next_at ms a ≡ b
  pub other_back : (j : ℕ) → j ≢ k → j ≢ b → previous_at ms j ≡ previous_at ls j
  pub after : b ≢ k → b < C → previous_at ms b ≡ a

-- a list with no number twice
abbrev pub Once : List ℕ → Type 0
Once ks = (j : ℕ) → count j ks ≤ 1

once_rest : (x : ℕ) (xs : List ℕ) → Once (x ∷ xs) → Once xs
once_rest x xs o j = omega (arith, o j)

once_first : (x : ℕ) (xs : List ℕ) → Once (x ∷ xs) → count x xs ≡ 0
once_first x xs o = omega (arith, o x, same_yes x x refl)

module _ (ls ms : List FreeListEntry) (C : ℕ) (small : C ≤ 65535) (k a b : ℕ) (cut : Cut ls ms C k a b) where
  -- the part of the list behind k and b
  cut_rest : (p h : ℕ) (ks : List ℕ) → count k ks ≡ 0 → count a ks ≡ 0 → count b ks ≡ 0
      → Linked ls C p h ks → Linked ms C p h ks
  cut_rest p h [] zk za zb c = c
  cut_rest p h (x ∷ xs) zk za zb c =
      let nk : x ≢ k = λ e. apart_first k x xs zk (sym e) in
      let na : x ≢ a = λ e. apart_first a x xs za (sym e) in
      let nb : x ≢ b = λ e. apart_first b x xs zb (sym e) in
      let r = cut_rest x (next_at ls x) xs (apart_rest k x xs zk) (apart_rest a x xs za) (apart_rest b x xs zb) c.3 in
      (c.0, c.1, cut.other_back x nk nb ∙ c.2, subst (λ n. Linked ms C x n xs) (sym (cut.other x nk na)) r)

  -- the part behind k, now behind a
  cut_after : (ks : List ℕ) → count k ks ≡ 0 → count a ks ≡ 0 → Once ks
      → Linked ls C k b ks → Linked ms C a b ks
  cut_after [] zk za o c = c
  cut_after (x ∷ xs) zk za o c =
      let eb : b ≡ x = c.0 in
      let nk : x ≢ k = λ e. apart_first k x xs zk (sym e) in
      let na : x ≢ a = λ e. apart_first a x xs za (sym e) in
      let p : previous_at ms x ≡ a =
      subst (λ n. previous_at ms n ≡ a) eb (cut.after (λ e. nk (sym eb ∙ e)) (omega (arith, c.0, c.1))) in
      let zb : count b xs ≡ 0 = subst (λ n. count n xs ≡ 0) (sym eb) (once_first x xs o) in
      let r = cut_rest x (next_at ls x) xs (apart_rest k x xs zk) (apart_rest a x xs za) zb c.3 in
      (eb, c.1, p, subst (λ n. Linked ms C x n xs) (sym (cut.other x nk na)) r)

  -- k first
  cut_here : a ≡ previous_at ls k → b ≡ next_at ls k → (p h x : ℕ) (xs : List ℕ) → k ≡ x → Once (x ∷ xs)
      → count p (x ∷ xs) ≡ 0 → Linked ls C p h (x ∷ xs) → Linked ms C p (cond (eqb h k) b h) (without k (x ∷ xs))
  cut_here ea eb p h x xs e o z c =
      let zk : count k xs ≡ 0 = subst (λ n. count n xs ≡ 0) (sym e) (once_first x xs o) in
      let ap' : a ≡ p = ea ∙ subst (λ n. previous_at ls n ≡ p) (sym e) c.2 in
      let za : count a xs ≡ 0 = subst (λ n. count n xs ≡ 0) (sym ap') (apart_rest p x xs z) in
      let c' : Linked ls C k b xs =
      subst (λ n. Linked ls C k n xs) (sym eb) (subst (λ n. Linked ls C n (next_at ls n) xs) (sym e) c.3) in
      let r : Linked ms C p b xs = subst (λ n. Linked ms C n b xs) ap' (cut_after xs zk za (once_rest x xs o) c') in
      let w : without k (x ∷ xs) ≡ xs = cond-true (eqb k x) xs (x ∷ without k xs) (eq-eqb k x e) in
      let d : cond (eqb h k) b h ≡ b = cond-true (eqb h k) b h (eq-eqb h k (c.0 ∙ sym e)) in
      rw (w, d) r

  -- k later
  cut_later : a ≡ previous_at ls k → b ≡ next_at ls k → (p h x : ℕ) (xs : List ℕ) → k ≢ x → 0 < count k xs → Once (x ∷ xs)
      → Linked ls C p h (x ∷ xs) → Linked ms C x (cond (eqb (next_at ls x) k) b (next_at ls x)) (without k xs)
      → Linked ms C p (cond (eqb h k) b h) (without k (x ∷ xs))
  cut_later ea eb p h x xs e l o c r =
      let w = without_later k x xs e in
      let d : cond (eqb h k) b h ≡ h = cond-false (eqb h k) b h (ne_eqb h k (λ q. e (sym q ∙ c.0))) in
      let ex : x ≢ k = λ q. e (sym q) in
      let xb : x ≢ b = λ q.
      ⊎_elim
      (λ (n : next_at ls k ≡ nil). omega (arith, q, eb, n, c.1))
      (λ (n : 0 < count (next_at ls k) xs). omega (arith, n, once_first x xs o, ap (λ n. count n xs) (q ∙ eb)))
      (linked_after ls C k x (next_at ls x) xs c.3 l) in
      let n : next_at ms x ≡ cond (eqb (next_at ls x) k) b (next_at ls x) =
      ⊎_elim
      (λ (q : (next_at ls x ≡ k) × (previous_at ls k ≡ x)).
      let ax : a ≡ x = ea ∙ q.1 in
      subst (λ n. next_at ms n ≡ b) ax (cut.before (λ s. ex (sym ax ∙ s)) (omega (arith, ax, c.1)))
      ∙ sym (cond-true (eqb (next_at ls x) k) b (next_at ls x) (eq-eqb (next_at ls x) k q.0)))
      (λ (q : (next_at ls x ≢ k) × (0 < count (previous_at ls k) xs)).
      let ax : x ≢ a = λ s. omega (arith, q.1, once_first x xs o, ap (λ n. count n xs) (s ∙ ea)) in
      cut.other x ex ax
      ∙ sym (cond-false (eqb (next_at ls x) k) b (next_at ls x) (ne_eqb (next_at ls x) k q.0)))
      (linked_before ls C k x (next_at ls x) xs c.3 l) in
      let t : Linked ms C x (next_at ms x) (without k xs) = subst (λ n. Linked ms C x n (without k xs)) (sym n) r in
      rw (w, d) (c.0, c.1, cut.other_back x ex xb ∙ c.2, t)

  -- the whole list
  cut_linked : a ≡ previous_at ls k → b ≡ next_at ls k → (p h : ℕ) (ks : List ℕ) → 0 < count k ks → Once ks
      → count p ks ≡ 0 → Linked ls C p h ks → Linked ms C p (cond (eqb h k) b h) (without k ks)
  cut_linked ea eb p h [] l o z c = absurd (omega arith)
  cut_linked ea eb p h (x ∷ xs) l o z c =
      ⊎_elim
      (λ e. cut_here ea eb p h x xs e o z c)
      (λ e.
      let lx : 0 < count k xs = omega (arith, same_no k x e) in
      cut_later ea eb p h x xs e lx o c
      (cut_linked ea eb x (next_at ls x) xs lx (once_rest x xs o) (once_first x xs o) c.3))
      (cases_eq k x)

-- The cells after the link of key p is changed: one cell changes, and no field that the change keeps.
module _ (change : FreeListEntry → FreeListEntry) (ls : List FreeListEntry) (p : ℕ) where
  -- what holds without the change and with it
  either : (P : List FreeListEntry → Type 0) → P ls → P (set ls p (change (link_at ls p))) → P (relinked change ls p)
  either P without with = cond_both (eqb p nil) ls (set ls p (change (link_at ls p))) P (λ _. without) (λ _. with)

  -- a field of any cell, which the change keeps
  pub relinked_field : (F : FreeListEntry → ℕ) → F (change (link_at ls p)) ≡ F (link_at ls p) → (j : ℕ) → F (link_at (relinked change ls p) j) ≡ F (link_at ls j)
  relinked_field F e j =
      either (λ ms. F (link_at ms j) ≡ F (link_at ls j)) refl
      (⊎_elim
      (λ (q : j ≡ p).
      ⊎_elim
      (λ (l : p < length ls).
      subst (λ n. F (link_at (set ls p (change (link_at ls p))) n) ≡ F (link_at ls n)) (sym q) (ap F (get_or-set_same ls p (change (link_at ls p)) unlinked l) ∙ e))
      (λ (l : length ls ≤ p). ap (λ n. F (link_at n j)) (set_past ls p (change (link_at ls p)) l))
      (cases_lt p (length ls)))
      (λ (q : j ≡ p → ⊥). ap F (get_or-set_other ls p j (change (link_at ls p)) unlinked q))
      (cases_eq j p))

  pub relinked_other : (j : ℕ) → j ≢ p → link_at (relinked change ls p) j ≡ link_at ls j
  relinked_other j ne = either (λ ms. link_at ms j ≡ link_at ls j) refl (get_or-set_other ls p j (change (link_at ls p)) unlinked ne)

  pub relinked_length : length (relinked change ls p) ≡ length ls
  relinked_length = either (λ ms. length ms ≡ length ls) refl (length-set ls p (change (link_at ls p)))

  pub relinked_past : length ls ≤ p → relinked change ls p ≡ ls
  relinked_past l = either (λ ms. ms ≡ ls) refl (set_past ls p (change (link_at ls p)) l)

  pub relinked_here : p ≢ nil → p < length ls → link_at (relinked change ls p) p ≡ change (link_at ls p)
  relinked_here ne l =
      let x = change (link_at ls p) in
      ap (λ ms. link_at ms p) (cond-false (eqb p nil) ls (set ls p x) (ne_eqb p nil ne)) ∙ get_or-set_same ls p x unlinked l

pub cut_out_length : (ls : List FreeListEntry) (k : ℕ) (e : FreeListEntry) → length (cut_out ls k e) ≡ length ls
cut_out_length ls k e =
    length-set (with_previous (with_next ls e.previous e.next) e.next e.previous) k unlinked
    ∙ relinked_length (preceded e.previous) (with_next ls e.previous e.next) e.next
    ∙ relinked_length (followed e.next) ls e.previous

pub cut_out_cuts : (ls : List FreeListEntry) (C : ℕ) → C ≤ 65535 → C ≤ length ls → (k : ℕ) (e : FreeListEntry)
    → Cut ls (cut_out ls k e) C k e.previous e.next
cut_out_cuts ls C small fits k e =
    let a = e.previous in
    let b = e.next in
    let l1 = with_next ls a b in
    let l2 = with_previous l1 b a in
    record {
      other = λ j nk na.
          ap (λ q. q.next) (get_or-set_other l2 k j unlinked unlinked nk)
          ∙ relinked_field (preceded a) l1 b (λ q. q.next) refl j
          ∙ ap (λ q. q.next) (relinked_other (followed b) ls a j na);
      before = λ nk l.
          ap (λ q. q.next) (get_or-set_other l2 k a unlinked unlinked nk)
          ∙ relinked_field (preceded a) l1 b (λ q. q.next) refl a
          ∙ ap (λ q. q.next) (relinked_here (followed b) ls a (omega arith) (omega arith));
      other_back = λ j nk nb.
          ap (λ q. q.previous) (get_or-set_other l2 k j unlinked unlinked nk)
          ∙ ap (λ q. q.previous) (relinked_other (preceded a) l1 b j nb)
          ∙ relinked_field (followed b) ls a (λ q. q.previous) refl j;
      after = λ nk l.
          ap (λ q. q.previous) (get_or-set_other l2 k b unlinked unlinked nk)
          ∙ ap (λ q. q.previous) (relinked_here (preceded a) l1 b (omega arith) (omega (arith, relinked_length (followed b) ls a)));
    }

-- Key k, out of the free list.
pub linked_out : (ls : List FreeListEntry) (C : ℕ) → C ≤ 65535 → C ≤ length ls → (k h : ℕ) (ks : List ℕ)
    → 0 < count k ks → Once ks → Linked ls C nil h ks
    → Linked (cut_out ls k (link_at ls k)) C nil (head_without h (link_at ls k)) (without k ks)
linked_out ls C small fits k h ks l o c =
    let e = link_at ls k in
    let z : count nil ks ≡ 0 =
    ⊎_elim (λ (q : 0 < count nil ks). omega (arith, linked_below ls C nil h ks c nil q)) (λ (q : count nil ks ≤ 0). omega arith)
    (cases_lt 0 (count nil ks)) in
    let r = cut_linked ls (cut_out ls k e) C small k e.previous e.next (cut_out_cuts ls C small fits k e)
    refl refl nil h ks l o z c in
    let d : head_without h e ≡ cond (eqb h k) e.next h =
    ⊎_elim
    (λ (q : (h ≡ k) × (previous_at ls k ≡ nil)).
    cond-true (eqb e.previous nil) e.next h (eq-eqb e.previous nil q.1)
    ∙ sym (cond-true (eqb h k) e.next h (eq-eqb h k q.0)))
    (λ (q : (h ≢ k) × (0 < count (previous_at ls k) ks)).
    cond-false (eqb e.previous nil) e.next h
    (ne_eqb e.previous nil (λ n. omega (arith, n, linked_below ls C nil h ks c (previous_at ls k) q.1)))
    ∙ sym (cond-false (eqb h k) e.next h (ne_eqb h k q.0)))
    (linked_before ls C k nil h ks c l) in
    subst (λ n. Linked (cut_out ls k e) C nil n (without k ks)) (sym d) r

pub put_first_length : (ls : List FreeListEntry) (h k : ℕ) → length (put_first ls h k) ≡ length ls
put_first_length ls h k =
    length-set (with_previous ls h k) k (record { previous = nil; next = h }) ∙ relinked_length (preceded k) ls h

-- the list behind k, once k stands in front of it
linked_rest : (ls : List FreeListEntry) (C : ℕ) → C ≤ 65535 → C ≤ length ls → (k h : ℕ) (ks : List ℕ)
    → k < C → count k ks ≡ 0 → Once ks → Linked ls C nil h ks
    → Linked (put_first ls h k) C k h ks
linked_rest ls C small fits k h [] l z o c = c
linked_rest ls C small fits k h (x ∷ xs) l z o c =
    let ms = put_first ls h k in
    let hk : h ≢ k = λ q. apart_first k x xs z (sym q ∙ c.0) in
    let e : link_at ms h ≡ record { previous = k; next = (link_at ls h).next } =
    get_or-set_other (with_previous ls h k) k h (record { previous = nil; next = h }) unlinked hk
    ∙ relinked_here (preceded k) ls h (omega (arith, c.0, c.1)) (omega (arith, c.0, c.1)) in
    let e' : link_at ms x ≡ record { previous = k; next = (link_at ls x).next } =
    subst (λ n. link_at ms n ≡ record { previous = k; next = (link_at ls n).next }) c.0 e in
    let same_rest : (j : ℕ) → 0 < count j xs → link_at ms j ≡ link_at ls j = λ j n.
    let jk : j ≢ k = λ q. omega (arith, n, apart_rest k x xs z, ap (λ i. count i xs) q) in
    let jh : j ≢ h = λ q. omega (arith, n, once_first x xs o, ap (λ i. count i xs) (q ∙ c.0)) in
    get_or-set_other (with_previous ls h k) k j (record { previous = nil; next = h }) unlinked jk
    ∙ relinked_other (preceded k) ls h j jh in
    let r = linked_kept ls ms C x (next_at ls x) xs same_rest c.3 in
    (c.0, c.1, ap (λ q. q.previous) e', subst (λ n. Linked ms C x n xs) (sym (ap (λ q. q.next) e')) r)

-- Key k in front of the free list.
pub linked_front : (ls : List FreeListEntry) (C : ℕ) → C ≤ 65535 → C ≤ length ls → (k h : ℕ) (ks : List ℕ)
    → k < C → count k ks ≡ 0 → Once ks → Linked ls C nil h ks
    → Linked (put_first ls h k) C nil k (k ∷ ks)
linked_front ls C small fits k h ks l z o c =
    let ms = put_first ls h k in
    let e : link_at ms k ≡ record { previous = nil; next = h } =
    get_or-set_same (with_previous ls h k) k (record { previous = nil; next = h }) unlinked
    (omega (arith, relinked_length (preceded k) ls h)) in
    let r : Linked ms C k h ks = linked_rest ls C small fits k h ks l z o c in
    (refl, l, ap (λ q. q.previous) e, subst (λ n. Linked ms C k n ks) (sym (ap (λ q. q.next) e)) r)

-- a key that is neither k nor beside k keeps its link
pub cut_out_other : (ls : List FreeListEntry) (k : ℕ) (e : FreeListEntry) (j : ℕ) → j ≢ k → j ≢ e.previous → j ≢ e.next
    → link_at (cut_out ls k e) j ≡ link_at ls j
cut_out_other ls k e j nk na nb =
    let l1 = with_next ls e.previous e.next in
    get_or-set_other (with_previous l1 e.next e.previous) k j unlinked unlinked nk
    ∙ relinked_other (preceded e.previous) l1 e.next j nb
    ∙ relinked_other (followed e.next) ls e.previous j na

pub put_first_other : (ls : List FreeListEntry) (h k j : ℕ) → j ≢ k → j ≢ h → link_at (put_first ls h k) j ≡ link_at ls j
put_first_other ls h k j nk nh =
    get_or-set_other (with_previous ls h k) k j (record { previous = nil; next = h }) unlinked nk
    ∙ relinked_other (preceded k) ls h j nh

pub cut_out_here : (ls : List FreeListEntry) (k : ℕ) (e : FreeListEntry) → k < length ls → link_at (cut_out ls k e) k ≡ unlinked
cut_out_here ls k e l =
    let l1 = with_next ls e.previous e.next in
    get_or-set_same (with_previous l1 e.next e.previous) k unlinked unlinked
    (omega (arith, l, relinked_length (preceded e.previous) l1 e.next, relinked_length (followed e.next) ls e.previous))

-- the links and the head say which free list it is
pub linked_unique : (ls : List FreeListEntry) (C : ℕ) → C ≤ 65535 → (p h : ℕ) (ks js : List ℕ) → Linked ls C p h ks → Linked ls C p h js → ks ≡ js
linked_unique ls C small p h [] [] c d = refl
linked_unique ls C small p h [] (j ∷ js) c d = absurd (omega (arith, c, d.0, d.1))
linked_unique ls C small p h (k ∷ ks) [] c d = absurd (omega (arith, d, c.0, c.1))
linked_unique ls C small p h (k ∷ ks) (j ∷ js) c d =
    let e : k ≡ j = sym c.0 ∙ d.0 in
    let d' : Linked ls C k (next_at ls k) js = subst (λ n. Linked ls C n (next_at ls n) js) (sym e) d.3 in
    ap (λ n. n ∷ ks) e ∙ ap (λ n. j ∷ n) (linked_unique ls C small k (next_at ls k) ks js c.3 d')

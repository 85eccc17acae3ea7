-- What a history tells of one key, and that it stays so with one more event.
use Rattle.std.proofs.Common.{◌≡◌, ℕ, ◌+◌, ◌<◌, ◌≤◌, eqb, ◌⊎◌, List, [], ◌∷◌, ◌++◌, Some, None, Option, sym, refl, ap, ◌∙◌, subst, inl, inr, ⊎_elim, arith}
use Rattle.std.proofs.lemmas.Map.{update_same, update_apart}
use Rattle.std.proofs.lemmas.Bool.{cases_eq, cases_lt, eq-eqb, cond-true}
use Rattle.model.specs.Counts.{count, without}
use Rattle.model.specs.Tables.{Table}
use Rattle.model.proofs.Sums.{same_yes, same_no, without_later, count_without_other}
use Rattle.history.specs.Histories.{Event, Fills, Filled, Writes, Written, Empties, Holds, Vacant, LastWrote}
use Rattle.history.proofs.Ends.{by_ends}
use Rattle.history.proofs.Since.{since_none, since_now, since_on, since_back}
use Rattle.history.proofs.Deeds.{nothing, fill, write, empty, Replaces, fills_deed, replaces_deed, empties_deed, no_key, other_key, not_written, not_filled, not_emptied, writes_one}
use Rattle.history.proofs.Effects.{Effect, quiet, filling, replacing, emptying}

-- what was written last is one value
pub wrote_one : {V : Type 0} (k : ℕ) (v w : V) (h : List (Event V)) → LastWrote k v h → LastWrote k w h → v ≡ w
wrote_one {V} k v w =
    by_ends (λ h. LastWrote k v h → LastWrote k w h → v ≡ w)
    (λ p q. absurd (since_none (Writes k v) (Written k) p))
    (λ h e ih p q.
    ⊎_elim
    (λ (a : Writes k v e).
    ⊎_elim
    (λ (b : Writes k w e). writes_one e k v w a b)
    (λ (b : LastWrote k w h × (Written k e → ⊥)). absurd (b.1 (v, a)))
    (since_back (Writes k w) (Written k) h e q))
    (λ (a : LastWrote k v h × (Written k e → ⊥)).
    ⊎_elim
    (λ (b : Writes k w e). absurd (a.1 (w, b)))
    (λ (b : LastWrote k w h × (Written k e → ⊥)). ih a.0 b.0)
    (since_back (Writes k w) (Written k) h e q))
    (since_back (Writes k v) (Written k) h e p))

-- Key k of a table of C keys, which holds o and stands in the free list n times, after the history h.
abbrev pub KeyTold : {V : Type 0} → ℕ → List (Event V) → ℕ → Option V → ℕ → Type 0
KeyTold C h k None n = Vacant k h × (k < C → n ≡ 1) × (C ≤ k → n ≡ 0)
KeyTold C h k (Some v) n = Holds k h × LastWrote k v h × (k < C) × (n ≡ 0)

module _ {V : Type 0} (C : ℕ) (h : List (Event V)) (k : ℕ) where
  told_same : (o o' : Option V) (n n' : ℕ) → o' ≡ o → n' ≡ n → KeyTold C h k o n → KeyTold C h k o' n'
  told_same o o' n n' p q told = subst (λ x. KeyTold C h k x n') (sym p) (subst (λ x. KeyTold C h k o x) (sym q) told)

  pub told_once : (o : Option V) (n : ℕ) → KeyTold C h k o n → n ≤ 1
  told_once None n told = ⊎_elim (λ b. omega (arith, told.1 b)) (λ b. omega (arith, told.2 b)) (cases_lt k C)
  told_once (Some v) n told = omega (arith, told.3)

  pub told_listed : (o : Option V) (n : ℕ) → KeyTold C h k o n → 0 < n → k < C
  told_listed None n told some = ⊎_elim (λ (b : k < C). b) (λ (b : C ≤ k). absurd (omega (arith, told.2 b))) (cases_lt k C)
  told_listed (Some v) n told some = told.2

  pub told_vacant : (o : Option V) (n : ℕ) → KeyTold C h k o n → k < C → Vacant k h → n ≡ 1
  told_vacant None n told b vacant = told.1 b
  told_vacant (Some v) n told b vacant = absurd (vacant told.0)

  pub told_free : (o : Option V) (n : ℕ) → KeyTold C h k o n → 0 < n → Vacant k h
  told_free None n told some = told.0
  told_free (Some v) n told some = absurd (omega (arith, told.3))

  pub told_taken : (o : Option V) (n : ℕ) → KeyTold C h k o n → k < C → n ≡ 0 → Holds k h
  told_taken None n told b none = absurd (omega (arith, told.1 b))
  told_taken (Some v) n told b none = told.0

  pub told_holds : (o : Option V) (n : ℕ) → KeyTold C h k o n → Holds k h → (v : V) × (o ≡ Some v) × LastWrote k v h
  told_holds None n told holds = absurd (told.0 holds)
  told_holds (Some v) n told holds = (v, refl, told.1)

module _ {V : Type 0} (C : ℕ) (h : List (Event V)) (e : Event V) (k : ℕ) where
  told_quiet : (Written k e → ⊥) → (Empties k e → ⊥) → (o : Option V) (n : ℕ) → KeyTold C h k o n → KeyTold C (h ++ e ∷ []) k o n
  told_quiet w m None n told = (
    λ s. ⊎_elim (λ (f : Filled k e). w (f.0, inl f.1)) (λ r. told.0 r.0) (since_back (Filled k) (λ x. Filled k x ⊎ Empties k x) h e s),
    told.1,
    told.2,
  )
  told_quiet w m (Some v) n told = (
    since_on (Filled k) (λ x. Filled k x ⊎ Empties k x) h e (⊎_elim (λ (f : Filled k e). w (f.0, inl f.1)) m) told.0,
    since_on (Writes k v) (Written k) h e w told.1,
    told.2,
    told.3,
  )

  told_filled : (v : V) (n : ℕ) → Fills k v e → k < C → n ≡ 0 → KeyTold C (h ++ e ∷ []) k (Some v) n
  told_filled v n f b none = (
    since_now (Filled k) (λ x. Filled k x ⊎ Empties k x) h e (v, f),
    since_now (Writes k v) (Written k) h e (inl f),
    b,
    none,
  )

  told_replaced : (v w : V) (n : ℕ) → Replaces k v e → KeyTold C h k (Some w) n → KeyTold C (h ++ e ∷ []) k (Some v) n
  told_replaced v w n r told =
      let d = replaces_deed k v e r in (
        since_on (Filled k) (λ x. Filled k x ⊎ Empties k x) h e (⊎_elim (not_filled e (write k v) d k (no_key k)) (not_emptied e (write k v) d k (no_key k))) told.0,
        since_now (Writes k v) (Written k) h e (inr r),
        told.2,
        told.3,
      )

  told_emptied : (w : V) (n m : ℕ) → Empties k e → m ≡ n + 1 → KeyTold C h k (Some w) n → KeyTold C (h ++ e ∷ []) k None m
  told_emptied w n m f more told = (
    λ s.
        ⊎_elim
        (λ (g : Filled k e). not_filled e (empty k) (empties_deed k e f) k (no_key k) g)
        (λ r. r.1 (inr f))
        (since_back (Filled k) (λ x. Filled k x ⊎ Empties k x) h e s),
    λ b. omega (arith, told.3),
    λ b. absurd (omega (arith, told.2)),
  )

count_without : (k : ℕ) (xs : List ℕ) → count k xs ≤ 1 → count k (without k xs) ≡ 0
count_without k [] l = refl
count_without k (x ∷ xs) l =
    ⊎_elim
    (λ (e : k ≡ x). omega (arith, ap (count k) (cond-true (eqb k x) xs (x ∷ without k xs) (eq-eqb k x e)), same_yes k x e))
    (λ (e : k ≡ x → ⊥). omega (arith, ap (count k) (without_later k x xs e), same_no k x e, count_without k xs (omega arith)))
    (cases_eq k x)

-- each key is told of after one event more
pub key_step : {V : Type 0} (C : ℕ) (h : List (Event V)) (e : Event V) (t t' : Table V) → t.capacity ≡ C → Effect t e t'
    → ((j : ℕ) → KeyTold C h j (t.held j) (count j t.free)) → (j : ℕ) → KeyTold C (h ++ e ∷ []) j (t'.held j) (count j t'.free)
key_step {V} C h e t t' size (quiet d p) told j =
    subst (λ (u : Table V). KeyTold C (h ++ e ∷ []) j (u.held j) (count j u.free)) (sym p)
    (told_quiet C h e j (not_written e nothing d j (no_key j)) (not_emptied e nothing d j (no_key j)) (t.held j) (count j t.free) (told j))
key_step {V} C h e t t' size (filling k v b f p) told j =
    let d = fills_deed k v e f in
    let g = h ++ e ∷ [] in
    subst (λ (u : Table V). KeyTold C g j (u.held j) (count j u.free)) (sym p)
    (⊎_elim
    (λ (q : j ≡ k).
    told_same C g j (Some v) _ 0 _ (update_same eqb t.held k (Some v) j (eq-eqb k j (sym q)))
    (ap (λ x. count x (without k t.free)) q ∙ count_without k t.free (told_once C h k (t.held k) _ (told k)))
    (told_filled C h e j v 0 (subst (λ x. Fills x v e) (sym q) f) (omega arith) refl))
    (λ (q : j ≡ k → ⊥).
    told_same C g j (t.held j) _ (count j t.free) _ (update_apart t.held k (Some v) j q) (count_without_other j k t.free q)
    (told_quiet C h e j (not_written e (fill k v) d j (other_key j k q)) (not_emptied e (fill k v) d j (no_key j)) (t.held j) (count j t.free) (told j)))
    (cases_eq j k))
key_step {V} C h e t t' size (replacing k v w r held p) told j =
    let d = replaces_deed k v e r in
    let g = h ++ e ∷ [] in
    subst (λ (u : Table V). KeyTold C g j (u.held j) (count j u.free)) (sym p)
    (⊎_elim
    (λ (q : j ≡ k).
    told_same C g j (Some v) _ (count j t.free) _ (update_same eqb t.held k (Some v) j (eq-eqb k j (sym q))) refl
    (told_replaced C h e j v w (count j t.free) (subst (λ x. Replaces x v e) (sym q) r)
    (told_same C h j (t.held j) (Some w) _ _ (sym (ap t.held q ∙ held)) refl (told j))))
    (λ (q : j ≡ k → ⊥).
    told_same C g j (t.held j) _ (count j t.free) _ (update_apart t.held k (Some v) j q) refl
    (told_quiet C h e j (not_written e (write k v) d j (other_key j k q)) (not_emptied e (write k v) d j (no_key j)) (t.held j) (count j t.free) (told j)))
    (cases_eq j k))
key_step {V} C h e t t' size (emptying k w m held p) told j =
    let d = empties_deed k e m in
    let g = h ++ e ∷ [] in
    subst (λ (u : Table V). KeyTold C g j (u.held j) (count j u.free)) (sym p)
    (⊎_elim
    (λ (q : j ≡ k).
    told_same C g j None _ _ _ (update_same eqb t.held k None j (eq-eqb k j (sym q))) refl
    (told_emptied C h e j w (count j t.free) (count j (k ∷ t.free)) (subst (λ x. Empties x e) (sym q) m) (omega (arith, same_yes j k q))
    (told_same C h j (t.held j) (Some w) _ _ (sym (ap t.held q ∙ held)) refl (told j))))
    (λ (q : j ≡ k → ⊥).
    told_same C g j (t.held j) _ (count j t.free) _ (update_apart t.held k None j q) (omega (arith, same_no j k q))
    (told_quiet C h e j (not_written e (empty k) d j (no_key j)) (not_emptied e (empty k) d j (other_key j k q)) (t.held j) (count j t.free) (told j)))
    (cases_eq j k))

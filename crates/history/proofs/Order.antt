-- The order of the free list: the key that was emptied later stands first, and keys that were never emptied stand
-- last, in order.
use Rattle.std.proofs.Common.{◌≡◌, ℕ, zero, suc, ◌+◌, ◌<◌, eqb, ◌⊎◌, List, [], ◌∷◌, ◌++◌, Some, sym, refl, ap, subst, inl, inr, ⊎_elim, arith}
use Rattle.std.specs.List.{range_with_len, AllByRecursion}
use Rattle.std.proofs.ByRecursion.{All-push}
use Rattle.std.proofs.lemmas.Bool.{cases_eq, cond_both}
use Rattle.model.specs.Counts.{count, without}
use Rattle.model.specs.Tables.{Table}
use Rattle.model.proofs.Sums.{same_yes}
use Rattle.history.specs.Histories.{Event, Empties, Never, Since}
use Rattle.history.proofs.Since.{since_now, since_on}
use Rattle.history.proofs.Deeds.{nothing, fill, write, empty, fills_deed, replaces_deed, empties_deed, no_key, other_key, not_emptied}
use Rattle.history.proofs.Effects.{Effect, quiet, filling, replacing, emptying}

-- each number of a list is in such a relation to those behind it
abbrev pub Sorted : (ℕ → ℕ → Type 0) → List ℕ → Type 0
Sorted R [] = Unit {0}
Sorted R (x ∷ xs) = AllByRecursion (R x) xs × Sorted R xs

-- key j stands before key k: it was emptied since k was, or neither was ever and it is smaller
abbrev pub Before : {V : Type 0} → List (Event V) → ℕ → ℕ → Type 0
Before h j k = Since (Empties j) (Empties k) h ⊎ (Never (Empties j) h × Never (Empties k) h × (j < k))

-- key j was emptied some time, and no more since, or it was never
abbrev pub Ever : {V : Type 0} → List (Event V) → ℕ → Type 0
Ever h j = Since (Empties j) (Empties j) h ⊎ Never (Empties j) h

-- what holds of each number of a list
pub all_listed : (P : ℕ → Type 0) (ks : List ℕ) → ((k : ℕ) → 0 < count k ks → P k) → AllByRecursion P ks
all_listed P [] each = tt
all_listed P (k ∷ ks) each = (each k (omega (arith, same_yes k k refl)), all_listed P ks (λ j l. each j (omega arith)))

all_both : (P Q R : ℕ → Type 0) → ((k : ℕ) → P k → Q k → R k) → (ks : List ℕ) → AllByRecursion P ks → AllByRecursion Q ks → AllByRecursion R ks
all_both P Q R both [] p q = tt
all_both P Q R both (k ∷ ks) p q = (both k p.0 q.0, all_both P Q R both ks p.1 q.1)

all_without : (P : ℕ → Type 0) (k : ℕ) (xs : List ℕ) → AllByRecursion P xs → AllByRecursion P (without k xs)
all_without P k [] a = tt
all_without P k (x ∷ xs) a = cond_both (eqb k x) xs (x ∷ without k xs) (AllByRecursion P) (λ _. a.1) (λ _. (a.0, all_without P k xs a.1))

sorted_without : (R : ℕ → ℕ → Type 0) (k : ℕ) (xs : List ℕ) → Sorted R xs → Sorted R (without k xs)
sorted_without R k [] s = tt
sorted_without R k (x ∷ xs) s =
    cond_both (eqb k x) xs (x ∷ without k xs) (Sorted R) (λ _. s.1) (λ _. (all_without (R x) k xs s.0, sorted_without R k xs s.1))

-- another relation, for numbers of which P holds
sorted_weaker : (P : ℕ → Type 0) (R S : ℕ → ℕ → Type 0) → ((j k : ℕ) → P j → P k → R j k → S j k) → (ks : List ℕ) → AllByRecursion P ks → Sorted R ks → Sorted S ks
sorted_weaker P R S weak [] a s = tt
sorted_weaker P R S weak (k ∷ ks) a s =
    (all_both P (R k) (S k) (λ j p r. weak k j a.0 p r) ks a.1 s.0, sorted_weaker P R S weak ks a.1 s.1)

pub sorted_fresh : (V : Type 0) (a n : ℕ) → Sorted (Before {V = V} []) (range_with_len a n)
sorted_fresh V a zero = tt
sorted_fresh V a (suc n) = (go (a + 1) n (omega arith), sorted_fresh V (a + 1) n)
  where
    go : (b n : ℕ) → a < b → AllByRecursion (Before {V = V} [] a) (range_with_len b n)
    go b zero l = tt
    go b (suc n) l = (inr (tt, tt, l), go (b + 1) n (omega arith))

module _ {V : Type 0} (h : List (Event V)) (e : Event V) where
  before_on : (j k : ℕ) → (Empties j e → ⊥) → (Empties k e → ⊥) → Before h j k → Before (h ++ e ∷ []) j k
  before_on j k nj nk (inl s) = inl (since_on (Empties j) (Empties k) h e nk s)
  before_on j k nj nk (inr c) = inr (All-push (λ x. Empties j x → ⊥) h e c.0 nj, All-push (λ x. Empties k x → ⊥) h e c.1 nk, c.2)

  sorted_on : (ks : List ℕ) → AllByRecursion (λ j. Empties j e → ⊥) ks → Sorted (Before h) ks → Sorted (Before (h ++ e ∷ [])) ks
  sorted_on = sorted_weaker (λ j. Empties j e → ⊥) (Before h) (Before (h ++ e ∷ [])) before_on

  -- the order after one event more: a key is emptied only where it stood not in the free list
  pub order_step : (t t' : Table V) → Effect t e t' → ((k : ℕ) (w : V) → t.held k ≡ Some w → count k t.free ≡ 0)
      → Sorted (Before h) t.free → Sorted (Before (h ++ e ∷ [])) t'.free
  order_step t t' (quiet d p) taken s =
      subst (λ (u : Table V). Sorted (Before (h ++ e ∷ [])) u.free) (sym p)
      (sorted_on t.free (all_listed _ t.free (λ j _. not_emptied e nothing d j (no_key j))) s)
  order_step t t' (filling k v b f p) taken s =
      subst (λ (u : Table V). Sorted (Before (h ++ e ∷ [])) u.free) (sym p)
      (sorted_without (Before (h ++ e ∷ [])) k t.free
      (sorted_on t.free (all_listed _ t.free (λ j _. not_emptied e (fill k v) (fills_deed k v e f) j (no_key j))) s))
  order_step t t' (replacing k v w r held p) taken s =
      subst (λ (u : Table V). Sorted (Before (h ++ e ∷ [])) u.free) (sym p)
      (sorted_on t.free (all_listed _ t.free (λ j _. not_emptied e (write k v) (replaces_deed k v e r) j (no_key j))) s)
  order_step t t' (emptying k w m held p) taken s =
      let others : AllByRecursion (λ j. Empties j e → ⊥) t.free
      = all_listed _ t.free (λ j l. not_emptied e (empty k) (empties_deed k e m) j (other_key j k (λ q. omega (arith, l, ap (λ x. count x t.free) q, taken k w held)))) in
      subst (λ (u : Table V). Sorted (Before (h ++ e ∷ [])) u.free) (sym p) (
        all_listed (Before (h ++ e ∷ []) k) t.free (λ j _. inl (since_now (Empties k) (Empties j) h e m)),
        sorted_on t.free others s,
      )

  -- whether a key was emptied by the event
  empties_or_not : (t t' : Table V) → Effect t e t' → (j : ℕ) → Empties j e ⊎ (Empties j e → ⊥)
  empties_or_not t t' (quiet d p) j = inr (not_emptied e nothing d j (no_key j))
  empties_or_not t t' (filling k v b f p) j = inr (not_emptied e (fill k v) (fills_deed k v e f) j (no_key j))
  empties_or_not t t' (replacing k v w r held p) j = inr (not_emptied e (write k v) (replaces_deed k v e r) j (no_key j))
  empties_or_not t t' (emptying k w m held p) j =
      ⊎_elim
      (λ (q : j ≡ k). inl (subst (λ x. Empties x e) (sym q) m))
      (λ (q : j ≡ k → ⊥). inr (not_emptied e (empty k) (empties_deed k e m) j (other_key j k q)))
      (cases_eq j k)

  pub ever_step : (t t' : Table V) → Effect t e t' → (j : ℕ) → Ever h j → Ever (h ++ e ∷ []) j
  ever_step t t' f j before =
      ⊎_elim
      (λ (m : Empties j e). inl (since_now (Empties j) (Empties j) h e m))
      (λ (no-m : Empties j e → ⊥).
      ⊎_elim
      (λ (s : Since (Empties j) (Empties j) h). inl (since_on (Empties j) (Empties j) h e no-m s))
      (λ (n : Never (Empties j) h). inr (All-push (λ x. Empties j x → ⊥) h e n no-m))
      before)
      (empties_or_not t t' f j)

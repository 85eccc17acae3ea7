-- The key that an insert gets, by the history before it.
use Rattle.std.proofs.Common.{◌≡◌, ℕ, ◌<◌, ◌≤◌, ◌⊎◌, List, [], ◌∷◌, Ok, sym, refl, ap, ◌∙◌, subst, inl, inr, ⊎_elim, arith}
use Rattle.std.specs.List.{slice_get, AllByRecursion}
use Rattle.std.proofs.ByRecursion.{All-weaker}
use Rattle.std.proofs.lemmas.Bool.{cases_eq, cases_lt}
use Rattle.model.specs.Counts.{count}
use Rattle.model.specs.Tables.{Table, insert_answer}
use Rattle.model.proofs.Sums.{same_yes, same_no}
use Rattle.history.specs.declared.calls.Answer.TheVariants.{Key}
use Rattle.history.specs.Histories.{Event, Empties, Never, Since, Holds, Vacant, EmptiedLatest, AllHold, SmallestUnused, HandsOut}
use Rattle.history.proofs.Since.{since_never, since_weaker, since_join}
use Rattle.history.proofs.Keys.{told_listed, told_vacant, told_free, told_taken}
use Rattle.history.proofs.Order.{Sorted, Before}
use Rattle.history.proofs.Told.{Told}

listed_all : (P : ℕ → Type 0) (ks : List ℕ) → AllByRecursion P ks → (j : ℕ) → 0 < count j ks → P j
listed_all P [] a j some = absurd (omega arith)
listed_all P (k ∷ ks) a j some =
    ⊎_elim
    (λ (q : j ≡ k). subst P (sym q) a.0)
    (λ (q : j ≡ k → ⊥). listed_all P ks a.1 j (omega (arith, same_no j k q)))
    (cases_eq j k)

-- one of these keys is emptied
abbrev OneOf : {V : Type 0} → List ℕ → Event V → Type 0
OneOf ks e = (j : ℕ) × (0 < count j ks) × Empties j e

-- of the keys x ∷ xs it is x, or one of the others
one_split : {V : Type 0} (x : ℕ) (xs : List ℕ) (e : Event V) → OneOf (x ∷ xs) e → Empties x e ⊎ OneOf xs e
one_split x xs e c =
    ⊎_elim
    (λ (q : c.0 ≡ x). inl (subst (λ y. Empties y e) q c.2))
    (λ (q : c.0 ≡ x → ⊥). inr (c.0, omega (arith, c.1, same_no c.0 x q), c.2))
    (cases_eq c.0 x)

-- key k was emptied since each of these was, so since all of them
since_all : {V : Type 0} (k : ℕ) (h : List (Event V)) → Since (Empties k) (Empties k) h → (ks : List ℕ) → AllByRecursion (λ j. Since (Empties k) (Empties j) h) ks
    → Since (Empties k) (OneOf ks) h
since_all k h s [] a = since_weaker (Empties k) (Empties k) (OneOf []) (λ e c. absurd (omega (arith, c.1))) h s
since_all k h s (x ∷ xs) a =
    since_weaker (Empties k) (λ e. Empties x e ⊎ OneOf xs e) (OneOf (x ∷ xs)) (one_split x xs) h
    (since_join (Empties k) (Empties x) (OneOf xs) h a.0 (since_all k h s xs a.1))

-- key j was never emptied, and is not below k
abbrev Unused : {V : Type 0} → List (Event V) → ℕ → ℕ → Type 0
Unused h k j = Never (Empties j) h × (k ≤ j)

module _ {V : Type 0} (C : ℕ) (h : List (Event V)) (t : Table V) (told : Told C h t) where
  vacant_listed : (ks : List ℕ) → t.free ≡ ks → (j : ℕ) → j < C → Vacant j h → 0 < count j ks
  vacant_listed ks p j b vacant = omega (arith, told_vacant C h j (t.held j) (count j t.free) (told.keys j) b vacant, ap (count j) p)

  unlisted_holds : (ks : List ℕ) → t.free ≡ ks → (j : ℕ) → j < C → count j ks ≡ 0 → Holds j h
  unlisted_holds ks p j b none = told_taken C h j (t.held j) (count j t.free) (told.keys j) b (ap (count j) p ∙ none)

  emptied_latest : (k : ℕ) (ks : List ℕ) → t.free ≡ k ∷ ks → AllByRecursion (Before h k) ks → Since (Empties k) (Empties k) h → EmptiedLatest C k h
  emptied_latest k ks p order s =
      since_weaker (Empties k) (OneOf (k ∷ ks)) (λ e. (j : ℕ) × (j < C) × Vacant j h × Empties j e)
      (λ e c. (c.0, vacant_listed (k ∷ ks) p c.0 c.1 c.2, c.3)) h
      (since_all k h s (k ∷ ks) (
        s,
        All-weaker (Before h k) (λ j. Since (Empties k) (Empties j) h)
            (λ j. ⊎_elim (λ r. r) (λ c. absurd (since_never (Empties k) (Empties k) h s c.0))) ks order,
      ))

  smallest_unused : (k : ℕ) (ks : List ℕ) → t.free ≡ k ∷ ks → k < C → AllByRecursion (Before h k) ks → Never (Empties k) h → SmallestUnused C k h
  smallest_unused k ks p first order never =
      let all : AllByRecursion (Unused h k) (k ∷ ks) = (
        (never, omega arith),
        All-weaker (Before h k) (Unused h k)
            (λ j. ⊎_elim (λ s. absurd (since_never (Empties k) (Empties j) h s never)) (λ c. (c.1, omega (arith, c.2)))) ks order,
      ) in (
        λ j b vacant. (listed_all (Unused h k) (k ∷ ks) all j (vacant_listed (k ∷ ks) p j b vacant)).0,
        λ j l.
            ⊎_elim
            (λ (some : 0 < count j (k ∷ ks)). absurd (omega (arith, l, (listed_all (Unused h k) (k ∷ ks) all j some).1)))
            (λ (none : count j (k ∷ ks) ≤ 0). unlisted_holds (k ∷ ks) p j (omega arith) (omega arith))
            (cases_lt 0 (count j (k ∷ ks))),
      )

  hands_first : (ks : List ℕ) → t.free ≡ ks → HandsOut C h (Ok (Key (slice_get ks 0)))
  hands_first [] p =
      let all : AllHold C h = λ k b. unlisted_holds [] p k b refl in
      record { none = λ _. all; full = λ _. refl; some = λ vacancy. absurd (vacancy all) }
  hands_first (k ∷ ks) p =
      let one : 0 < count k t.free = omega (arith, ap (count k) p, same_yes k k refl) in
      let first : k < C = told_listed C h k (t.held k) (count k t.free) (told.keys k) one in
      let vacant : Vacant k h = told_free C h k (t.held k) (count k t.free) (told.keys k) one in
      let order : Sorted (Before h) (k ∷ ks) = subst (Sorted (Before h)) p told.order in
      record {
        none = λ q. let z : ◌≡◌ {A = ℕ} 0 1 = cc in absurd (omega arith);
        full = λ all. absurd (vacant (all k first));
        some = λ _. (
          k,
          refl,
          first,
          vacant,
          ⊎_elim
              (λ s. inl (emptied_latest k ks p order.0 s))
              (λ never. inr (smallest_unused k ks p first order.0 never))
              (told.ever k),
        );
      }

  pub hands_out : HandsOut C h (Ok (Key (insert_answer t)))
  hands_out = hands_first t.free refl

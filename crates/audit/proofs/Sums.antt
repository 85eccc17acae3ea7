-- Laws of sums and counts that the audit rests on.
use Rattle.std.proofs.Common.{◌≡◌, ℕ, zero, suc, ◌+◌, ◌<◌, ◌≤◌, List, [], ◌∷◌, length, get_or, sym, refl, ap, subst, ⊎_elim, arith}
use Rattle.std.specs.List.{AllByRecursion}
use Rattle.std.proofs.lemmas.Bool.{cases_eq}
use Rattle.model.specs.Counts.{sum_to, same, count}
use Rattle.model.proofs.Sums.{same_yes, same_no}

pub sum_step : (f : ℕ → ℕ) (n : ℕ) → sum_to f (n + 1) ≡ sum_to f n + f n
sum_step f n = let one : n + 1 ≡ suc n = omega arith in ap (sum_to f) one

sum_below : (f g : ℕ → ℕ) (n : ℕ) → ((i : ℕ) → i < n → f i ≤ g i) → sum_to f n ≤ sum_to g n
sum_below f g zero h = omega arith
sum_below f g (suc n) h = omega (arith, sum_below f g n (λ i l. h i (omega arith)), h n (omega arith))

-- a sum with more terms is no less
pub sum_up : (f : ℕ → ℕ) (m n : ℕ) → m ≤ n → sum_to f m ≤ sum_to f n
sum_up f m zero l = let z : m ≡ 0 = omega arith in omega (arith, ap (sum_to f) z)
sum_up f m (suc n) l =
    ⊎_elim
    (λ (e : m ≡ suc n). omega (arith, ap (sum_to f) e))
    (λ (e : m ≡ suc n → ⊥). omega (arith, sum_up f m n (omega arith)))
    (cases_eq m (suc n))

-- terms that are no more than others, and sum to no less, are the others
pub sum_tight : (f g : ℕ → ℕ) (n : ℕ) → ((i : ℕ) → i < n → f i ≤ g i) → sum_to g n ≤ sum_to f n → (k : ℕ) → k < n → f k ≡ g k
sum_tight f g zero h le k l = absurd (omega arith)
sum_tight f g (suc n) h le k l =
    ⊎_elim
    (λ (e : k ≡ n). omega (arith, sum_below f g n (λ i b. h i (omega arith)), h n (omega arith), ap f e, ap g e))
    (λ (e : k ≡ n → ⊥). sum_tight f g n (λ i b. h i (omega arith)) (omega (arith, h n (omega arith))) k (omega arith))
    (cases_eq k n)

sum_front : (f : ℕ → ℕ) (n : ℕ) → sum_to f (suc n) ≡ f 0 + sum_to (λ i. f (suc i)) n
sum_front f zero = omega arith
sum_front f (suc n) = omega (arith, sum_front f n)

-- how often a number stands in a list, place by place
pub count_sum : (s d : ℕ) (ys : List ℕ) → count s ys ≡ sum_to (λ i. same s (get_or ys i d)) (length ys)
count_sum s d [] = refl
count_sum s d (y ∷ ys) = omega (arith, count_sum s d ys, sum_front (λ i. same s (get_or (y ∷ ys) i d)) (length ys))

-- what holds of each number of a list
pub all_counted : (P : ℕ → Type 0) (ys : List ℕ) → ((k : ℕ) → 0 < count k ys → P k) → AllByRecursion P ys
all_counted P [] h = tt
all_counted P (y ∷ ys) h = (h y (omega (arith, same_yes y y refl)), all_counted P ys (λ k l. h k (omega arith)))

pub counted_all : (P : ℕ → Type 0) (ys : List ℕ) → AllByRecursion P ys → (k : ℕ) → 0 < count k ys → P k
counted_all P [] a k l = absurd (omega arith)
counted_all P (y ∷ ys) a k l =
    ⊎_elim
    (λ (e : k ≡ y). subst P (sym e) a.0)
    (λ (e : k ≡ y → ⊥). counted_all P ys a.1 k (omega (arith, same_no k y e)))
    (cases_eq k y)

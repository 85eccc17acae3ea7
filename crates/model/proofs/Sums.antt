-- Laws of sum_to, same, count and without.
use Rattle.std.proofs.Common.{◌≡◌, ℕ, zero, suc, ◌+◌, ◌<◌, ◌≤◌, eqb, ◌≢◌, List, [], ◌∷◌, ◌++◌, length, sym, refl, ap, ◌∙◌, ⊎_elim, arith}
use Rattle.std.proofs.lemmas.Bool.{cases_eq, eq-eqb, ne_eqb, cond-true, cond-false}
use Rattle.std.specs.List.{AllByRecursion}
use Rattle.model.specs.Counts.{sum_to, same, count, without}

pub same_yes : (x y : ℕ) → x ≡ y → same x y ≡ 1
same_yes x y e = cond-true (eqb x y) 1 0 (eq-eqb x y e)

pub same_no : (x y : ℕ) → x ≢ y → same x y ≡ 0
same_no x y e = cond-false (eqb x y) 1 0 (ne_eqb x y e)

pub same_small : (x y : ℕ) → same x y ≤ 1
same_small x y = ⊎_elim (λ e. omega (arith, same_yes x y e)) (λ e. omega (arith, same_no x y e)) (cases_eq x y)

pub sum_alike : (f g : ℕ → ℕ) (n : ℕ) → ((i : ℕ) → i < n → f i ≡ g i) → sum_to f n ≡ sum_to g n
sum_alike f g zero h = refl
sum_alike f g (suc n) h =
    let r = sum_alike f g n (λ i l. h i (omega arith)) in
    omega (arith, r, h n (omega arith))

-- two sums that differ at one place
pub sum_change : (f g : ℕ → ℕ) (k n : ℕ) → k < n → ((i : ℕ) → i < n → i ≢ k → f i ≡ g i)
    → sum_to f n + g k ≡ sum_to g n + f k
sum_change f g k zero l h = absurd (omega arith)
sum_change f g k (suc n) l h =
    ⊎_elim
    (λ (e : n ≡ k).
    let r = sum_alike f g n (λ i b. h i (omega arith) (omega arith)) in
    omega (arith, r, ap f e, ap g e))
    (λ (e : n ≡ k → ⊥).
    let r = sum_change f g k n (omega arith) (λ i b ne. h i (omega arith) ne) in
    omega (arith, r, h n (omega arith) e))
    (cases_eq n k)

pub sum_term : (f : ℕ → ℕ) (k n : ℕ) → k < n → f k ≤ sum_to f n
sum_term f k zero l = absurd (omega arith)
sum_term f k (suc n) l =
    ⊎_elim
    (λ (e : n ≡ k). omega (arith, ap f e))
    (λ (e : n ≡ k → ⊥). omega (arith, sum_term f k n (omega arith)))
    (cases_eq n k)

pub sum_two : (f : ℕ → ℕ) (j k n : ℕ) → j < k → k < n → f j + f k ≤ sum_to f n
sum_two f j k zero i l = absurd (omega arith)
sum_two f j k (suc n) i l =
    ⊎_elim
    (λ (e : n ≡ k). omega (arith, ap f e, sum_term f j n (omega arith)))
    (λ (e : n ≡ k → ⊥). omega (arith, sum_two f j k n i (omega arith)))
    (cases_eq n k)

pub sum_add : (f g : ℕ → ℕ) (n : ℕ) → sum_to (λ i. f i + g i) n ≡ sum_to f n + sum_to g n
sum_add f g zero = refl
sum_add f g (suc n) = omega (arith, sum_add f g n)

pub sum_zero : (n : ℕ) → sum_to (λ _. 0) n ≡ 0
sum_zero zero = refl
sum_zero (suc n) = omega (arith, sum_zero n)

pub sum_ones : (f : ℕ → ℕ) (n : ℕ) → ((i : ℕ) → i < n → f i ≡ 1) → sum_to f n ≡ n
sum_ones f zero h = refl
sum_ones f (suc n) h =
    let r = sum_ones f n (λ i l. h i (omega arith)) in
    omega (arith, r, h n (omega arith))

-- a double sum by rows and by columns
pub sum_swap : (f : ℕ → ℕ → ℕ) (m n : ℕ)
    → sum_to (λ i. sum_to (λ j. f i j) n) m ≡ sum_to (λ j. sum_to (λ i. f i j) m) n
sum_swap f zero n = sym (sum_zero n)
sum_swap f (suc m) n =
    let r = sum_swap f m n in
    omega (arith, r, sum_add (λ j. sum_to (λ i. f i j) m) (λ j. f m j) n)

pub sum_none : (y n : ℕ) → n ≤ y → sum_to (λ s. same s y) n ≡ 0
sum_none y zero l = refl
sum_none y (suc n) l = omega (arith, sum_none y n (omega arith), same_no n y (omega arith))

pub sum_once : (y n : ℕ) → y < n → sum_to (λ s. same s y) n ≡ 1
sum_once y zero l = absurd (omega arith)
sum_once y (suc n) l =
    ⊎_elim
    (λ (e : n ≡ y). omega (arith, same_yes n y e, sum_none y n (omega arith)))
    (λ (e : n ≡ y → ⊥). omega (arith, same_no n y e, sum_once y n (omega arith)))
    (cases_eq n y)

-- how often the numbers below n stand in a list of such numbers: as often as it is long
pub sum_counts : (n : ℕ) (ys : List ℕ) → AllByRecursion (λ s. s < n) ys → sum_to (λ s. count s ys) n ≡ length ys
sum_counts n [] a = sum_zero n
sum_counts n (y ∷ ys) a =
    let r = sum_counts n ys a.1 in
    omega (arith, r, sum_once y n a.0, sum_add (λ s. same s y) (λ s. count s ys) n)

pub count_push : (x : ℕ) (ys : List ℕ) (y : ℕ) → count x (ys ++ y ∷ []) ≡ count x ys + same x y
count_push x [] y = omega arith
count_push x (z ∷ ys) y = omega (arith, count_push x ys y)

pub without_first : (k : ℕ) (ks : List ℕ) → without k (k ∷ ks) ≡ ks
without_first k ks = cond-true (eqb k k) ks (k ∷ without k ks) (eq-eqb k k refl)

pub without_later : (k x : ℕ) (xs : List ℕ) → k ≢ x → without k (x ∷ xs) ≡ x ∷ without k xs
without_later k x xs ne = cond-false (eqb k x) xs (x ∷ without k xs) (ne_eqb k x ne)

-- a list in which k does not stand
pub without_none : (k : ℕ) (xs : List ℕ) → count k xs ≡ 0 → without k xs ≡ xs
without_none k [] e = refl
without_none k (x ∷ xs) e =
    ⊎_elim
    (λ (q : k ≡ x). absurd (omega (arith, e, same_yes k x q)))
    (λ (q : k ≡ x → ⊥). without_later k x xs q ∙ ap (λ ys. x ∷ ys) (without_none k xs (omega (arith, e, same_no k x q))))
    (cases_eq k x)

-- one k less, and all else as before
pub count_without_same : (k : ℕ) (xs : List ℕ) → 0 < count k xs → count k (without k xs) + 1 ≡ count k xs
count_without_same k [] l = absurd (omega arith)
count_without_same k (x ∷ xs) l =
    ⊎_elim
    (λ (e : k ≡ x).
    let w : without k (x ∷ xs) ≡ xs = cond-true (eqb k x) xs (x ∷ without k xs) (eq-eqb k x e) in
    omega (arith, ap (count k) w, same_yes k x e))
    (λ (e : k ≡ x → ⊥).
    let r = count_without_same k xs (omega (arith, same_no k x e)) in
    omega (arith, r, ap (count k) (without_later k x xs e), same_no k x e))
    (cases_eq k x)

pub count_without_other : (j k : ℕ) (xs : List ℕ) → j ≢ k → count j (without k xs) ≡ count j xs
count_without_other j k [] ne = refl
count_without_other j k (x ∷ xs) ne =
    ⊎_elim
    (λ (e : k ≡ x).
    let w : without k (x ∷ xs) ≡ xs = cond-true (eqb k x) xs (x ∷ without k xs) (eq-eqb k x e) in
    omega (arith, ap (count j) w, same_no j x (omega arith)))
    (λ (e : k ≡ x → ⊥).
    omega (arith, count_without_other j k xs ne, ap (count j) (without_later k x xs e)))
    (cases_eq k x)

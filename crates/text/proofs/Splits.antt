-- Where a line ends.
use Rattle.std.proofs.Common.{◌≡◌, ℕ, zero, suc, ◌+◌, ◌<◌, ◌≤◌, ◌≢◌, true, false, cond, eqb, List, [], ◌∷◌, length, get_or, take, drop, sym, refl, ap, ◌∙◌, arith}
use Rattle.std.proofs.lemmas.Bool.{eq-eqb, ne_eqb, cond-true, cond-false}
use Rattle.text.specs.Lines.{lines, onto, first_line, after_line}

-- a text that is not empty has its first line, and the lines after that
onto_first : (b : ℕ) (bs : List ℕ) → onto b (lines bs) ≡ (b ∷ first_line bs) ∷ lines (after_line bs)
onto_first b [] = refl
onto_first b (c ∷ cs) =
    elim (eqb c 10) as (λ t. onto b (cond t ([] ∷ lines cs) (onto c (lines cs))) ≡ (b ∷ cond t [] (c ∷ first_line cs)) ∷ lines (cond t cs (after_line cs))) [
      | true ↦ refl
      | false ↦ ap (onto b) (onto_first c cs)
    ]

lines_first : (xs : List ℕ) → 0 < length xs → lines xs ≡ first_line xs ∷ lines (after_line xs)
lines_first [] some = absurd (omega arith)
lines_first (b ∷ bs) some =
    elim (eqb b 10) as (λ t. cond t ([] ∷ lines bs) (onto b (lines bs)) ≡ cond t [] (b ∷ first_line bs) ∷ lines (cond t bs (after_line bs))) [
      | true ↦ refl
      | false ↦ onto_first b bs
    ]

-- a line read off a text, and what is left of it
pub lines_read : (text line rest : List ℕ) → 0 < length text → line ≡ first_line text → rest ≡ after_line text → lines text ≡ line ∷ lines rest
lines_read text line rest some first after = lines_first text some ∙ ap (λ l. l ∷ lines (after_line text)) (sym first) ∙ ap (λ r. line ∷ lines r) (sym after)

-- the first line, and the rest, by where the line ends
pub first_ends : (xs : List ℕ) (n : ℕ) → n < length xs → ((k : ℕ) → k < n → get_or xs k 0 ≢ 10) → get_or xs n 0 ≡ 10
    → (take n xs ≡ first_line xs) × (drop (n + 1) xs ≡ after_line xs)
first_ends [] n h before found = absurd (omega arith)
first_ends (x ∷ xs) zero h before found = (sym (cond-true _ _ _ (eq-eqb x 10 found)), sym (cond-true _ _ _ (eq-eqb x 10 found)))
first_ends (x ∷ xs) (suc n) h before found =
    let rest = first_ends xs n (omega arith) (λ k lt. before (suc k) (omega arith)) found in
    let next : suc n + 1 ≡ suc (n + 1) = omega arith in
    let other = ne_eqb x 10 (before 0 (omega arith)) in
    (ap (λ ys. x ∷ ys) rest.0 ∙ sym (cond-false _ _ _ other), ap (λ k. drop k (x ∷ xs)) next ∙ rest.1 ∙ sym (cond-false _ _ _ other))

pub first_only : (xs : List ℕ) → ((k : ℕ) → k < length xs → get_or xs k 0 ≢ 10) → (xs ≡ first_line xs) × ([] ≡ after_line xs)
first_only [] none = (refl, refl)
first_only (x ∷ xs) none =
    let rest = first_only xs (λ k lt. none (suc k) (omega arith)) in
    let other = ne_eqb x 10 (none 0 (omega arith)) in
    (ap (λ ys. x ∷ ys) rest.0 ∙ sym (cond-false _ _ _ other), rest.1 ∙ sym (cond-false _ _ _ other))

-- a text has no more lines than bytes
length-onto : (b : ℕ) (ls : List (List ℕ)) → length (onto b ls) ≤ length ls + 1
length-onto b [] = omega arith
length-onto b (l ∷ ls) = omega arith

pub length-lines : (text : List ℕ) → length (lines text) ≤ length text
length-lines [] = omega arith
length-lines (b ∷ bs) =
    elim (eqb b 10) as (λ t. length (cond t ([] ∷ lines bs) (onto b (lines bs))) ≤ length (b ∷ bs)) [
      | true ↦ omega (arith, length-lines bs)
      | false ↦ omega (arith, length-lines bs, length-onto b (lines bs))
    ]

-- The last elements of a list.
use Rattle.std.proofs.Common.{◌≡◌, ℕ, ◌+◌, ◌-◌, ◌<◌, ◌≤◌, List, ◌++◌, length, take, drop, sym, refl, ap, ◌∙◌, ⊎_elim, arith}
use Rattle.std.proofs.lemmas.List.{append_assoc, drop_at, drop-drop, length-append, length-drop, take-append-drop}
use Rattle.std.proofs.lemmas.Bool.{cases_lt}
use Rattle.containers.specs.Bounded.{latest}

-- a list that is short enough is kept whole
pub latest_all : {T : Type 0} (n : ℕ) (xs : List T) → length xs ≤ n → latest n xs ≡ xs
latest_all n xs h = let none : length xs - n ≡ 0 = omega arith in ap (λ k. drop k xs) none

-- what has to go from the front of two lists goes from the second once it has enough
latest_append : {T : Type 0} (n : ℕ) (xs ys : List T) → n ≤ length ys → latest n (xs ++ ys) ≡ latest n ys
latest_append n xs ys h =
    let split : length (xs ++ ys) - n ≡ length xs + (length ys - n) = omega (arith, length-append xs ys) in
    ap (λ k. drop k (xs ++ ys)) split
    ∙ sym (drop-drop (length ys - n) (length xs) (xs ++ ys))
    ∙ ap (drop (length ys - n)) (drop_at xs ys (length xs) refl)

-- so elements can be let go early
pub latest_latest : {T : Type 0} (n : ℕ) (xs ys : List T) → latest n (latest n xs ++ ys) ≡ latest n (xs ++ ys)
latest_latest n xs ys =
    ⊎_elim
    (λ (more : n < length xs).
    let m = length xs - n in
    let front = take m xs in
    let rest = drop m xs in
    let enough : n ≤ length (rest ++ ys) = omega (arith, length-append rest ys, length-drop m xs) in
    sym (latest_append n front (rest ++ ys) enough)
    ∙ ap (latest n) (sym (append_assoc front rest ys) ∙ ap (λ zs. zs ++ ys) (take-append-drop m xs)))
    (λ (few : length xs ≤ n). ap (λ zs. latest n (zs ++ ys)) (latest_all n xs few))
    (cases_lt n (length xs))

-- The pairs that a walk over the holding keys meets.
use Rattle.std.proofs.Common.{◌≡◌, ℕ, zero, suc, ◌+◌, ◌-◌, ◌<◌, ◌≤◌, List, [], ◌∷◌, ◌++◌, Some, None, codes, Option, sym, refl, ap, ◌∙◌, append_assoc, append-nil, arith}
use Rattle.std.specs.List.{range_with_len, flat_map}
use Rattle.std.specs.Option.{option_map, option_or, option_to_list}
use Rattle.model.specs.Tables.{Table, first_held, step_answer}
use Rattle.history.specs.Said.{pair_text}
use Rattle.script.specs.Transcript.{pairs_from, blank_pairs, listed}

-- what the keys of a list hold
abbrev held_of : (ℕ → Option ℕ) → List ℕ → List (ℕ × ℕ)
held_of f ks = flat_map (λ k. option_to_list (option_map (λ v. (k, v)) (f k))) ks

none_case : (k : ℕ) (o : Option ℕ) (later : Option (ℕ × ℕ)) (rest : List (ℕ × ℕ)) → (later ≡ None → rest ≡ [])
    → option_or (option_map (λ v. (k, v)) o) later ≡ None → option_to_list (option_map (λ v. (k, v)) o) ++ rest ≡ []
none_case k None later rest more e = more e
none_case k (Some v) later rest more e = let z : ◌≡◌ {A = ℕ} 0 1 = cc in absurd (omega arith)

none_held : (f : ℕ → Option ℕ) (ks : List ℕ) → first_held f ks ≡ None → held_of f ks ≡ []
none_held f [] e = refl
none_held f (k ∷ ks) e = none_case k (f k) (first_held f ks) (held_of f ks) (none_held f ks) e

-- the first pair, and the pairs after it
abbrev Found : (ℕ → Option ℕ) → ℕ → ℕ → ℕ × ℕ → Type 0
Found f p n x = (p ≤ x.0) × (x.0 < p + n) × (held_of f (range_with_len p n) ≡ x ∷ held_of f (range_with_len (x.0 + 1) (p + n - (x.0 + 1))))

some_case : (f : ℕ → Option ℕ) (p n : ℕ) (o : Option ℕ) (x : ℕ × ℕ) → f p ≡ o
    → (first_held f (range_with_len (p + 1) n) ≡ Some x → Found f (p + 1) n x)
    → option_or (option_map (λ v. (p, v)) o) (first_held f (range_with_len (p + 1) n)) ≡ Some x → Found f p (suc n) x
some_case f p n None x is more e =
    let m = more e in
    let same : p + 1 + n - (x.0 + 1) ≡ p + suc n - (x.0 + 1) = omega arith in (
      omega (arith, m.0),
      omega (arith, m.1),
      ap (λ o. option_to_list (option_map (λ v. (p, v)) o) ++ held_of f (range_with_len (p + 1) n)) is
          ∙ m.2
          ∙ ap (λ i. x ∷ held_of f (range_with_len (x.0 + 1) i)) same,
    )
some_case f p n (Some w) x is more e =
    let q : (p, w) ≡ x = cc in
    let first : p ≡ x.0 = ap (λ y. y.0) q in
    let same : n ≡ p + suc n - (p + 1) = omega arith in (
      omega arith,
      omega arith,
      ap (λ o. option_to_list (option_map (λ v. (p, v)) o) ++ held_of f (range_with_len (p + 1) n)) is
          ∙ ap (λ i. (p, w) ∷ held_of f (range_with_len (p + 1) i)) same
          ∙ ap (λ y. y ∷ held_of f (range_with_len (y.0 + 1) (p + suc n - (y.0 + 1)))) q,
    )

found : (f : ℕ → Option ℕ) (p n : ℕ) (x : ℕ × ℕ) → first_held f (range_with_len p n) ≡ Some x → Found f p n x
found f p zero x e = let z : ◌≡◌ {A = ℕ} 0 1 = cc in absurd (omega arith)
found f p (suc n) x e = some_case f p n (f p) x refl (found f (p + 1) n x) e

module _ (t : Table ℕ) (p : ℕ) where
  pub pairs_none : step_answer t p ≡ None → pairs_from t p ≡ []
  pairs_none e = none_held t.held (range_with_len p (t.capacity - p)) e

  pub pairs_some : (x : ℕ × ℕ) → step_answer t p ≡ Some x → pairs_from t p ≡ x ∷ pairs_from t (x.0 + 1)
  pairs_some x e =
      let f = found t.held p (t.capacity - p) x e in
      let same : p + (t.capacity - p) - (x.0 + 1) ≡ t.capacity - (x.0 + 1) = omega (arith, f.0, f.1) in
      f.2 ∙ ap (λ i. x ∷ held_of t.held (range_with_len (x.0 + 1) i)) same

-- the first pair is printed
pub pairs_first : (t : Table ℕ) (p new : ℕ) (x : ℕ × ℕ) (before now : List ℕ) → Some x ≡ step_answer t p → new ≡ x.0 + 1
    → now ≡ before ++ pair_text x → now ++ blank_pairs (pairs_from t new) ≡ before ++ listed (pairs_from t p)
pairs_first t p new x before now e en ex =
    ap (λ n. now ++ blank_pairs (pairs_from t n)) en
    ∙ ap (λ q. q ++ blank_pairs (pairs_from t (x.0 + 1))) ex
    ∙ append_assoc before (pair_text x) (blank_pairs (pairs_from t (x.0 + 1)))
    ∙ ap (λ q. before ++ listed q) (sym (pairs_some t p x (sym e)))

-- or there is none
pub pairs_dash : (t : Table ℕ) (p : ℕ) (before now : List ℕ) → None ≡ step_answer t p → now ≡ before ++ codes "-" → now ≡ before ++ listed (pairs_from t p)
pairs_dash t p before now e ex = ex ∙ ap (λ q. before ++ listed q) (sym (pairs_none t p (sym e)))

-- one pair more is printed
pub pairs_step : (t : Table ℕ) (p new : ℕ) (x : ℕ × ℕ) (before now start : List ℕ) → Some x ≡ step_answer t p → new ≡ x.0 + 1
    → now ≡ before ++ (codes " " ++ pair_text x) → before ++ blank_pairs (pairs_from t p) ≡ start
    → now ++ blank_pairs (pairs_from t new) ≡ start
pairs_step t p new x before now start e en ex es =
    ap (λ n. now ++ blank_pairs (pairs_from t n)) en
    ∙ ap (λ q. q ++ blank_pairs (pairs_from t (x.0 + 1))) ex
    ∙ append_assoc before (codes " " ++ pair_text x) (blank_pairs (pairs_from t (x.0 + 1)))
    ∙ ap (λ q. before ++ blank_pairs q) (sym (pairs_some t p x (sym e)))
    ∙ es

-- and none is left
pub pairs_end : (t : Table ℕ) (p : ℕ) (now start : List ℕ) → None ≡ step_answer t p → now ++ blank_pairs (pairs_from t p) ≡ start → now ≡ start
pairs_end t p now start e es = sym (append-nil now) ∙ ap (λ q. now ++ blank_pairs q) (sym (pairs_none t p (sym e))) ∙ es

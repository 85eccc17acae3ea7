-- A walk over the keys from a place on, to the first that holds something.
use Rattle.std.proofs.Common.{◌≡◌, ℕ, zero, suc, ◌+◌, ◌-◌, ◌<◌, ◌≤◌, Some, None, Option, ap, ◌∙◌, arith}
use Rattle.std.specs.List.{range_with_len}
use Rattle.std.specs.Option.{option_map, option_or}
use Rattle.model.specs.Tables.{first_held}

module _ {V : Type 0} (f : ℕ → Option V) (C p : ℕ) where
  -- one key on
  on : p < C → first_held f (range_with_len p (C - p)) ≡ option_or (option_map (λ v. (p, v)) (f p)) (first_held f (range_with_len (p + 1) (C - (p + 1))))
  on b = let more : C - p ≡ suc (C - (p + 1)) = omega arith in ap (λ n. first_held f (range_with_len p n)) more

  pub step_found : (v : V) → p < C → f p ≡ Some v → first_held f (range_with_len p (C - p)) ≡ Some (p, v)
  step_found v b e = on b ∙ ap (λ o. option_or (option_map (λ w. (p, w)) o) (first_held f (range_with_len (p + 1) (C - (p + 1))))) e

  pub step_on : p < C → f p ≡ None → first_held f (range_with_len p (C - p)) ≡ first_held f (range_with_len (p + 1) (C - (p + 1)))
  step_on b e = on b ∙ ap (λ o. option_or (option_map (λ w. (p, w)) o) (first_held f (range_with_len (p + 1) (C - (p + 1))))) e

  pub step_end : C ≤ p → first_held f (range_with_len p (C - p)) ≡ None
  step_end b = let none : C - p ≡ 0 = omega arith in ap (λ n. first_held f (range_with_len p n)) none

-- the key that is found is one of those looked at
first_case : {V : Type 0} (p m : ℕ) (later : Option (ℕ × V)) (x : ℕ × V) (o : Option V) → (later ≡ Some x → x.0 < p + 1 + m)
    → option_or (option_map (λ v. (p, v)) o) later ≡ Some x → x.0 < p + suc m
first_case p m later x None rest e = omega (arith, rest e)
first_case p m later x (Some v) rest e = let q : (p, v) ≡ x = cc in omega (arith, ap (λ y. y.0) q)

pub first_below : {V : Type 0} (f : ℕ → Option V) (p m : ℕ) (x : ℕ × V) → first_held f (range_with_len p m) ≡ Some x → x.0 < p + m
first_below f p zero x e = let z : ◌≡◌ {A = ℕ} 0 1 = cc in absurd (omega arith)
first_below f p (suc m) x e = first_case p m (first_held f (range_with_len (p + 1) m)) x (f p) (first_below f (p + 1) m x) e

-- and none before the place where the walk began
from_case : {V : Type 0} (p : ℕ) (o : Option V) (later : Option (ℕ × V)) (x : ℕ × V) → (later ≡ Some x → p ≤ x.0)
    → option_or (option_map (λ v. (p, v)) o) later ≡ Some x → p ≤ x.0
from_case p None later x rest e = rest e
from_case p (Some v) later x rest e = let q : (p, v) ≡ x = cc in omega (arith, ap (λ y. y.0) q)

pub first_from : {V : Type 0} (f : ℕ → Option V) (p m : ℕ) (x : ℕ × V) → first_held f (range_with_len p m) ≡ Some x → p ≤ x.0
first_from f p zero x e = let z : ◌≡◌ {A = ℕ} 0 1 = cc in absurd (omega arith)
first_from f p (suc m) x e =
    from_case p (f p) (first_held f (range_with_len (p + 1) m)) x (λ d. omega (arith, first_from f (p + 1) m x d)) e

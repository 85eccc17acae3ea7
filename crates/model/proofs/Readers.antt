-- The calls that only read, on cells that mean a table.
use Rattle.std.proofs.Common.{◌≡◌, ℕ, zero, suc, ◌+◌, ◌-◌, ◌<◌, ◌≤◌, cond, List, [], ◌∷◌, None, Ok, Option, sym, refl, ap, ◌∙◌, ⊎_elim, arith}
use Rattle.std.proofs.lemmas.Bool.{cases_eq, cases_lt, eq-eqb, ne_eqb, cond-true, cond-false}
use Rattle.std.specs.List.{slice_get, range_with_len, AllByRecursion}
use Rattle.std.specs.Option as options
use Rattle.std.specs.Result.{result_map_both, result_unwrap_or}
use Rattle.model.specs.Layouts.{Layout, capacity, nil, slot_at}
use Rattle.model.specs.Tables.{Table, insert_answer, contains_answer, len_answer, first_held, step_answer}
use Rattle.model.specs.Sound.{holds, Means}
use Rattle.model.specs.Checks.{contains_cells, head_cells, get_cells, step_cells}
use Rattle.model.proofs.Sums.{sum_alike}
use Rattle.model.proofs.Refines.{holds_yes, holds_no}
use Rattle.model.proofs.Passes.{value_there}
use Rattle.model.proofs.Calls.{inside, past, held_none, slot_past, slot_none, slot_some, head_none, head_some, get_answers}

-- the first of some keys is the same where each of these keys holds the same
first_alike : {V : Type 0} (f g : ℕ → Option V) (ks : List ℕ) → AllByRecursion (λ k. f k ≡ g k) ks → first_held f ks ≡ first_held g ks
first_alike f g [] same = refl
first_alike f g (k ∷ ks) same =
    ap (λ o. options.option_or (options.option_map (λ v. (k, v)) o) (first_held f ks)) same.0
    ∙ ap (options.option_or (options.option_map (λ v. (k, v)) (g k))) (first_alike f g ks same.1)

-- what holds of each number below n holds of those from p on
all_from : (P : ℕ → Type 0) (p m n : ℕ) → p + m ≤ n → ((k : ℕ) → k < n → P k) → AllByRecursion P (range_with_len p m)
all_from P p zero n fits each = tt
all_from P p (suc m) n fits each = (each p (omega arith), all_from P (p + 1) m n (omega arith) each)

module _ {V : Type 0} (l : Layout V) (t : Table V) (h : Means l t) where
  pub contains_answers : (k : ℕ) → contains_cells l k ≡ contains_answer t k
  contains_answers k =
      ⊎_elim
      (λ (b : k < capacity l).
      ⊎_elim
      (λ (e : slot_at l.index k ≡ nil).
      ap (result_map_both options.is_some (λ d. d)) (slot_none l t h k b e)
      ∙ ap (λ o. Ok (options.is_some o)) (sym (held_none l t h k b e))
      ∙ sym (inside l t h k _ _ b))
      (λ (e : slot_at l.index k ≡ nil → ⊥).
      ap (result_map_both options.is_some (λ d. d)) (slot_some l t h k b e)
      ∙ ap (λ o. Ok (options.is_some o)) (sym (value_there l t h k b e).2)
      ∙ sym (inside l t h k _ _ b))
      (cases_eq (slot_at l.index k) nil))
      (λ (b : capacity l ≤ k). ap (result_map_both options.is_some (λ d. d)) (slot_past l t h k b) ∙ sym (past l t h k _ _ b))
      (cases_lt k (capacity l))

  pub head_answers : head_cells l ≡ insert_answer t
  head_answers =
      ⊎_elim
      (λ (e : l.head ≡ nil). cond-true _ _ _ (eq-eqb l.head nil e) ∙ ap (λ ks. slice_get ks 0) (sym (head_none l t h e)))
      (λ (e : l.head ≡ nil → ⊥). cond-false _ _ _ (ne_eqb l.head nil e) ∙ ap (λ ks. slice_get ks 0) (sym (head_some l t h e).2))
      (cases_eq l.head nil)

  pub len_answers : l.len ≡ len_answer t
  len_answers =
      let f : ℕ → ℕ = λ k. cond (options.is_some (t.held k)) 1 0 in
      h.counted
      ∙ sum_alike (holds l.index) f (capacity l)
      (λ k b.
      ⊎_elim
      (λ (e : slot_at l.index k ≡ nil). holds_no l.index k e ∙ ap (λ o. cond (options.is_some o) 1 0) (sym (held_none l t h k b e)))
      (λ (e : slot_at l.index k ≡ nil → ⊥). holds_yes l.index k e ∙ ap (λ o. cond (options.is_some o) 1 0) (sym (value_there l t h k b e).2))
      (cases_eq (slot_at l.index k) nil))
      ∙ ap (λ C. len_answer (record { capacity = C; held = t.held; free = t.free })) (sym h.size)

  pub step_answers : (p : ℕ) → step_cells l p ≡ step_answer t p
  step_answers p =
      let f : ℕ → Option V = λ k. result_unwrap_or (get_cells l k) None in
      let same : (k : ℕ) → k < capacity l → f k ≡ t.held k = λ k b. ap (λ r. result_unwrap_or r None) (get_answers l t h k ∙ inside l t h k _ _ b) in
      ⊎_elim
      (λ (b : p < capacity l). first_alike f t.held (range_with_len p (capacity l - p)) (all_from (λ k. f k ≡ t.held k) p (capacity l - p) (capacity l) (omega arith) same))
      (λ (b : capacity l ≤ p).
      let z : capacity l - p ≡ 0 = omega arith in
      ap (λ m. first_held f (range_with_len p m)) z ∙ ap (λ m. first_held t.held (range_with_len p m)) (sym z))
      (cases_lt p (capacity l))
      ∙ ap (λ C. first_held t.held (range_with_len p (C - p))) (sym h.size)

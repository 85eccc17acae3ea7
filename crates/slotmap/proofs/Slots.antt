-- The steps of a remove and a replace, one after another.
use Rattle.std.proofs.Common.{◌≡◌, ℕ, cond, length, is_ok, Some, Ok, Option, Result, sym, ap, ◌∙◌}
use Rattle.std.proofs.lemmas.Bool.{lt-ltb}
use Rattle.std.specs.Result.{result_and, result_map_both}
use Rattle.refusal.specs.declared.Refusal.{Refusal}
use Rattle.model.specs.Layouts.{Layout, rewritten, overwritten, emptied_at, emptied}
use Rattle.model.specs.Checks.{then, passes, storable, slot_of, value_of, vacate_answer, of_slot, from_slot, get_cells, remove_cells}
use Rattle.model.proofs.Checked.{found_ok, slot_ok}

pub replace_steps : {V : Type 0} (l l₁ l₂ l₃ : Layout V) (k s : ℕ) (v old : V) (o : Option ℕ) (r : Result (Unit {0}) Refusal)
    → Ok o ≡ slot_of l k → o ≡ Some s → l₁ ≡ l → Ok old ≡ value_of l₁ s → l₂ ≡ l₁ → r ≡ storable l₂.values s → l₃ ≡ cond (is_ok r) (rewritten l₂ s v) l₂
    → (Ok (Some old) ≡ get_cells l k) × (l₃ ≡ overwritten l k v)
replace_steps l l₁ l₂ l₃ k s v old o r po qo p₁ pv p₂ pr p₃ =
    let is : slot_of l k ≡ Ok (Some s) = sym po ∙ ap Ok qo in
    let value = pv ∙ ap (λ n. value_of n s) p₁ in
    let there = found_ok l.values s old old (sym value) in
    let stored : r ≡ Ok tt = pr ∙ ap (λ n. storable n.values s) (p₂ ∙ p₁) ∙ ap passes (lt-ltb s (length l.values) there.0) in (
      ap (result_map_both Some (λ d. d)) value ∙ ap (λ x. then x (of_slot l)) (sym is),
      p₃
          ∙ ap (λ x. cond (is_ok x) (rewritten l₂ s v) l₂) stored
          ∙ ap (λ n. rewritten n s v) (p₂ ∙ p₁)
          ∙ ap (λ x. rewritten l x v) (slot_ok l k s is).0,
    )

pub remove_steps : {V : Type 0} (l l₁ l₂ l₃ : Layout V) (k s : ℕ) (v : V) (o : Option ℕ)
    → Ok o ≡ slot_of l k → o ≡ Some s → l₁ ≡ l → Ok v ≡ value_of l₁ s → l₂ ≡ l₁ → Ok tt ≡ vacate_answer l₂ k → l₃ ≡ emptied_at l₂ k s
    → (Ok (Some v) ≡ remove_cells l k) × (l₃ ≡ emptied l k)
remove_steps l l₁ l₂ l₃ k s v o po qo p₁ pv p₂ pe p₃ =
    let is : slot_of l k ≡ Ok (Some s) = sym po ∙ ap Ok qo in (
      ap (λ r. result_and r (Ok (Some v))) (pe ∙ ap (λ n. vacate_answer n k) (p₂ ∙ p₁))
          ∙ ap (λ r. then r (λ w. result_and (vacate_answer l k) (Ok (Some w)))) (pv ∙ ap (λ n. value_of n s) p₁)
          ∙ ap (λ r. then r (from_slot l k)) (sym is),
      p₃ ∙ ap (λ n. emptied_at n k s) (p₂ ∙ p₁) ∙ ap (emptied_at l k) (slot_ok l k s is).0,
    )

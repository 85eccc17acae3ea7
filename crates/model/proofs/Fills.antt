-- The steps of a fill, a replace and a remove, one after another.
use Rattle.std.proofs.Common.{◌≡◌, ℕ, Ok, sym, ap, ◌∙◌}
use Rattle.std.specs.Result.{result_and}
use Rattle.rows.specs.declared.cell.FreeListEntry.{FreeListEntry}
use Rattle.model.specs.Layouts.{Layout, oldest_slot, claimed, given, filled}
use Rattle.model.specs.Checks.{then, fillable, waiting, storable, store_answer, fill_answer}
use Rattle.model.proofs.Checked.{fillable_stores, fillable_ok}

-- a vacant key is filled: its value is stored, and it leaves the free list
pub fill_steps : {V : Type 0} (l l₁ l₂ l₃ : Layout V) (k : ℕ) (v : V) (e : FreeListEntry)
    → Ok e ≡ fillable l k → l₁ ≡ l → Ok tt ≡ store_answer l₁ → l₂ ≡ given l₁ k (oldest_slot l₁.slots) v → l₃ ≡ claimed l₂ k e
    → (Ok tt ≡ fill_answer l k) × (l₃ ≡ filled l k v)
fill_steps l l₁ l₂ l₃ k v e pe p₁ ps p₂ p₃ = (
  ps
      ∙ ap store_answer p₁
      ∙ fillable_stores l k e (sym pe)
      ∙ ap (λ r. result_and r (then (waiting l.slots) (storable l.values))) pe,
  p₃
      ∙ ap (λ n. claimed n k e) (p₂ ∙ ap (λ n. given n k (oldest_slot n.slots) v) p₁)
      ∙ ap (claimed _ k) (fillable_ok l k e (sym pe)),
)

-- The marks: a slot has one for each number that was met, and at most one.
use Rattle.std.proofs.Common.{◌≡◌, ℕ, ◌+◌, ◌<◌, ◌≤◌, Bool, true, false, eqb, ◌≢◌, List, get_or, ap, ◌∙◌, ⊎_elim, arith}
use Rattle.std.proofs.lemmas.Bool.{cases_eq, eq-eqb, ne_eqb, cond-true, cond-false}
use Rattle.model.specs.Counts.{same}
use Rattle.model.specs.Layouts.{nil}
use Rattle.model.proofs.Sums.{same_yes}
use Rattle.audit.specs.Parts.{bit, given, Apart, Marked}
use Rattle.audit.proofs.Sums.{sum_step, sum_up}

pub bit_small : (b : Bool) → bit b ≤ 1
bit_small true = omega arith
bit_small false = omega arith

pub given_no : (s : ℕ) → s ≡ nil → given s ≡ 0
given_no s e = cond-true (eqb s nil) 0 1 (eq-eqb s nil e)

pub given_yes : (s : ℕ) → s ≢ nil → given s ≡ 1
given_yes s ne = cond-false (eqb s nil) 0 1 (ne_eqb s nil ne)

pub given_small : (s : ℕ) → given s ≤ 1
given_small s = ⊎_elim (λ e. omega (arith, given_no s e)) (λ e. omega (arith, given_yes s e)) (cases_eq s nil)

module _ {before : List Bool} {C : ℕ} {f : ℕ → ℕ} where
  -- it is no slot, or a slot that has a mark: one too many
  pub marked_stuck : {now : List Bool} {i m n k : ℕ} (s : ℕ) → Marked before now C f i n → s ≡ f i → i < m → s ≢ nil
      → (s < C → get_or now s false ≡ true) → Apart before C f m k → ⊥
  marked_stuck {now} {i} {m} {n} {k} s h is l ne full a =
      let b : s < C = omega (arith, is, a.slots i l (λ e. ne (is ∙ e))) in
      let g : ℕ → ℕ = λ j. same s (f j) in
      omega (arith, ap bit (full b), h.marks s b, a.once s b, sum_step g i, sum_up g (i + 1) m (omega arith), same_yes s (f i) is)

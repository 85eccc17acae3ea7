-- What queue and vector answer by their cells is what a list answers.
use Rattle.std.proofs.Common.{◌≡◌, ℕ, ◌-◌, ◌<◌, ◌≤◌, length, Some, Ok, Option, sym, ap, ◌∙◌, ⊎_elim, arith}
use Rattle.std.proofs.lemmas.List.{length-take-le}
use Rattle.std.proofs.lemmas.Option.{slice_get_past}
use Rattle.std.proofs.lemmas.Bool.{cases_eq, cases_lt, lt-ltb, le-ltb, eq-eqb, ne_eqb, cond-true, cond-false}
use Rattle.std.specs.List.{slice_get}
use Rattle.std.specs.Option.{ok_or}
use Rattle.std.specs.Result.{result_map_both}
use Rattle.refusal.specs.declared.Refusal.{Refusal}
use Rattle.refusal.specs.declared.Refusal.TheVariants.{PlacePastLength, NoPlace}
use Rattle.rows.proofs.Cells.{write_within, nth_take}
use Rattle.containers.specs.Bounded.{append_answer}
use Rattle.containers.specs.Queues as queues
use Rattle.containers.specs.Vectors as vectors
use Rattle.containers.proofs.Rounds.{length_contents, nth_contents, nth_some}

-- a found element is answered alike whatever its absence would have been
pub ok_or_some : {T E : Type 0} (o : Option T) (x : T) (d e : E) → o ≡ Some x → ok_or o d ≡ ok_or o e
ok_or_some o x d e h = ap (λ p. ok_or p d) h ∙ sym (ap (λ p. ok_or p e) h)

-- and then a read gives it
pub some_read : {T : Type 0} (o : Option T) (x : T) → o ≡ Some x → result_map_both Some (λ (e : Refusal). e) (ok_or o NoPlace) ≡ Ok o
some_read o x h = ap (λ p. result_map_both Some (λ (e : Refusal). e) (ok_or p NoPlace)) h ∙ ap Ok (sym h)

module _ {T : Type 0} (q : queues.QueueState T) (begins : q.start ≤ q.capacity - 1) (within : q.len ≤ q.capacity) (backed : queues.Backed q) where
  pub sized : length (queues.contents q) ≡ q.len
  sized = length_contents q within backed

  -- an element below the length is found
  pub found : (i : ℕ) → i < q.len → (x : T) × (slice_get (queues.contents q) i ≡ Some x)
  found i h = nth_some (queues.contents q) i (omega (arith, sized))

  pub get_answer_holds : (i : ℕ) → queues.get_answer q i ≡ ok_or (slice_get (queues.contents q) i) PlacePastLength
  get_answer_holds i =
      ⊎_elim
      (λ (lt : i < q.len).
      let it = found i lt in
      cond-true _ _ _ (lt-ltb i q.len lt)
      ∙ ap (λ o. ok_or o NoPlace) (sym (nth_contents q within backed i lt))
      ∙ ok_or_some (slice_get (queues.contents q) i) it.0 NoPlace PlacePastLength it.1)
      (λ (le : q.len ≤ i).
      cond-false _ _ _ (le-ltb i q.len le)
      ∙ ap (λ o. ok_or o PlacePastLength) (sym (slice_get_past (queues.contents q) i (omega (arith, sized)))))
      (cases_lt i q.len)

  pub oldest_answer_holds : queues.oldest_answer q ≡ Ok (slice_get (queues.contents q) 0)
  oldest_answer_holds =
      ⊎_elim
      (λ (none : q.len ≡ 0).
      cond-true _ _ _ (eq-eqb q.len 0 none)
      ∙ ap Ok (sym (slice_get_past (queues.contents q) 0 (omega (arith, sized)))))
      (λ (some : q.len ≡ 0 → ⊥).
      let it = found 0 (omega arith) in
      cond-false _ _ _ (ne_eqb q.len 0 some)
      ∙ ap (λ o. result_map_both Some (λ e. e) (ok_or o NoPlace)) (sym (nth_contents q within backed 0 (omega arith)))
      ∙ some_read (slice_get (queues.contents q) 0) it.0 it.1)
      (cases_eq q.len 0)

  pub push_answer_holds : queues.push_answer q ≡ append_answer q.capacity (queues.contents q)
  push_answer_holds =
      ⊎_elim
      (λ (room : q.len < q.capacity).
      cond-true _ _ _ (lt-ltb q.len q.capacity room)
      ∙ write_within q.cells q.start (omega arith)
      ∙ sym (cond-true _ _ _ (lt-ltb (length (queues.contents q)) q.capacity (omega (arith, sized)))))
      (λ (full : q.capacity ≤ q.len).
      cond-false _ _ _ (le-ltb q.len q.capacity full)
      ∙ sym (cond-false _ _ _ (le-ltb (length (queues.contents q)) q.capacity (omega (arith, sized)))))
      (cases_lt q.len q.capacity)

module _ {T : Type 0} (v : vectors.VecState T) (within : v.len ≤ v.capacity) (backed : vectors.Backed v) where
  pub length_held : length (vectors.contents v) ≡ v.len
  length_held = length-take-le v.len v.cells (omega arith)

  -- an element below the length lies at its place, and is found
  at_place : (i : ℕ) → i < v.len → slice_get (vectors.contents v) i ≡ slice_get v.cells i
  at_place i h = nth_take v.len i v.cells h

  held_at : (i : ℕ) → i < v.len → (x : T) × (slice_get (vectors.contents v) i ≡ Some x)
  held_at i h = nth_some (vectors.contents v) i (omega (arith, length_held))

  pub pop_answer_holds : vectors.pop_answer v ≡ Ok (slice_get (vectors.contents v) (length (vectors.contents v) - 1))
  pop_answer_holds =
      ⊎_elim
      (λ (none : v.len ≡ 0).
      cond-true _ _ _ (eq-eqb v.len 0 none)
      ∙ ap Ok (sym (slice_get_past (vectors.contents v) (length (vectors.contents v) - 1) (omega (arith, length_held)))))
      (λ (some : v.len ≡ 0 → ⊥).
      let it = held_at (v.len - 1) (omega arith) in
      cond-false _ _ _ (ne_eqb v.len 0 some)
      ∙ ap (λ o. result_map_both Some (λ e. e) (ok_or o NoPlace)) (sym (at_place (v.len - 1) (omega arith)))
      ∙ some_read (slice_get (vectors.contents v) (v.len - 1)) it.0 it.1
      ∙ ap (λ n. Ok (slice_get (vectors.contents v) (n - 1))) (sym length_held))
      (cases_eq v.len 0)

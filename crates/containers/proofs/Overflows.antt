-- What a push with overflow means, from what it does to the cells.
use Rattle.std.proofs.Common.{◌≡◌, ℕ, ◌+◌, ◌-◌, ◌%◌, ◌<◌, ◌≤◌, cond, [], ◌∷◌, ◌++◌, length, drop, is_ok, Some, None, Ok, Err, Option, Result, sym, ap, ◌∙◌, subst, ⊎_elim, arith}
use Rattle.std.proofs.lemmas.List.{length_push, nil_from_length, drop_all, drop-append-le}
use Rattle.std.proofs.lemmas.Bool.{cases_eq, cases_lt, lt-ltb, le-ltb, eq-eqb, ne_eqb, cond-true, cond-false}
use Rattle.std.specs.List.{slice_get}
use Rattle.std.specs.Option.{ok_or}
use Rattle.std.specs.Result.{result_map_both}
use Rattle.refusal.specs.declared.Refusal.{Refusal}
use Rattle.refusal.specs.declared.Refusal.TheVariants.{NoCell, NoPlace}
use Rattle.rows.proofs.Cells.{write_within}
use Rattle.containers.specs.Bounded.{Means, latest, displaced}
use Rattle.containers.specs.Queues.{QueueState, Backed, contents, pushed, popped, overflowed, overflow_answer}
use Rattle.containers.proofs.Answered.{some_read, sized, found}
use Rattle.containers.proofs.Rounds.{nth_contents, contents_pushed, contents_popped, pushed_backed, wrap_below}

module _ {T : Type 0} (q : QueueState T) (begins : q.start ≤ q.capacity - 1) (within : q.len ≤ q.capacity) (backed : Backed q) where
  held : length (contents q) ≡ q.len
  held = sized q begins within backed

  -- the oldest of a full queue lies at start
  oldest_full : q.len ≡ q.capacity → 0 < q.capacity → slice_get (contents q) 0 ≡ slice_get q.cells q.start
  oldest_full full some =
      let at : q.start + q.capacity - q.len + 0 ≡ q.start = omega arith in
      nth_contents q within backed 0 (omega arith)
      ∙ ap (λ x. slice_get q.cells (x % q.capacity)) at
      ∙ ap (slice_get q.cells) (wrap_below q.start q.capacity (omega arith))

  -- as many as there is space for: all of them, or all but the oldest
  latest_room : (v : T) → q.len < q.capacity → latest q.capacity (contents q ++ (v ∷ [])) ≡ contents q ++ (v ∷ [])
  latest_room v room =
      let more = length_push (contents q) v in
      let none : length (contents q ++ (v ∷ [])) - q.capacity ≡ 0 = omega (arith, held) in
      ap (λ n. drop n (contents q ++ (v ∷ []))) none

  latest_full : (v : T) → q.len ≡ q.capacity → 0 < q.capacity → latest q.capacity (contents q ++ (v ∷ [])) ≡ drop 1 (contents q) ++ (v ∷ [])
  latest_full v full some =
      let more = length_push (contents q) v in
      let one : length (contents q ++ (v ∷ [])) - q.capacity ≡ 1 = omega (arith, held) in
      ap (λ n. drop n (contents q ++ (v ∷ []))) one ∙ drop-append-le 1 (contents q) (v ∷ []) (omega (arith, held))

  -- the three ways of a push with overflow
  module _ (v : T) (r : Result (Option T) Refusal) (q' : QueueState T) (er : r ≡ overflow_answer q) (eq : q' ≡ cond (is_ok r) (overflowed q v) q) where
    Overflows : Type 0
    Overflows = Means contents Backed q r q' (displaced q.capacity) (λ xs. latest q.capacity (xs ++ (v ∷ [])))

    no_cell : q.capacity ≡ 0 → Overflows
    unfolding Overflows
    no_cell none =
        let refused : r ≡ Err NoCell = er ∙ cond-true _ _ _ (eq-eqb q.capacity 0 none) in
        let now : q' ≡ q = eq ∙ ap (λ s. cond (is_ok s) (overflowed q v) q) refused in
        record {
          value = refused ∙ sym (cond-true _ _ _ (eq-eqb q.capacity 0 none));
          holds = ap contents now ∙ nil_from_length (contents q) (omega (arith, held)) ∙ sym (drop_all (length (contents q ++ (v ∷ [])) - q.capacity) (contents q ++ (v ∷ [])) (omega arith));
          backed = subst Backed (sym now) backed;
        }

    has_room : q.len < q.capacity → Overflows
    unfolding Overflows
    has_room room =
        let some = ne_eqb q.capacity 0 (λ e. omega arith) in
        let yes-room = lt-ltb q.len q.capacity room in
        let answered : r ≡ Ok None
        = er ∙ cond-false _ _ _ some ∙ cond-true _ _ _ yes-room ∙ ap (result_map_both (λ _. None) (λ e. e)) (write_within q.cells q.start (omega arith)) in
        let now : q' ≡ pushed q v = eq ∙ ap (λ s. cond (is_ok s) (overflowed q v) q) answered ∙ cond-true _ _ _ yes-room in
        record {
          value = answered ∙ sym (cond-false _ _ _ some ∙ ap Ok (cond-true _ _ _ (lt-ltb (length (contents q)) q.capacity (omega (arith, held)))));
          holds = ap contents now ∙ contents_pushed q begins within backed v room ∙ sym (latest_room v room);
          backed = subst Backed (sym now) (pushed_backed q begins within backed v);
        }

    is_full : q.len ≡ q.capacity → 0 < q.capacity → Overflows
    unfolding Overflows
    is_full full positive =
        let some = ne_eqb q.capacity 0 (λ e. omega arith) in
        let no_room = le-ltb q.len q.capacity (omega arith) in
        let it = found q begins within backed 0 (omega arith) in
        let answered : r ≡ Ok (slice_get (contents q) 0)
        = er ∙ cond-false _ _ _ some ∙ cond-false _ _ _ no_room
        ∙ ap (λ o. result_map_both Some (λ e. e) (ok_or o NoPlace)) (sym (oldest_full full positive))
        ∙ some_read (slice_get (contents q) 0) it.0 it.1 in
        let now : q' ≡ pushed (popped q) v = eq ∙ ap (λ s. cond (is_ok s) (overflowed q v) q) answered ∙ cond-false _ _ _ no_room in
        record {
          value = answered ∙ sym (cond-false _ _ _ some ∙ ap Ok (cond-false _ _ _ (le-ltb (length (contents q)) q.capacity (omega (arith, held)))));
          holds =
              ap contents now
              ∙ contents_pushed (popped q) begins (omega arith) backed v (omega arith)
              ∙ ap (λ xs. xs ++ (v ∷ [])) (contents_popped q begins within backed)
              ∙ sym (latest_full v full positive);
          backed = subst Backed (sym now) (pushed_backed (popped q) begins (omega arith) backed v);
        }

    pub overflow_means : Means contents Backed q r q' (displaced q.capacity) (λ xs. latest q.capacity (xs ++ (v ∷ [])))
    unfolding Overflows
    overflow_means =
        ⊎_elim no_cell
        (λ (some : q.capacity ≡ 0 → ⊥). ⊎_elim has_room (λ (full : q.capacity ≤ q.len). is_full (omega arith) (omega arith)) (cases_lt q.len q.capacity))
        (cases_eq q.capacity 0)

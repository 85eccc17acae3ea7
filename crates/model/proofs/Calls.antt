-- Each call on the cells is the call on what they mean.
use Rattle.std.proofs.Common.{◌≡◌, ℕ, ◌<◌, ◌≤◌, cond, ◌≢◌, List, [], ◌∷◌, length, is_ok, Some, None, Ok, Err, Option, Result, sym, refl, ap, ◌∙◌, subst, ⊎_elim, arith}
use Rattle.std.proofs.lemmas.Bool.{cases_eq, cases_lt, eq-eqb, ne_eqb, lt-ltb, le-ltb, cond-true, cond-false}
use Rattle.std.specs.List.{slice_get}
use Rattle.std.specs.Result.{result_and, result_map_both}
use Rattle.refusal.specs.declared.Refusal.{Refusal}
use Rattle.refusal.specs.declared.Refusal.TheVariants.{KeyPastTable}
use Rattle.model.specs.Counts.{count, without}
use Rattle.model.specs.Layouts.{Layout, capacity, nil, slot_at, filled, overwritten, emptied}
use Rattle.model.specs.Tables.{Table, stored, stored_first, freed, freed_if, below, insert_answer, insert_after, insert_at_answer, insert_at_after, get_answer, remove_after, stored_if, replace_after}
use Rattle.model.specs.Sound.{Linked, vacant, Means, Follows}
use Rattle.model.specs.Checks.{then, passes, slot_of, at_slot, insert_at_cells, stored_at, inserted_at, of_slot, from_slot, vacate_answer, get_cells, insert_cells, remove_cells, when_given}
use Rattle.model.proofs.Sums.{same_yes, same_no, without_first, without_none}
use Rattle.model.proofs.Refines.{cell_none, holding_loose, filled_means, overwritten_means, emptied_means}
use Rattle.model.proofs.Passes.{index_vacant, index_holding, fill_passes, vacate_passes, value_there}

module _ {V : Type 0} (l : Layout V) (t : Table V) (h : Means l t) where
  pub inside : {A : Type 0} (k : ℕ) (x y : A) → k < capacity l → below t k x y ≡ x
  inside k x y b = cond-true _ _ _ (lt-ltb k t.capacity (omega (arith, h.size)))

  pub past : {A : Type 0} (k : ℕ) (x y : A) → capacity l ≤ k → below t k x y ≡ y
  past k x y b = cond-false _ _ _ (le-ltb k t.capacity (omega (arith, h.size)))

  pub held_none : (k : ℕ) → k < capacity l → slot_at l.index k ≡ nil → t.held k ≡ None
  held_none k b e = h.valued k b ∙ cell_none l.index l.values k e

  pub slot_past : (k : ℕ) → capacity l ≤ k → slot_of l k ≡ Err KeyPastTable
  slot_past k b = cond-false _ _ _ (le-ltb k (capacity l) b)

  pub slot_none : (k : ℕ) → k < capacity l → slot_at l.index k ≡ nil → slot_of l k ≡ Ok None
  slot_none k b e = cond-true _ _ _ (lt-ltb k (capacity l) b) ∙ index_vacant l t h k b e

  pub slot_some : (k : ℕ) → k < capacity l → slot_at l.index k ≢ nil → slot_of l k ≡ Ok (Some (slot_at l.index k))
  slot_some k b e = cond-true _ _ _ (lt-ltb k (capacity l) b) ∙ index_holding l t h k b e

  pub get_answers : (k : ℕ) → get_cells l k ≡ get_answer t k
  get_answers k =
      ⊎_elim
      (λ (b : k < capacity l).
      ⊎_elim
      (λ (e : slot_at l.index k ≡ nil).
      ap (λ r. then r (of_slot l)) (slot_none k b e) ∙ ap Ok (sym (held_none k b e)) ∙ sym (inside k _ _ b))
      (λ (e : slot_at l.index k ≡ nil → ⊥).
      let v = value_there l t h k b e in
      ap (λ r. then r (of_slot l)) (slot_some k b e) ∙ ap (result_map_both Some (λ d. d)) v.1 ∙ ap Ok (sym v.2) ∙ sym (inside k _ _ b))
      (cases_eq (slot_at l.index k) nil))
      (λ (b : capacity l ≤ k). ap (λ r. then r (of_slot l)) (slot_past k b) ∙ sym (past k _ _ b))
      (cases_lt k (capacity l))

  -- remove answers as get does, and empties the key that it answered for
  pub remove_both : (k : ℕ) → (remove_cells l k ≡ get_answer t k) × Means (when_given (remove_cells l k) (emptied l k) l) (remove_after t k)
  remove_both k =
      ⊎_elim
      (λ (b : k < capacity l).
      ⊎_elim
      (λ (e : slot_at l.index k ≡ nil).
      let answer : remove_cells l k ≡ Ok None = ap (λ r. then r (from_slot l k)) (slot_none k b e) in
      let none = held_none k b e in
      let after : remove_after t k ≡ t = inside k _ _ b ∙ ap (freed_if t k) none in
      (answer ∙ ap Ok (sym none) ∙ sym (inside k _ _ b), subst (λ r. Means (when_given r (emptied l k) l) (remove_after t k)) (sym answer) (subst (Means l) (sym after) h)))
      (λ (e : slot_at l.index k ≡ nil → ⊥).
      let v = value_there l t h k b e in
      let answer : remove_cells l k ≡ Ok (Some v.0)
      = ap (λ r. then r (from_slot l k)) (slot_some k b e)
      ∙ ap (λ r. then r (λ x. result_and (vacate_answer l k) (Ok (Some x)))) v.1
      ∙ ap (λ r. result_and r (Ok (Some v.0))) (vacate_passes l t h k b e) in
      let after : remove_after t k ≡ freed t k = inside k _ _ b ∙ ap (freed_if t k) v.2 in
      (answer ∙ ap Ok (sym v.2) ∙ sym (inside k _ _ b), subst (λ r. Means (when_given r (emptied l k) l) (remove_after t k)) (sym answer) (subst (Means (emptied l k)) (sym after) (emptied_means l t h k b e))))
      (cases_eq (slot_at l.index k) nil))
      (λ (b : capacity l ≤ k).
      let answer : remove_cells l k ≡ Err KeyPastTable = ap (λ r. then r (from_slot l k)) (slot_past k b) in
      let after : remove_after t k ≡ t = past k _ _ b in
      (answer ∙ sym (past k _ _ b), subst (λ r. Means (when_given r (emptied l k) l) (remove_after t k)) (sym answer) (subst (Means l) (sym after) h)))
      (cases_lt k (capacity l))

-- the free list's first key, as the head has it
pub head_none : {V : Type 0} (l : Layout V) (t : Table V) → Means l t → l.head ≡ nil → t.free ≡ []
head_none l t h e = go t.free h.free
  where
    go : (ks : List ℕ) → Linked l.links (capacity l) nil l.head ks → ks ≡ []
    go [] c = refl
    go (x ∷ xs) c = absurd (omega (arith, c.0, c.1, e, h.small))

pub head_some : {V : Type 0} (l : Layout V) (t : Table V) → Means l t → l.head ≢ nil
    → (l.head < capacity l) × (slot_at l.index l.head ≡ nil) × (t.free ≡ l.head ∷ without l.head t.free)
head_some l t h e = go t.free h.free h.keys
  where
    go : (ks : List ℕ) → Linked l.links (capacity l) nil l.head ks
        → ((k : ℕ) → k < capacity l → count k ks ≡ vacant l.index k)
        → (l.head < capacity l) × (slot_at l.index l.head ≡ nil) × (ks ≡ l.head ∷ without l.head ks)
    go [] c q = absurd (e c)
    go (x ∷ xs) c q =
        let b : l.head < capacity l = omega (arith, c.0, c.1) in (
          b,
          ⊎_elim
              (λ (s : slot_at l.index l.head ≡ nil). s)
              (λ (s : slot_at l.index l.head ≡ nil → ⊥).
              absurd (omega (arith, q l.head b, same_no (slot_at l.index l.head) nil s, same_yes l.head x c.0)))
              (cases_eq (slot_at l.index l.head) nil),
          subst (λ y. y ∷ xs ≡ l.head ∷ without l.head (y ∷ xs)) c.0
              (ap (λ ys. l.head ∷ ys) (sym (without_first l.head xs))),
        )

module _ {V : Type 0} (l : Layout V) (t : Table V) (h : Means l t) where
  pub insert_both : (v : V) → (insert_cells l ≡ Ok (insert_answer t)) × Means (when_given (insert_cells l) (filled l l.head v) l) (insert_after t v)
  insert_both v =
      ⊎_elim
      (λ (e : l.head ≡ nil).
      let none = head_none l t h e in
      let answer : insert_cells l ≡ Ok None = cond-true _ _ _ (eq-eqb l.head nil e) in (
        answer ∙ ap (λ ks. Ok (slice_get ks 0)) (sym none),
        subst (λ r. Means (when_given r (filled l l.head v) l) (insert_after t v)) (sym answer) (subst (λ ks. Means l (stored_first t v ks)) (sym none) h),
      ))
      (λ (e : l.head ≡ nil → ⊥).
      let k = l.head in
      let first = head_some l t h e in
      let answer : insert_cells l ≡ Ok (Some k) = cond-false _ _ _ (ne_eqb k nil e) ∙ ap (result_map_both (λ _. Some k) (λ d. d)) (fill_passes l t h k first.0 first.1) in (
        answer ∙ ap (λ ks. Ok (slice_get ks 0)) (sym first.2),
        subst (λ r. Means (when_given r (filled l k v) l) (insert_after t v)) (sym answer)
            (subst (λ ks. Means (filled l k v) (stored_first t v ks)) (sym first.2) (filled_means l t h k v first.0 first.1)),
      ))
      (cases_eq l.head nil)

  -- insert_at fills a vacant key, and writes over the value of a holding one
  pub insert_at_both : (k : ℕ) (v : V) → (insert_at_cells l k ≡ insert_at_answer t k) × Means (cond (is_ok (insert_at_cells l k)) (inserted_at l k v) l) (insert_at_after t k v)
  insert_at_both k v =
      let left : Result (Unit {0}) Refusal → Layout V = λ r. cond (is_ok r) (inserted_at l k v) l in
      ⊎_elim
      (λ (b : k < capacity l).
      let after : insert_at_after t k v ≡ stored t k v (without k t.free) = inside l t h k _ _ b in
      ⊎_elim
      (λ (e : slot_at l.index k ≡ nil).
      let answer : insert_at_cells l k ≡ Ok tt = ap (λ r. then r (at_slot l k)) (slot_none l t h k b e) ∙ fill_passes l t h k b e in
      let cells : inserted_at l k v ≡ filled l k v = ap (stored_at l k v) (slot_none l t h k b e) in (
        answer ∙ sym (inside l t h k _ _ b),
        subst (λ r. Means (left r) (insert_at_after t k v)) (sym answer)
            (subst (λ n. Means n (insert_at_after t k v)) (sym cells) (subst (Means (filled l k v)) (sym after) (filled_means l t h k v b e))),
      ))
      (λ (e : slot_at l.index k ≡ nil → ⊥).
      let answer : insert_at_cells l k ≡ Ok tt
      = ap (λ r. then r (at_slot l k)) (slot_some l t h k b e)
      ∙ ap passes (lt-ltb (slot_at l.index k) (length l.values) (omega (arith, h.slotted k b e, h.stores))) in
      let cells : inserted_at l k v ≡ overwritten l k v = ap (stored_at l k v) (slot_some l t h k b e) in
      let kept : stored t k v t.free ≡ insert_at_after t k v = ap (stored t k v) (sym (without_none k t.free (holding_loose l t h k b e))) ∙ sym after in (
        answer ∙ sym (inside l t h k _ _ b),
        subst (λ r. Means (left r) (insert_at_after t k v)) (sym answer)
            (subst (λ n. Means n (insert_at_after t k v)) (sym cells) (subst (Means (overwritten l k v)) kept (overwritten_means l t h k v b e))),
      ))
      (cases_eq (slot_at l.index k) nil))
      (λ (b : capacity l ≤ k).
      let answer : insert_at_cells l k ≡ Err KeyPastTable = ap (λ r. then r (at_slot l k)) (slot_past l t h k b) in
      let after : insert_at_after t k v ≡ t = past l t h k _ _ b in
      (answer ∙ sym (past l t h k _ _ b), subst (λ r. Means (left r) (insert_at_after t k v)) (sym answer) (subst (Means l) (sym after) h)))
      (cases_lt k (capacity l))

  -- replace answers as get does, and writes over the value that it answered
  pub replace_both : (k : ℕ) (v : V) → (get_cells l k ≡ get_answer t k) × Means (when_given (get_cells l k) (overwritten l k v) l) (replace_after t k v)
  replace_both k v =
      let left : Result (Option V) Refusal → Layout V = λ r. when_given r (overwritten l k v) l in
      let same = get_answers l t h k in (
        same,
        subst (λ r. Means (left r) (replace_after t k v)) (sym same)
            (⊎_elim
            (λ (b : k < capacity l).
            let answer : get_answer t k ≡ Ok (t.held k) = inside l t h k _ _ b in
            let after : replace_after t k v ≡ stored_if t k v (t.held k) = inside l t h k _ _ b in
            ⊎_elim
            (λ (e : slot_at l.index k ≡ nil).
            let none = held_none l t h k b e in
            subst (λ r. Means (left r) (replace_after t k v)) (sym (answer ∙ ap Ok none)) (subst (Means l) (sym (after ∙ ap (stored_if t k v) none)) h))
            (λ (e : slot_at l.index k ≡ nil → ⊥).
            let some = value_there l t h k b e in
            subst (λ r. Means (left r) (replace_after t k v)) (sym (answer ∙ ap Ok some.2))
            (subst (Means (overwritten l k v)) (sym (after ∙ ap (stored_if t k v) some.2)) (overwritten_means l t h k v b e)))
            (cases_eq (slot_at l.index k) nil))
            (λ (b : capacity l ≤ k).
            subst (λ r. Means (left r) (replace_after t k v)) (sym (past l t h k _ _ b)) (subst (Means l) (sym (past l t h k _ _ b)) h))
            (cases_lt k (capacity l))),
      )

-- so a call that answered and left what its cells say follows the table
pub read_follows : {V A : Type 0} (l l' : Layout V) (r x : A) (answer : Table V → A) → ((t : Table V) → Means l t → x ≡ answer t) → r ≡ x → l' ≡ l
    → Follows l r l' answer (λ t. t)
read_follows l l' r x answer same er el t h = (er ∙ same t h, subst (λ n. Means n t) (sym el) h)

pub change_follows : {V A : Type 0} (l l' : Layout V) (r x : A) (left : A → Layout V) (answer : Table V → A) (after : Table V → Table V)
    → ((t : Table V) → Means l t → (x ≡ answer t) × Means (left x) (after t)) → r ≡ x → l' ≡ left r
    → Follows l r l' answer after
change_follows l l' r x left answer after both er el t h =
    let done = both t h in
    (er ∙ done.0, subst (λ n. Means n (after t)) (sym (el ∙ ap left er)) done.1)

pub insert_follows : {V : Type 0} (l l' : Layout V) (v : V) (r : Result (Option ℕ) Refusal) → r ≡ insert_cells l → l' ≡ when_given r (filled l l.head v) l
    → Follows l r l' (λ t. Ok (insert_answer t)) (λ t. insert_after t v)
insert_follows l l' v r er el =
    change_follows l l' r (insert_cells l) (λ x. when_given x (filled l l.head v) l) (λ t. Ok (insert_answer t)) (λ t. insert_after t v) (λ t h. insert_both l t h v) er el

pub insert_at_follows : {V : Type 0} (l l' : Layout V) (k : ℕ) (v : V) (r : Result (Unit {0}) Refusal) → r ≡ insert_at_cells l k → l' ≡ cond (is_ok r) (inserted_at l k v) l
    → Follows l r l' (λ t. insert_at_answer t k) (λ t. insert_at_after t k v)
insert_at_follows l l' k v r er el =
    change_follows l l' r (insert_at_cells l k) (λ x. cond (is_ok x) (inserted_at l k v) l) (λ t. insert_at_answer t k) (λ t. insert_at_after t k v) (λ t h. insert_at_both l t h k v) er el

pub replace_follows : {V : Type 0} (l l' : Layout V) (k : ℕ) (v : V) (r : Result (Option V) Refusal) → r ≡ get_cells l k → l' ≡ when_given r (overwritten l k v) l
    → Follows l r l' (λ t. get_answer t k) (λ t. replace_after t k v)
replace_follows l l' k v r er el =
    change_follows l l' r (get_cells l k) (λ x. when_given x (overwritten l k v) l) (λ t. get_answer t k) (λ t. replace_after t k v) (λ t h. replace_both l t h k v) er el

pub remove_follows : {V : Type 0} (l l' : Layout V) (k : ℕ) (r : Result (Option V) Refusal) → r ≡ remove_cells l k → l' ≡ when_given r (emptied l k) l
    → Follows l r l' (λ t. get_answer t k) (λ t. remove_after t k)
remove_follows l l' k r er el =
    change_follows l l' r (remove_cells l k) (λ x. when_given x (emptied l k) l) (λ t. get_answer t k) (λ t. remove_after t k) (λ t h. remove_both l t h k) er el

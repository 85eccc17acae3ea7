-- What a history tells of the table by its meaning.
use Rattle.std.proofs.Common.{◌≡◌, ℕ, zero, suc, ◌+◌, ◌<◌, ◌≤◌, ◌⊎◌, List, [], ◌∷◌, ◌++◌, Some, sym, refl, ap, ◌∙◌, subst, inr, arith}
use Rattle.std.specs.List.{range_with_len}
use Rattle.std.proofs.lemmas.List.{append-nil, append_assoc}
use Rattle.model.specs.Counts.{count}
use Rattle.model.specs.Tables.{Table, fresh}
use Rattle.model.proofs.Sums.{same_no}
use Rattle.model.proofs.Fresh.{count_counting}
use Rattle.history.specs.Calls.{answer_to, after, answers_to, after_all}
use Rattle.history.specs.Histories.{Event, Filled, Empties}
use Rattle.history.specs.Promise.{calls, answers}
use Rattle.history.proofs.Since.{since_none}
use Rattle.history.proofs.Effects.{Effect, quiet, filling, replacing, emptying, event_effect}
use Rattle.history.proofs.Keys.{KeyTold, told_listed, key_step}
use Rattle.history.proofs.Order.{Sorted, Before, Ever, sorted_fresh, order_step, ever_step}

-- The table t of C keys after the history h.
pub record Told {V : Type 0} (C : ℕ) (h : List (Event V)) (t : Table V) : Type 0 where
  pub size : t.capacity ≡ C
  pub keys : (k : ℕ) → KeyTold C h k (t.held k) (count k t.free)
  pub order : Sorted (Before h) t.free
  pub ever : (k : ℕ) → Ever h k

count_past : (k a n : ℕ) → a + n ≤ k → count k (range_with_len a n) ≡ 0
count_past k a zero l = refl
count_past k a (suc n) l = omega (arith, same_no k a (omega arith), count_past k (a + 1) n (omega arith))

pub told_fresh : {V : Type 0} (C : ℕ) → Told {V = V} C [] (fresh C)
told_fresh {V} C = record {
  size = refl;
  keys = λ k. (since_none (Filled k) (λ x. Filled k x ⊎ Empties k x), λ b. count_counting k 0 C (omega arith) (omega arith), λ b. count_past k 0 C (omega arith));
  order = sorted_fresh V 0 C;
  ever = λ k. inr tt;
}

effect_size : {V : Type 0} (t : Table V) (e : Event V) (t' : Table V) → Effect t e t' → t'.capacity ≡ t.capacity
effect_size t e t' (quiet d p) = ap (λ u. u.capacity) p
effect_size t e t' (filling k v b f p) = ap (λ u. u.capacity) p
effect_size t e t' (replacing k v w r held p) = ap (λ u. u.capacity) p
effect_size t e t' (emptying k w m held p) = ap (λ u. u.capacity) p

module _ {V : Type 0} (C : ℕ) (h : List (Event V)) (t : Table V) (told : Told C h t) where
  listed : (k : ℕ) → 0 < count k t.free → k < C
  listed k some = told_listed C h k (t.held k) (count k t.free) (told.keys k) some

  taken : (k : ℕ) (w : V) → t.held k ≡ Some w → count k t.free ≡ 0
  taken k w held = (subst (λ o. KeyTold C h k o (count k t.free)) held (told.keys k)).3

  pub told_step : (e : Event V) → e.answer ≡ answer_to t e.call → Told C (h ++ e ∷ []) (after t e.call)
  told_step e p =
      let f = event_effect t (λ k some. subst (λ n. k < n) (sym told.size) (listed k some)) e p in
      record {
        size = effect_size t e (after t e.call) f ∙ told.size;
        keys = key_step C h e t (after t e.call) told.size f told.keys;
        order = order_step h e t (after t e.call) f taken told.order;
        ever = λ k. ever_step h e t (after t e.call) f k (told.ever k);
      }

-- a history whose events answered as the table does
pub told_on : {V : Type 0} (C : ℕ) (g : List (Event V)) (t : Table V) (h : List (Event V)) → Told C g t
    → answers h ≡ answers_to t (calls h) → Told C (g ++ h) (after_all t (calls h))
told_on C g t [] told p = subst (λ x. Told C x t) (sym (append-nil g)) told
told_on C g t (e ∷ h) told p =
    let here : e.answer ≡ answer_to t e.call = cc in
    let rest : answers h ≡ answers_to (after t e.call) (calls h) = cc in
    subst (λ x. Told C x (after_all t (calls (e ∷ h)))) (append_assoc g (e ∷ []) h)
    (told_on C (g ++ e ∷ []) (after t e.call) h (told_step C g t told e here) rest)

pub told_all : {V : Type 0} (C : ℕ) (h : List (Event V)) → answers h ≡ answers_to (fresh C) (calls h) → Told C h (after_all (fresh C) (calls h))
told_all C h p = told_on C [] (fresh C) h (told_fresh C) p

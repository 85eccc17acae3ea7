-- Calls made by the cells are the calls made on what the cells mean.
use Rattle.std.proofs.Common.{◌≡◌, ℕ, eqb, List, [], ◌∷◌, ◌++◌, Ok, sym, refl, ap, ◌∙◌, subst, append_assoc}
use Rattle.model.specs.Checks.{insert_cells, insert_at_cells, remove_cells, get_cells}
use Rattle.model.specs.Layouts.{Layout, capacity, Legal, SameBeyond}
use Rattle.model.specs.Sound.{Means, Follows}
use Rattle.model.specs.Tables.{Table, fresh, len_answer}
use Rattle.model.proofs.Beyond.{same_beyond, insert_beyond, insert_at_beyond, replace_beyond, remove_beyond}
use Rattle.model.proofs.Calls.{get_answers, insert_both, insert_at_both, replace_both, remove_both}
use Rattle.model.proofs.Readers.{contains_answers, head_answers, len_answers, step_answers}
use Rattle.history.specs.declared.calls.Call.{Call}
use Rattle.history.specs.declared.calls.Call.TheVariants.{Insert, InsertAt, Remove, Replace, Get, Contains, NextFreeKey, Len, Capacity, IsEmpty, IsFull, Step}
use Rattle.history.specs.declared.calls.Answer.TheVariants.{Done, Key, Value, Pair, Flag, Number}
use Rattle.history.specs.Calls.{answer_of, answer_to, after, answers_to, after_all, cells_answer, cells_after, cells_answers, cells_after_all}
use Rattle.history.specs.Histories.{Event}
use Rattle.history.specs.Promise.{Reached, calls, answers, paired}
use Rattle.history.proofs.Reached.{reached_more}

-- one call
pub call_follows : {V : Type 0} (l : Layout V) (c : Call V) → Follows l (cells_answer l c) (cells_after l c) (λ t. answer_to t c) (λ t. after t c)
call_follows l (Insert v) t h = let both = insert_both l t h v in (ap (answer_of Key) both.0, both.1)
call_follows l (InsertAt k v) t h = let both = insert_at_both l t h k v in (ap (answer_of (λ _. Done)) both.0, both.1)
call_follows l (Remove k) t h = let both = remove_both l t h k in (ap (answer_of Value) both.0, both.1)
call_follows l (Replace k v) t h = let both = replace_both l t h k v in (ap (answer_of Value) both.0, both.1)
call_follows l (Get k) t h = (ap (answer_of Value) (get_answers l t h k), h)
call_follows l (Contains k) t h = (ap (answer_of Flag) (contains_answers l t h k), h)
call_follows l NextFreeKey t h = (ap (λ k. Ok (Key k)) (head_answers l t h), h)
call_follows l Len t h = (ap (λ n. Ok (Number n)) (len_answers l t h), h)
call_follows l Capacity t h = (ap (λ n. Ok (Number n)) (sym h.size), h)
call_follows l IsEmpty t h = (ap (λ n. Ok (Flag (eqb n 0))) (len_answers l t h), h)
call_follows l IsFull t h = (ap (λ n. Ok (Flag (eqb n (capacity l)))) (len_answers l t h) ∙ ap (λ n. Ok (Flag (eqb (len_answer t) n))) (sym h.size), h)
call_follows l (Step p) t h = (ap (λ p. Ok (Pair p)) (step_answers l t h p), h)

pub call_beyond : {V : Type 0} (l : Layout V) (c : Call V) → Legal l.slots → SameBeyond l (cells_after l c)
call_beyond l (Insert v) legal = insert_beyond l v (insert_cells l) _ refl refl
call_beyond l (InsertAt k v) legal = insert_at_beyond l k v (insert_at_cells l k) _ refl refl
call_beyond l (Remove k) legal = remove_beyond l k (remove_cells l k) _ legal refl refl
call_beyond l (Replace k v) legal = replace_beyond l k v (get_cells l k) _ refl refl
call_beyond l (Get k) legal = same_beyond l
call_beyond l (Contains k) legal = same_beyond l
call_beyond l NextFreeKey legal = same_beyond l
call_beyond l Len legal = same_beyond l
call_beyond l Capacity legal = same_beyond l
call_beyond l IsEmpty legal = same_beyond l
call_beyond l IsFull legal = same_beyond l
call_beyond l (Step p) legal = same_beyond l

-- a list of calls answers as the table does
pub all_answer : {V : Type 0} (l : Layout V) (t : Table V) (cs : List (Call V)) → Means l t → cells_answers l cs ≡ answers_to t cs
all_answer l t [] h = refl
all_answer l t (c ∷ cs) h =
    let one = call_follows l c t h in
    ap (λ a. a ∷ cells_answers (cells_after l c) cs) one.0 ∙ ap (λ xs. answer_to t c ∷ xs) (all_answer (cells_after l c) (after t c) cs one.1)

-- one more call of a history
pub reached_made : {V : Type 0} (C : ℕ) (h : List (Event V)) (l : Layout V) (c : Call V) → Reached C h l
    → Reached C (h ++ ((record { call = c; answer = cells_answer l c }) ∷ [])) (cells_after l c)
reached_made C h l c r = reached_more C h l (cells_after l c) c (cells_answer l c) r (call_follows l c)

-- a list of calls more
pub reached_all : {V : Type 0} (C : ℕ) (h : List (Event V)) (l : Layout V) (cs : List (Call V)) → Reached C h l
    → Reached C (h ++ paired cs (cells_answers l cs)) (cells_after_all l cs)
reached_all C h l [] r = subst (λ g. Reached C g l) (sym (append_nil h)) r
  where
    append_nil : {A : Type 0} (xs : List A) → xs ++ [] ≡ xs
    append_nil [] = refl
    append_nil (x ∷ xs) = ap (λ ys. x ∷ ys) (append_nil xs)
reached_all {V} C h l (c ∷ cs) r =
    let e : Event V = record { call = c; answer = cells_answer l c } in
    subst (λ g. Reached C g (cells_after_all (cells_after l c) cs)) (append_assoc h (e ∷ []) (paired cs (cells_answers (cells_after l c) cs)))
    (reached_all C (h ++ (e ∷ [])) (cells_after l c) cs (reached_made C h l c r))

-- two tables that got the same calls
pub agree : {V : Type 0} (C : ℕ) (h h' : List (Event V)) (l l' : Layout V) → Reached C h l → Reached C h' l' → calls h ≡ calls h'
    → (answers h ≡ answers h') × ((c : Call V) → cells_answer l c ≡ cells_answer l' c)
agree C h h' l l' r r' e = (
  r.answered ∙ ap (answers_to (fresh C)) e ∙ sym r'.answered,
  λ c.
      let t = after_all (fresh C) (calls h') in
      let m : Means l t = subst (λ cs. Means l (after_all (fresh C) cs)) e r.means in
      (call_follows l c t m).0 ∙ sym (call_follows l' c t r'.means).0,
)

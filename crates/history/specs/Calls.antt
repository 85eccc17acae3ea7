-- Calls given as values, made on the table by its meaning.
use Rattle.std.specs.Prelude.{cond, List, [], ◌∷◌, is_ok, Ok, Result, ◌==◌}
use Rattle.std.specs.Result.{result_map_both}
use Rattle.refusal.specs.declared.Refusal.{Refusal}
use Rattle.model.specs.Checks.{insert_cells, insert_at_cells, inserted_at, remove_cells, get_cells, contains_cells, head_cells, step_cells, when_given}
use Rattle.model.specs.Layouts.{Layout, capacity, filled, overwritten, emptied}
use Rattle.model.specs.Tables.{Table, insert_answer, insert_after, insert_at_answer, insert_at_after, get_answer, remove_after, replace_after, contains_answer, len_answer, step_answer}
use Rattle.history.specs.declared.calls.Call.{Call}
use Rattle.history.specs.declared.calls.Call.TheVariants.{Insert, InsertAt, Remove, Replace, Get, Contains, NextFreeKey, Len, Capacity, IsEmpty, IsFull, Step}
use Rattle.history.specs.declared.calls.Answer.{Answer}
use Rattle.history.specs.declared.calls.Answer.TheVariants.{Done, Key, Value, Pair, Flag, Number}

-- what a call gave, as an answer, where it was not refused
abbrev pub answer_of : {V A : Type 0} → (A → Answer V) → Result A Refusal → Result (Answer V) Refusal
answer_of f r = result_map_both f (λ e. e) r

-- what the table answers to a call
abbrev pub answer_to : {V : Type 0} → Table V → Call V → Result (Answer V) Refusal
answer_to t (Insert v) = Ok (Key (insert_answer t))
answer_to t (InsertAt k v) = answer_of (λ _. Done) (insert_at_answer t k)
answer_to t (Remove k) = answer_of Value (get_answer t k)
answer_to t (Replace k v) = answer_of Value (get_answer t k)
answer_to t (Get k) = answer_of Value (get_answer t k)
answer_to t (Contains k) = answer_of Flag (contains_answer t k)
answer_to t NextFreeKey = Ok (Key (insert_answer t))
answer_to t Len = Ok (Number (len_answer t))
answer_to t Capacity = Ok (Number t.capacity)
answer_to t IsEmpty = Ok (Flag (len_answer t == 0))
answer_to t IsFull = Ok (Flag (len_answer t == t.capacity))
answer_to t (Step p) = Ok (Pair (step_answer t p))

-- and what it is afterwards: only these four calls change it
abbrev pub after : {V : Type 0} → Table V → Call V → Table V
after t (Insert v) = insert_after t v
after t (InsertAt k v) = insert_at_after t k v
after t (Remove k) = remove_after t k
after t (Replace k v) = replace_after t k v
after t (Get k) = t
after t (Contains k) = t
after t NextFreeKey = t
after t Len = t
after t Capacity = t
after t IsEmpty = t
after t IsFull = t
after t (Step p) = t

-- a list of calls: their answers, and the table afterwards
abbrev pub answers_to : {V : Type 0} → Table V → List (Call V) → List (Result (Answer V) Refusal)
answers_to t [] = []
answers_to t (c ∷ cs) = answer_to t c ∷ answers_to (after t c) cs

abbrev pub after_all : {V : Type 0} → Table V → List (Call V) → Table V
after_all t [] = t
after_all t (c ∷ cs) = after_all (after t c) cs

-- the same by the cells of a table, whatever those are
abbrev pub cells_answer : {V : Type 0} → Layout V → Call V → Result (Answer V) Refusal
cells_answer l (Insert v) = answer_of Key (insert_cells l)
cells_answer l (InsertAt k v) = answer_of (λ _. Done) (insert_at_cells l k)
cells_answer l (Remove k) = answer_of Value (remove_cells l k)
cells_answer l (Replace k v) = answer_of Value (get_cells l k)
cells_answer l (Get k) = answer_of Value (get_cells l k)
cells_answer l (Contains k) = answer_of Flag (contains_cells l k)
cells_answer l NextFreeKey = Ok (Key (head_cells l))
cells_answer l Len = Ok (Number l.len)
cells_answer l Capacity = Ok (Number (capacity l))
cells_answer l IsEmpty = Ok (Flag (l.len == 0))
cells_answer l IsFull = Ok (Flag (l.len == capacity l))
cells_answer l (Step p) = Ok (Pair (step_cells l p))

abbrev pub cells_after : {V : Type 0} → Layout V → Call V → Layout V
cells_after l (Insert v) = when_given (insert_cells l) (filled l l.head v) l
cells_after l (InsertAt k v) = cond (is_ok (insert_at_cells l k)) (inserted_at l k v) l
cells_after l (Remove k) = when_given (remove_cells l k) (emptied l k) l
cells_after l (Replace k v) = when_given (get_cells l k) (overwritten l k v) l
cells_after l (Get k) = l
cells_after l (Contains k) = l
cells_after l NextFreeKey = l
cells_after l Len = l
cells_after l Capacity = l
cells_after l IsEmpty = l
cells_after l IsFull = l
cells_after l (Step p) = l

abbrev pub cells_answers : {V : Type 0} → Layout V → List (Call V) → List (Result (Answer V) Refusal)
cells_answers l [] = []
cells_answers l (c ∷ cs) = cells_answer l c ∷ cells_answers (cells_after l c) cs

abbrev pub cells_after_all : {V : Type 0} → Layout V → List (Call V) → Layout V
cells_after_all l [] = l
cells_after_all l (c ∷ cs) = cells_after_all (cells_after l c) cs

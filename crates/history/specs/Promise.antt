-- What is promised of a table after a history of calls.
use Rattle.std.specs.Prelude.{◌≡◌, ℕ, ◌<◌, ◌≢◌, List, [], ◌∷◌, ◌++◌, map, Some, Ok, Result}
use Rattle.std.specs.List.{slice_get}
use Rattle.refusal.specs.declared.Refusal.{Refusal}
use Rattle.model.specs.Checks.{get_cells}
use Rattle.model.specs.Layouts.{Layout, capacity, nil, slot_at}
use Rattle.model.specs.Sound.{Means, Stands}
use Rattle.model.specs.Tables.{fresh}
use Rattle.history.specs.declared.calls.Call.{Call}
use Rattle.history.specs.declared.calls.Call.TheVariants.{Insert}
use Rattle.history.specs.declared.calls.Answer.{Answer}
use Rattle.history.specs.Calls.{answers_to, after_all}
use Rattle.history.specs.Histories.{Event, Holds, LastWrote, HandsOut}

abbrev pub calls : {V : Type 0} → List (Event V) → List (Call V)
calls h = map (λ e. e.call) h

abbrev pub answers : {V : Type 0} → List (Event V) → List (Result (Answer V) Refusal)
answers h = map (λ e. e.answer) h

-- calls with their answers
abbrev pub paired : {V : Type 0} → List (Call V) → List (Result (Answer V) Refusal) → List (Event V)
paired [] xs = []
paired (c ∷ cs) [] = []
paired (c ∷ cs) (a ∷ xs) = record { call = c; answer = a } ∷ paired cs xs

-- A table of C keys that was fresh at first has the cells and registers l after the history h.
pub record Reached {V : Type 0} (C : ℕ) (h : List (Event V)) (l : Layout V) : Type 0 where
  pub size : capacity l ≡ C
  -- answers: each call has answered as the table by its meaning does when given the same calls
  pub answered : answers h ≡ answers_to (fresh C) (calls h)
  -- structure: the cells stand the audit, and mean that table after these calls
  pub stands : Stands l
  pub means : Means l (after_all (fresh C) (calls h))
  -- a key holds by the calls and their answers exactly when its index cell is not nil
  pub holding : (k : ℕ) → k < C → Holds k h → slot_at l.index k ≢ nil
  pub held : (k : ℕ) → k < C → slot_at l.index k ≢ nil → Holds k h
  -- values: a holding key was written, and what was written last is in the cell at its slot and is what get answers
  pub wrote : (k : ℕ) → k < C → Holds k h → (v : V) × LastWrote k v h
  pub values : (k : ℕ) (v : V) → k < C → Holds k h → LastWrote k v h → (slice_get l.values (slot_at l.index k) ≡ Some v) × (get_cells l k ≡ Ok (Some v))
  -- keys: each insert in the list, against the calls before it
  pub keys : (before later : List (Event V)) (e : Event V) (v : V) → h ≡ before ++ (e ∷ later) → e.call ≡ Insert v → HandsOut C before e.answer

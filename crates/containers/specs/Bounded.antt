-- A list that has space for so many elements: what vector and queue mean.
use Rattle.std.specs.Prelude.{◌≡◌, ℕ, ◌-◌, cond, List, [], ◌∷◌, ◌++◌, length, drop, None, Ok, Err, Option, Result, ◌==◌, nat_lt}
use Rattle.std.specs.List.{slice_get}
use Rattle.refusal.specs.declared.Refusal.{Refusal}
use Rattle.refusal.specs.declared.Refusal.TheVariants.{NoSpace, NoCell}

-- A call on a container in the state s answered r and left the state s': its answer and its contents
-- afterwards come from the contents before, and the row still has a cell for each place. `contents` and
-- `Backed` are the container's own.
pub record Means {S T A : Type 0} (contents : S → List T) (Backed : S → Type 0) (s : S) (r : A) (s' : S) (answer : List T → A) (after : List T → List T) : Type 0 where
  pub value : r ≡ answer (contents s)
  pub holds : contents s' ≡ after (contents s)
  pub backed : Backed s'

-- whether there is space for one element more, and the list with it
abbrev pub append_answer : {T : Type 0} → ℕ → List T → Result (Unit {0}) Refusal
append_answer c xs = cond (nat_lt (length xs) c) (Ok tt) (Err NoSpace)

abbrev pub appended : {T : Type 0} → ℕ → T → List T → List T
appended c v xs = cond (nat_lt (length xs) c) (xs ++ (v ∷ [])) xs

-- the element that has to go for another, where there is no space beside it
abbrev pub displaced : {T : Type 0} → ℕ → List T → Result (Option T) Refusal
displaced c xs = cond (c == 0) (Err NoCell) (Ok (cond (nat_lt (length xs) c) None (slice_get xs 0)))

-- the last n elements
abbrev pub latest : {T : Type 0} → ℕ → List T → List T
latest n xs = drop (length xs - n) xs

-- A vector by its registers and the cells of its row, and what its calls answer and change.
use Rattle.std.specs.Prelude.{ℕ, ◌-◌, ◌≤◌, cond, List, length, take, Some, None, Ok, Err, Option, Result, ◌==◌, nat_lt}
use Rattle.std.specs.Result.{result_map_both}
use Rattle.refusal.specs.declared.Refusal.{Refusal}
use Rattle.refusal.specs.declared.Refusal.TheVariants.{PlacePastLength, NoSpace}
use Rattle.rows.specs.Cells.{read_at, write_at}
use Rattle.containers.specs.Values.{VecValue}

-- the registers of a vector, and all cells of its row
pub record VecState (T : Type 0) : Type 0 where
  pub capacity : ℕ
  pub len : ℕ
  pub cells : List T

-- the state of a vector over a row whose cells are known
abbrev pub vector : {R T : Type 0} → (R → List T) → VecValue R → VecState T
vector cells v = record { capacity = v.extent.capacity; len = v.extent.len; cells = cells v.row }

-- every place of the capacity is a cell of the row
abbrev pub Backed : {T : Type 0} → VecState T → Type 0
Backed v = v.capacity ≤ length v.cells

-- what the vector holds
abbrev pub contents : {T : Type 0} → VecState T → List T
contents v = take v.len v.cells

-- another length and other cells
abbrev pub with : {T : Type 0} → VecState T → ℕ → List T → VecState T
with v n xs = record { capacity = v.capacity; len = n; cells = xs }

-- What a call answers and changes by its cells, whatever those are. A row that refuses all the same is
-- passed on as it is: no such place.

-- a push writes behind the last element, unless the vector is full
abbrev pub push_answer : {T : Type 0} → VecState T → Result (Unit {0}) Refusal
push_answer v = cond (nat_lt v.len v.capacity) (write_at v.cells v.len) (Err NoSpace)

-- a pop reads the last element, if there is one
abbrev pub pop_answer : {T : Type 0} → VecState T → Result (Option T) Refusal
pop_answer v = cond (v.len == 0) (Ok None) (result_map_both Some (λ e. e) (read_at v.cells (v.len - 1)))

-- an element below the length is read, and written
abbrev pub read_answer : {T : Type 0} → VecState T → ℕ → Result T Refusal
read_answer v place = cond (nat_lt place v.len) (read_at v.cells place) (Err PlacePastLength)

abbrev pub write_answer : {T : Type 0} → VecState T → ℕ → Result (Unit {0}) Refusal
write_answer v place = cond (nat_lt place v.len) (write_at v.cells place) (Err PlacePastLength)

-- A queue by its registers and the cells of its row, and what its calls answer and change.
use Rattle.std.specs.Prelude.{ℕ, ◌+◌, ◌-◌, ◌%◌, ◌≤◌, cond, List, length, Some, None, Ok, Err, Option, Result, ◌==◌, nat_lt, slice_set}
use Rattle.std.specs.List.{slice_get, range_with_len, flat_map}
use Rattle.std.specs.Result as results
use Rattle.std.specs.Option.{option_to_list}
use Rattle.refusal.specs.declared.Refusal.{Refusal}
use Rattle.refusal.specs.declared.Refusal.TheVariants.{PlacePastLength, NoSpace, NoCell}
use Rattle.rows.specs.Cells.{read_at, write_at}
use Rattle.containers.specs.Values.{QueueValue}

-- the registers of a queue, and all cells of its row
pub record QueueState (T : Type 0) : Type 0 where
  pub capacity : ℕ
  pub start : ℕ
  pub len : ℕ
  pub cells : List T

-- the state of a queue over a row whose cells are known
abbrev pub queue : {R T : Type 0} → (R → List T) → QueueValue R → QueueState T
queue cells q =
    record {
      capacity = q.position.capacity;
      start = q.position.start;
      len = q.position.len;
      cells = cells q.row;
    }

-- every place of the ring is a cell of the row
abbrev pub Backed : {T : Type 0} → QueueState T → Type 0
Backed q = q.capacity ≤ length q.cells

-- the place of element i from the oldest
abbrev pub place_of : {T : Type 0} → QueueState T → ℕ → ℕ
place_of q i = (q.start + q.capacity - q.len + i) % q.capacity

-- what the queue holds, from the oldest
abbrev pub contents : {T : Type 0} → QueueState T → List T
contents q = flat_map (λ i. option_to_list (slice_get q.cells (place_of q i))) (range_with_len 0 q.len)

-- nothing is held yet
abbrev pub empty : {T : Type 0} → ℕ → List T → QueueState T
empty c xs = record { capacity = c; start = 0; len = 0; cells = xs }

-- one element more: it is written at start, and start moves on round the ring
abbrev pub pushed : {T : Type 0} → QueueState T → T → QueueState T
pushed q v =
    record {
      capacity = q.capacity;
      start = (q.start + 1) % q.capacity;
      len = q.len + 1;
      cells = slice_set q.cells q.start v;
    }

-- the oldest element is gone; no cell changes
abbrev pub popped : {T : Type 0} → QueueState T → QueueState T
popped q = record { capacity = q.capacity; start = q.start; len = q.len - 1; cells = q.cells }

-- no element is left; no cell changes
abbrev pub cleared : {T : Type 0} → QueueState T → QueueState T
cleared q = record { capacity = q.capacity; start = q.start; len = 0; cells = q.cells }

-- What a call answers and changes by its cells, whatever those are. A row that refuses all the same is
-- passed on as it is: no such place.

-- a push writes at start, unless the queue is full
abbrev pub push_answer : {T : Type 0} → QueueState T → Result (Unit {0}) Refusal
push_answer q = cond (nat_lt q.len q.capacity) (write_at q.cells q.start) (Err NoSpace)

-- a pop and a peek read the oldest element, if there is one
abbrev pub oldest_answer : {T : Type 0} → QueueState T → Result (Option T) Refusal
oldest_answer q = cond (q.len == 0) (Ok None) (results.result_map_both Some (λ e. e) (read_at q.cells (place_of q 0)))

-- a push with overflow reads the oldest element, which lies at start, if the queue is full
abbrev pub overflow_answer : {T : Type 0} → QueueState T → Result (Option T) Refusal
overflow_answer q =
    cond (q.capacity == 0) (Err NoCell)
    (cond (nat_lt q.len q.capacity)
    (results.result_map_both (λ _. None) (λ e. e) (write_at q.cells q.start))
    (results.result_map_both Some (λ e. e) (read_at q.cells q.start)))

-- then the oldest is gone where the queue was full, and the new one is there
abbrev pub overflowed : {T : Type 0} → QueueState T → T → QueueState T
overflowed q v = cond (nat_lt q.len q.capacity) (pushed q v) (pushed (popped q) v)

-- an element below the length is read at its place
abbrev pub get_answer : {T : Type 0} → QueueState T → ℕ → Result T Refusal
get_answer q i = cond (nat_lt i q.len) (read_at q.cells (place_of q i)) (Err PlacePastLength)

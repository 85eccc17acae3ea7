-- The cells of a fresh table.
use Rattle.std.specs.Prelude.{ℕ, zero, suc, ◌+◌, ◌-◌, ◌%◌, min, cond, List, length, Ok, Err, Result, ◌==◌, nat_lt, slice_set}
use Rattle.rows.specs.declared.cell.FreeListEntry.{FreeListEntry}
use Rattle.refusal.specs.declared.Refusal.{Refusal}
use Rattle.refusal.specs.declared.Refusal.TheVariants.{PlanTooLarge}
use Rattle.containers.specs.Queues.{QueueState}
use Rattle.model.specs.Layouts.{Layout, nil}

-- the list with f k written at each place k below n
abbrev pub written : {X : Type 0} → (ℕ → X) → ℕ → List X → List X
written f zero xs = xs
written f (suc n) xs = slice_set (written f n xs) n (f n)

-- key k of C fresh keys, or nil past the last; the key before it, or nil
abbrev pub key_of : ℕ → ℕ → ℕ
key_of C k = cond (nat_lt k C) k nil

abbrev pub key_before : ℕ → ℕ
key_before k = cond (k == 0) nil (k - 1)

-- the neighbours of a key in the fresh free list
abbrev pub fresh_link : ℕ → ℕ → FreeListEntry
fresh_link C k = record { previous = key_before k; next = key_of C (k + 1) }

-- the capacity of a table: what is asked for, at most 65,535 and at most the cells of each row
abbrev pub least : ℕ → ℕ → ℕ → ℕ → ℕ → ℕ
least asked a b c d = min (min (min (min (min asked 65535) a) b) c) d

-- the capacity of a table over rows with these cells
abbrev pub size_over : {V : Type 0} → ℕ → List ℕ → List FreeListEntry → List V → List ℕ → ℕ
size_over asked xs ls vs qs = least asked (length xs) (length ls) (length vs) (length qs)

-- the rows as they are given, before a table of C keys is made over them
abbrev pub bare : {V : Type 0} → ℕ → List ℕ → List FreeListEntry → List V → List ℕ → Layout V
bare C xs ls vs qs =
    record {
      head = nil;
      len = 0;
      index = xs;
      links = ls;
      values = vs;
      slots = record { capacity = C; start = 0; len = 0; cells = qs };
    }

-- no key has a slot, the keys stand in the free list in order, and all slots wait in order; no value is written
abbrev pub fresh_layout : {V : Type 0} → ℕ → List ℕ → List FreeListEntry → List V → List ℕ → Layout V
fresh_layout C xs ls vs qs =
    record {
      head = key_of C 0;
      len = 0;
      index = written (λ _. nil) C xs;
      links = written (fresh_link C) C ls;
      values = vs;
      slots = record { capacity = C; start = 0; len = C; cells = written (λ k. k) C qs };
    }

-- a queue of C places to which the slots below i were pushed in order
abbrev pub slots_to : ℕ → ℕ → List ℕ → QueueState ℕ
slots_to C i cells = record { capacity = C; start = i % C; len = i; cells = written (λ k. k) i cells }

-- whether a plan fits rows of these counts: it asks for no more than 65,535 keys, nor for more than a row has cells
abbrev pub plan_answer : ℕ → ℕ → ℕ → ℕ → ℕ → Result (Unit {0}) Refusal
plan_answer asked a b c d = cond (asked == least asked a b c d) (Ok tt) (Err PlanTooLarge)

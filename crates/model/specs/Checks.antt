-- What is asked of the cells before the first of them is written. A sound table passes every check; cells
-- that do not are refused as cells that fail the audit, and nothing changes.
use Rattle.std.specs.Prelude.{ℕ, ◌-◌, Bool, true, false, cond, List, length, is_some, is_ok, Some, None, Ok, Err, Option, Result, ◌==◌, nat_lt}
use Rattle.std.specs.List.{slice_get, range_with_len}
use Rattle.std.specs.Option.{ok_or}
use Rattle.std.specs.Result.{result_and, result_map_both, result_unwrap_or}
use Rattle.refusal.specs.declared.Refusal.{Refusal}
use Rattle.refusal.specs.declared.Refusal.TheVariants.{KeyPastTable, AuditFailed}
use Rattle.rows.specs.declared.cell.FreeListEntry.{FreeListEntry}
use Rattle.containers.specs.Queues.{QueueState, place_of, push_answer}
use Rattle.model.specs.Layouts.{Layout, capacity, nil, filled, rewritten}
use Rattle.model.specs.Tables.{first_held}

-- the value where there is one, and then what follows from it
abbrev pub then : {A B : Type 0} → Result A Refusal → (A → Result B Refusal) → Result B Refusal
then (Ok x) f = f x
then (Err e) f = Err e

-- a test that a sound table passes
abbrev pub passes : Bool → Result (Unit {0}) Refusal
passes b = cond b (Ok tt) (Err AuditFailed)

-- whether there is a value, and no more of it
abbrev pub seen : {A : Type 0} → Result A Refusal → Result (Unit {0}) Refusal
seen (Ok x) = Ok tt
seen (Err e) = Err e

-- a number below the bound
abbrev pub bounded : ℕ → ℕ → Result ℕ Refusal
bounded C n = cond (nat_lt n C) (Ok n) (Err AuditFailed)

-- the index cell of a key, which is nil or a slot
abbrev pub index_of : {V : Type 0} → Layout V → ℕ → Result (Option ℕ) Refusal
index_of l k =
    then (ok_or (slice_get l.index k) AuditFailed) (λ s.
    cond (s == nil) (Ok None) (result_map_both Some (λ e. e) (bounded (capacity l) s)))

-- the slot of a key, if the key holds
abbrev pub slot_of : {V : Type 0} → Layout V → ℕ → Result (Option ℕ) Refusal
slot_of l k = cond (nat_lt k (capacity l)) (index_of l k) (Err KeyPastTable)

-- the link of a key of the table
abbrev pub link_of : List FreeListEntry → ℕ → ℕ → Result FreeListEntry Refusal
link_of ls C k = then (bounded C k) (λ n. ok_or (slice_get ls n) AuditFailed)

-- a neighbour is nil, or a key of the table
abbrev pub neighbour : List FreeListEntry → ℕ → ℕ → Result (Unit {0}) Refusal
neighbour ls C k = cond (k == nil) (Ok tt) (seen (link_of ls C k))

-- the link of a key that can leave the free list: its neighbours can be linked to each other
abbrev pub claimable : List FreeListEntry → ℕ → ℕ → Result FreeListEntry Refusal
claimable ls C k = then (link_of ls C k) (λ e. result_and (neighbour ls C e.previous) (result_and (neighbour ls C e.next) (Ok e)))

-- the slot that waits longest
abbrev pub waiting : QueueState ℕ → Result ℕ Refusal
waiting q = cond (q.len == 0) (Err AuditFailed) (then (ok_or (slice_get q.cells (place_of q 0)) AuditFailed) (bounded q.capacity))

-- a key whose index cell is nil
abbrev pub vacant_only : Option ℕ → Result (Unit {0}) Refusal
vacant_only None = Ok tt
vacant_only (Some s) = Err AuditFailed

-- not every key holds
abbrev pub room : {V : Type 0} → Layout V → Result (Unit {0}) Refusal
room l = passes (nat_lt l.len (capacity l))

-- there is a cell for the value of slot s
abbrev pub storable : {V : Type 0} → List V → ℕ → Result (Unit {0}) Refusal
storable vs s = passes (nat_lt s (length vs))

-- the link of a vacant key that can be filled, but for its slot
abbrev pub fillable : {V : Type 0} → Layout V → ℕ → Result FreeListEntry Refusal
fillable l k = result_and (then (index_of l k) vacant_only) (result_and (room l) (claimable l.links (capacity l) k))

-- whether a value can be stored: not every key holds, and the slot that waits longest has a cell for it
abbrev pub store_answer : {V : Type 0} → Layout V → Result (Unit {0}) Refusal
store_answer l = result_and (room l) (then (waiting l.slots) (storable l.values))

-- whether a vacant key can be filled
abbrev pub fill_answer : {V : Type 0} → Layout V → ℕ → Result (Unit {0}) Refusal
fill_answer l k = result_and (fillable l k) (then (waiting l.slots) (storable l.values))

-- the value of a slot
abbrev pub value_of : {V : Type 0} → Layout V → ℕ → Result V Refusal
value_of l s = ok_or (slice_get l.values s) AuditFailed

-- whether a holding key can be emptied: a key is held, its slot can wait, and it can stand first in the free list
abbrev pub vacate_answer : {V : Type 0} → Layout V → ℕ → Result (Unit {0}) Refusal
vacate_answer l k =
    result_and (passes (nat_lt 0 l.len))
    (result_and (seen (link_of l.links (capacity l) k))
    (result_and (neighbour l.links (capacity l) l.head) (passes (is_ok (push_answer l.slots)))))

-- What the calls answer by the cells, whatever those are.
abbrev pub insert_cells : {V : Type 0} → Layout V → Result (Option ℕ) Refusal
insert_cells l = cond (l.head == nil) (Ok None) (result_map_both (λ _. Some l.head) (λ e. e) (fill_answer l l.head))

-- get: the value of the key's slot, if it has one
abbrev pub of_slot : {V : Type 0} → Layout V → Option ℕ → Result (Option V) Refusal
of_slot l None = Ok None
of_slot l (Some s) = result_map_both Some (λ e. e) (value_of l s)

abbrev pub get_cells : {V : Type 0} → Layout V → ℕ → Result (Option V) Refusal
get_cells l k = then (slot_of l k) (of_slot l)

-- contains: whether the key has a slot
abbrev pub contains_cells : {V : Type 0} → Layout V → ℕ → Result Bool Refusal
contains_cells l k = result_map_both is_some (λ e. e) (slot_of l k)

-- next_free_key: the head, if there is one
abbrev pub head_cells : {V : Type 0} → Layout V → Option ℕ
head_cells l = cond (l.head == nil) None (Some l.head)

-- a step of a cursor at place p: the first key at or after p of which get answers a value
abbrev pub step_cells : {V : Type 0} → Layout V → ℕ → Option (ℕ × V)
step_cells l p = first_held (λ k. result_unwrap_or (get_cells l k) None) (range_with_len p (capacity l - p))

-- insert_at: a vacant key can be filled, or the value of a holding key can be stored
abbrev pub at_slot : {V : Type 0} → Layout V → ℕ → Option ℕ → Result (Unit {0}) Refusal
at_slot l k None = fill_answer l k
at_slot l k (Some s) = storable l.values s

abbrev pub insert_at_cells : {V : Type 0} → Layout V → ℕ → Result (Unit {0}) Refusal
insert_at_cells l k = then (slot_of l k) (at_slot l k)

-- the cells afterwards, if the call was made: the value of the key's slot is written over, or the key is filled
abbrev pub stored_at : {V : Type 0} → Layout V → ℕ → V → Result (Option ℕ) Refusal → Layout V
stored_at l k v (Ok None) = filled l k v
stored_at l k v (Ok (Some s)) = rewritten l s v
stored_at l k v (Err e) = l

abbrev pub inserted_at : {V : Type 0} → Layout V → ℕ → V → Layout V
inserted_at l k v = stored_at l k v (slot_of l k)

-- remove: the value of the key's slot, if it has one and can be emptied
abbrev pub from_slot : {V : Type 0} → Layout V → ℕ → Option ℕ → Result (Option V) Refusal
from_slot l k None = Ok None
from_slot l k (Some s) = then (value_of l s) (λ v. result_and (vacate_answer l k) (Ok (Some v)))

abbrev pub remove_cells : {V : Type 0} → Layout V → ℕ → Result (Option V) Refusal
remove_cells l k = then (slot_of l k) (from_slot l k)

-- whether something was answered
abbrev pub gave : {A : Type 0} → Result (Option A) Refusal → Bool
gave (Ok (Some x)) = true
gave (Ok None) = false
gave (Err e) = false

-- the cells afterwards: m where something was answered, and l as before otherwise
abbrev pub when_given : {V A : Type 0} → Result (Option A) Refusal → Layout V → Layout V → Layout V
when_given (Ok (Some x)) m l = m
when_given (Ok None) m l = l
when_given (Err e) m l = l

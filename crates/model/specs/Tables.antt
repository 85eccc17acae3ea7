-- The table by its meaning: a capacity, a value or nothing for each key, and the free list, a list of keys.
use Rattle.std.specs.Prelude.{ℕ, ◌+◌, ◌-◌, Bool, cond, List, [], ◌∷◌, is_some, Some, None, Ok, Err, Option, Result, nat_eq, nat_lt}
use Rattle.std.specs.List.{slice_get, range_with_len}
use Rattle.std.specs.Map.{update}
use Rattle.std.specs.Option.{option_map, option_or}
use Rattle.refusal.specs.declared.Refusal.{Refusal}
use Rattle.refusal.specs.declared.Refusal.TheVariants.{KeyPastTable}
use Rattle.model.specs.Counts.{sum_to, without}

pub record Table (V : Type 0) : Type 0 where
  pub capacity : ℕ
  pub held : ℕ → Option V
  pub free : List ℕ

-- all keys are vacant, and stand in the free list in order
abbrev pub fresh : {V : Type 0} → ℕ → Table V
fresh C = record { capacity = C; held = λ k. None; free = range_with_len 0 C }

-- key k gets v, and the free list is ks
abbrev pub stored : {V : Type 0} → Table V → ℕ → V → List ℕ → Table V
stored t k v ks = record { capacity = t.capacity; held = update nat_eq t.held k (Some v); free = ks }

-- key k is emptied, and stands first in the free list
abbrev pub freed : {V : Type 0} → Table V → ℕ → Table V
freed t k = record { capacity = t.capacity; held = update nat_eq t.held k None; free = k ∷ t.free }

-- a key at or past the capacity is refused, and changes nothing
abbrev pub below : {V A : Type 0} → Table V → ℕ → A → A → A
below t k known past = cond (nat_lt k t.capacity) known past

-- insert: takes the free list's first key, stores and answers it; on an empty list, none
abbrev pub insert_answer : {V : Type 0} → Table V → Option ℕ
insert_answer t = slice_get t.free 0

abbrev pub stored_first : {V : Type 0} → Table V → V → List ℕ → Table V
stored_first t v [] = t
stored_first t v (k ∷ ks) = stored t k v ks

abbrev pub insert_after : {V : Type 0} → Table V → V → Table V
insert_after t v = stored_first t v t.free

-- get, and the answer of remove: what the key holds
abbrev pub get_answer : {V : Type 0} → Table V → ℕ → Result (Option V) Refusal
get_answer t k = below t k (Ok (t.held k)) (Err KeyPastTable)

-- remove: a holding key is emptied and put at the free list's front
abbrev pub freed_if : {V : Type 0} → Table V → ℕ → Option V → Table V
freed_if t k None = t
freed_if t k (Some _) = freed t k

abbrev pub remove_after : {V : Type 0} → Table V → ℕ → Table V
remove_after t k = below t k (freed_if t k (t.held k)) t

-- insert_at: the key gets the value, and stands in the free list no longer, if it did
abbrev pub insert_at_answer : {V : Type 0} → Table V → ℕ → Result (Unit {0}) Refusal
insert_at_answer t k = below t k (Ok tt) (Err KeyPastTable)

abbrev pub insert_at_after : {V : Type 0} → Table V → ℕ → V → Table V
insert_at_after t k v = below t k (stored t k v (without k t.free)) t

-- replace: a holding key gets another value, and the answer is what it held, as with get
abbrev pub stored_if : {V : Type 0} → Table V → ℕ → V → Option V → Table V
stored_if t k v None = t
stored_if t k v (Some _) = stored t k v t.free

abbrev pub replace_after : {V : Type 0} → Table V → ℕ → V → Table V
replace_after t k v = below t k (stored_if t k v (t.held k)) t

-- contains: whether the key holds something
abbrev pub contains_answer : {V : Type 0} → Table V → ℕ → Result Bool Refusal
contains_answer t k = below t k (Ok (is_some (t.held k))) (Err KeyPastTable)

-- len: how many keys hold something
abbrev pub len_answer : {V : Type 0} → Table V → ℕ
len_answer t = sum_to (λ k. cond (is_some (t.held k)) 1 0) t.capacity

-- the first of the keys that holds something, with what it holds
abbrev pub first_held : {V : Type 0} → (ℕ → Option V) → List ℕ → Option (ℕ × V)
first_held held [] = None
first_held held (k ∷ ks) = option_or (option_map (λ v. (k, v)) (held k)) (first_held held ks)

-- a step of a cursor at place p: the first holding key at or after p, with what it holds
abbrev pub step_answer : {V : Type 0} → Table V → ℕ → Option (ℕ × V)
step_answer t p = first_held t.held (range_with_len p (t.capacity - p))

-- where the cursor stands then: past that key, or where it stood
abbrev pub step_after : {V : Type 0} → ℕ → Option (ℕ × V) → ℕ
step_after p None = p
step_after p (Some pair) = pair.0 + 1

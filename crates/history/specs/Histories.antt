-- A history of a table: its calls with their answers, oldest first; and what they tell of its keys, without a
-- look at its cells.
use Rattle.std.specs.Prelude.{◌≡◌, ℕ, ◌<◌, ◌⊎◌, List, ◌∷◌, ◌++◌, Some, None, Ok, Result}
use Rattle.std.specs.List.{AllByRecursion}
use Rattle.refusal.specs.declared.Refusal.{Refusal}
use Rattle.history.specs.declared.calls.Call.{Call}
use Rattle.history.specs.declared.calls.Call.TheVariants.{Insert, InsertAt, Remove, Replace}
use Rattle.history.specs.declared.calls.Answer.{Answer}
use Rattle.history.specs.declared.calls.Answer.TheVariants.{Done, Key, Value}

-- a call and its answer
pub record Event (V : Type 0) : Type 0 where
  pub call : Call V
  pub answer : Result (Answer V) Refusal

-- an accepted insert or insert_at of v at key k
abbrev pub Fills : {V : Type 0} → ℕ → V → Event V → Type 0
Fills k v e = ((e.call ≡ Insert v) × (e.answer ≡ Ok (Key (Some k)))) ⊎ ((e.call ≡ InsertAt k v) × (e.answer ≡ Ok Done))

abbrev pub Filled : {V : Type 0} → ℕ → Event V → Type 0
Filled {V} k e = (v : V) × Fills k v e

-- an accepted insert, insert_at or replace of v at key k
abbrev pub Writes : {V : Type 0} → ℕ → V → Event V → Type 0
Writes {V} k v e = Fills k v e ⊎ ((old : V) × (e.call ≡ Replace k v) × (e.answer ≡ Ok (Value (Some old))))

abbrev pub Written : {V : Type 0} → ℕ → Event V → Type 0
Written {V} k e = (v : V) × Writes k v e

-- an accepted remove of key k
abbrev pub Empties : {V : Type 0} → ℕ → Event V → Type 0
Empties {V} k e = (old : V) × (e.call ≡ Remove k) × (e.answer ≡ Ok (Value (Some old)))

-- an event that changes nothing: it is no accepted insert, insert_at, replace or remove, at any key
abbrev pub Idle : {V : Type 0} → Event V → Type 0
Idle e = (k : ℕ) → (Written k e → ⊥) × (Empties k e → ⊥)

-- none of the events is such a one
abbrev pub Never : {V : Type 0} → (Event V → Type 0) → List (Event V) → Type 0
Never P h = AllByRecursion (λ e. P e → ⊥) h

-- one event is such a P, and no Q comes after it
abbrev pub Since : {V : Type 0} → (Event V → Type 0) → (Event V → Type 0) → List (Event V) → Type 0
Since {V} P Q h = (before : List (Event V)) × (e : Event V) × (later : List (Event V)) × (h ≡ before ++ (e ∷ later)) × P e × Never Q later

-- key k holds a value: no accepted remove of it follows the last accepted insert or insert_at at it
abbrev pub Holds : {V : Type 0} → ℕ → List (Event V) → Type 0
Holds k h = Since (Filled k) (λ e. Filled k e ⊎ Empties k e) h

abbrev pub Vacant : {V : Type 0} → ℕ → List (Event V) → Type 0
Vacant k h = Holds k h → ⊥

-- v is what the last accepted insert, insert_at or replace at key k wrote
abbrev pub LastWrote : {V : Type 0} → ℕ → V → List (Event V) → Type 0
LastWrote k v h = Since (Writes k v) (Written k) h

-- of a vacant key k: it was emptied latest of the vacant keys below C, since after an accepted remove of k there is
-- none of a key that is vacant
abbrev pub EmptiedLatest : {V : Type 0} → ℕ → ℕ → List (Event V) → Type 0
EmptiedLatest C k h = Since (Empties k) (λ e. (j : ℕ) × (j < C) × Vacant j h × Empties j e) h

-- every key below C holds a value
abbrev pub AllHold : {V : Type 0} → ℕ → List (Event V) → Type 0
AllHold C h = (k : ℕ) → k < C → Holds k h

-- of a vacant key k: it is the smallest, and no vacant key below C was ever emptied
abbrev pub SmallestUnused : {V : Type 0} → ℕ → ℕ → List (Event V) → Type 0
SmallestUnused C k h = ((j : ℕ) → j < C → Vacant j h → Never (Empties j) h) × ((j : ℕ) → j < k → Holds j h)

-- The answer a of an insert after the history h, on a table of C keys: none exactly when every key holds a
-- value; otherwise the vacant key that was emptied latest, or the smallest vacant key where no vacant one was
-- ever emptied.
pub record HandsOut {V : Type 0} (C : ℕ) (h : List (Event V)) (a : Result (Answer V) Refusal) : Type 0 where
  pub none : a ≡ Ok (Key None) → AllHold C h
  pub full : AllHold C h → a ≡ Ok (Key None)
  pub some : (AllHold C h → ⊥) → (k : ℕ) × (a ≡ Ok (Key (Some k))) × (k < C) × Vacant k h × (EmptiedLatest C k h ⊎ SmallestUnused C k h)

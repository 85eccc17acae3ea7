-- What an event did, by its call and its answer.
use Rattle.std.proofs.Common.{◌≡◌, ℕ, ◌≢◌, Some, None, Ok, Option, Result, sym, ap, ◌∙◌, inl, inr, arith}
use Rattle.refusal.specs.declared.Refusal.{Refusal}
use Rattle.history.specs.declared.calls.Call.{Call}
use Rattle.history.specs.declared.calls.Call.TheVariants.{Insert, InsertAt, Remove, Replace, Get, Contains, NextFreeKey, Len, Capacity, IsEmpty, IsFull, Step}
use Rattle.history.specs.declared.calls.Answer.{Answer}
use Rattle.history.specs.declared.calls.Answer.TheVariants.{Done, Key, Value}
use Rattle.history.specs.Histories.{Event, Fills, Filled, Writes, Written, Empties}

pub data Deed (V : Type 0) : Type 0 where
  nothing : Deed V
  fill : ℕ → V → Deed V
  write : ℕ → V → Deed V
  empty : ℕ → Deed V

-- the deed that an answer grants: one at the key that it has; one that was done; one that gave a value back
abbrev key_deed : {V : Type 0} → (ℕ → Deed V) → Result (Answer V) Refusal → Deed V
key_deed f (Ok (Key (Some k))) = f k
key_deed f _ = nothing

abbrev done_deed : {V : Type 0} → Deed V → Result (Answer V) Refusal → Deed V
done_deed d (Ok Done) = d
done_deed d _ = nothing

abbrev value_deed : {V : Type 0} → Deed V → Result (Answer V) Refusal → Deed V
value_deed d (Ok (Value (Some v))) = d
value_deed d _ = nothing

abbrev pub deed_of : {V : Type 0} → Call V → Result (Answer V) Refusal → Deed V
deed_of (Insert v) a = key_deed (λ k. fill k v) a
deed_of (InsertAt k v) a = done_deed (fill k v) a
deed_of (Remove k) a = value_deed (empty k) a
deed_of (Replace k v) a = value_deed (write k v) a
deed_of (Get k) a = nothing
deed_of (Contains k) a = nothing
deed_of NextFreeKey a = nothing
deed_of Len a = nothing
deed_of Capacity a = nothing
deed_of IsEmpty a = nothing
deed_of IsFull a = nothing
deed_of (Step p) a = nothing

abbrev pub deed : {V : Type 0} → Event V → Deed V
deed e = deed_of e.call e.answer

abbrev pub Replaces : {V : Type 0} → ℕ → V → Event V → Type 0
Replaces {V} k v e = (old : V) × (e.call ≡ Replace k v) × (e.answer ≡ Ok (Value (Some old)))

deed_is : {V : Type 0} (e : Event V) (c : Call V) (a : Result (Answer V) Refusal) → e.call ≡ c → e.answer ≡ a → deed e ≡ deed_of c a
deed_is e c a p q = ap (λ x. deed_of x e.answer) p ∙ ap (deed_of c) q

pub fills_deed : {V : Type 0} (k : ℕ) (v : V) (e : Event V) → Fills k v e → deed e ≡ fill k v
fills_deed k v e (inl c) = deed_is e (Insert v) (Ok (Key (Some k))) c.0 c.1
fills_deed k v e (inr c) = deed_is e (InsertAt k v) (Ok Done) c.0 c.1

pub replaces_deed : {V : Type 0} (k : ℕ) (v : V) (e : Event V) → Replaces k v e → deed e ≡ write k v
replaces_deed k v e c = deed_is e (Replace k v) (Ok (Value (Some c.0))) c.1 c.2

pub empties_deed : {V : Type 0} (k : ℕ) (e : Event V) → Empties k e → deed e ≡ empty k
empties_deed k e c = deed_is e (Remove k) (Ok (Value (Some c.0))) c.1 c.2

-- the key at which a deed wrote, filled or emptied, and what it wrote
abbrev pub wrote_at : {V : Type 0} → Deed V → Option ℕ
wrote_at nothing = None
wrote_at (fill k v) = Some k
wrote_at (write k v) = Some k
wrote_at (empty k) = None

abbrev pub filled_at : {V : Type 0} → Deed V → Option ℕ
filled_at nothing = None
filled_at (fill k v) = Some k
filled_at (write k v) = None
filled_at (empty k) = None

abbrev pub emptied_at : {V : Type 0} → Deed V → Option ℕ
emptied_at nothing = None
emptied_at (fill k v) = None
emptied_at (write k v) = None
emptied_at (empty k) = Some k

abbrev wrote_what : {V : Type 0} → Deed V → Option V
wrote_what nothing = None
wrote_what (fill k v) = Some v
wrote_what (write k v) = Some v
wrote_what (empty k) = None

pub no_key : (j : ℕ) → None ≡ Some j → ⊥
no_key j p = let z : ◌≡◌ {A = ℕ} 0 1 = cc in omega arith

pub other_key : (j k : ℕ) → j ≢ k → Some k ≡ Some j → ⊥
other_key j k ne p = let q : j ≡ k = cc in ne q

module _ {V : Type 0} (e : Event V) where
  writes_at : (j : ℕ) (v : V) → Writes j v e → (wrote_at (deed e) ≡ Some j) × (wrote_what (deed e) ≡ Some v)
  writes_at j v (inl f) = let d = fills_deed j v e f in (ap wrote_at d, ap wrote_what d)
  writes_at j v (inr r) = let d = replaces_deed j v e r in (ap wrote_at d, ap wrote_what d)

  -- an event that did d did nothing that d did not
  pub not_written : (d : Deed V) → deed e ≡ d → (j : ℕ) → (wrote_at d ≡ Some j → ⊥) → Written j e → ⊥
  not_written d is j apart w = apart (sym (ap wrote_at is) ∙ (writes_at j w.0 w.1).0)

  pub not_filled : (d : Deed V) → deed e ≡ d → (j : ℕ) → (filled_at d ≡ Some j → ⊥) → Filled j e → ⊥
  not_filled d is j apart f = apart (sym (ap filled_at is) ∙ ap filled_at (fills_deed j f.0 e f.1))

  pub not_emptied : (d : Deed V) → deed e ≡ d → (j : ℕ) → (emptied_at d ≡ Some j → ⊥) → Empties j e → ⊥
  not_emptied d is j apart m = apart (sym (ap emptied_at is) ∙ ap emptied_at (empties_deed j e m))

  pub writes_one : (k : ℕ) (v w : V) → Writes k v e → Writes k w e → v ≡ w
  writes_one k v w p q = let a = (writes_at k v p).1 in let b = (writes_at k w q).1 in cc

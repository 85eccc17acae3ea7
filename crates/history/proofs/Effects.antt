-- What a call does to the table.
use Rattle.std.proofs.Common.{◌≡◌, ℕ, ◌<◌, ◌≤◌, ltb, List, [], ◌∷◌, Some, None, Ok, Err, Option, Result, sym, refl, ap, ◌∙◌, subst, inl, inr, ⊎_elim, arith}
use Rattle.std.proofs.lemmas.Bool.{cases_lt, lt-ltb, le-ltb, cond-true, cond-false, cond_both}
use Rattle.std.specs.List.{slice_get}
use Rattle.refusal.specs.declared.Refusal.{Refusal}
use Rattle.refusal.specs.declared.Refusal.TheVariants.{KeyPastTable}
use Rattle.model.specs.Counts.{count, without}
use Rattle.model.specs.Tables.{Table, stored, stored_first, stored_if, freed, freed_if, below}
use Rattle.model.proofs.Sums.{same_yes, without_first}
use Rattle.history.specs.declared.calls.Call.{Call}
use Rattle.history.specs.declared.calls.Call.TheVariants.{Insert, InsertAt, Remove, Replace, Get, Contains, NextFreeKey, Len, Capacity, IsEmpty, IsFull, Step}
use Rattle.history.specs.declared.calls.Answer.{Answer}
use Rattle.history.specs.declared.calls.Answer.TheVariants.{Done, Key, Value}
use Rattle.history.specs.Calls.{answer_to, after, answer_of}
use Rattle.history.specs.Histories.{Event, Fills, Empties}
use Rattle.history.proofs.Deeds.{nothing, deed, deed_of, Replaces}

-- What the event e did to the table t, which is t' afterwards.
pub data Effect {V : Type 0} (t : Table V) (e : Event V) (t' : Table V) : Type 0 where
  quiet : deed e ≡ nothing → t' ≡ t → Effect t e t'
  filling : (k : ℕ) (v : V) → k < t.capacity → Fills k v e → t' ≡ stored t k v (without k t.free) → Effect t e t'
  replacing : (k : ℕ) (v w : V) → Replaces k v e → t.held k ≡ Some w → t' ≡ stored t k v t.free → Effect t e t'
  emptying : (k : ℕ) (w : V) → Empties k e → t.held k ≡ Some w → t' ≡ freed t k → Effect t e t'

abbrev event_of : {V : Type 0} → Table V → Call V → Event V
event_of t c = record { call = c; answer = answer_to t c }

-- effects by the answer that a call got
answered : {V : Type 0} (t t' u : Table V) (c : Call V) (a : Result (Answer V) Refusal) → answer_to t c ≡ a → t' ≡ u → Effect t (record { call = c; answer = a }) u → Effect t (event_of t c) t'
answered t t' u c a p q f = subst (λ x. Effect t (record { call = c; answer = x }) t') (sym p) (subst (Effect t (record { call = c; answer = a })) (sym q) f)

below_through : {V A B : Type 0} (f : A → B) (t : Table V) (k : ℕ) (x y : A) → f (below t k x y) ≡ below t k (f x) (f y)
below_through f t k x y =
    cond_both (ltb k t.capacity) x y (λ z. f z ≡ below t k (f x) (f y)) (λ e. sym (cond-true _ _ _ e)) (λ e. sym (cond-false _ _ _ e))

-- a call at a key, which is refused past the table
below_effect : {V : Type 0} (t : Table V) (c : Call V) (k : ℕ) (a r : Result (Answer V) Refusal) (u : Table V)
    → answer_to t c ≡ below t k a r → after t c ≡ below t k u t → deed_of c r ≡ nothing
    → (k < t.capacity → Effect t (record { call = c; answer = a }) u) → Effect t (event_of t c) (after t c)
below_effect t c k a r u p q refused known =
    ⊎_elim
    (λ (b : k < t.capacity).
    let inside = lt-ltb k t.capacity b in
    answered t (after t c) u c a (p ∙ cond-true _ _ _ inside) (q ∙ cond-true _ _ _ inside) (known b))
    (λ (b : t.capacity ≤ k).
    let past = le-ltb k t.capacity b in
    answered t (after t c) t c r (p ∙ cond-false _ _ _ past) (q ∙ cond-false _ _ _ past) (quiet refused refl))
    (cases_lt k t.capacity)

remove_effect : {V : Type 0} (t : Table V) (k : ℕ) (o : Option V) → t.held k ≡ o → Effect t (record { call = Remove k; answer = Ok (Value o) }) (freed_if t k o)
remove_effect t k None p = quiet refl refl
remove_effect t k (Some w) p = emptying k w (w, refl, refl) p refl

replace_effect : {V : Type 0} (t : Table V) (k : ℕ) (v : V) (o : Option V) → t.held k ≡ o
    → Effect t (record { call = Replace k v; answer = Ok (Value o) }) (stored_if t k v o)
replace_effect t k v None p = quiet refl refl
replace_effect t k v (Some w) p = replacing k v w (w, refl, refl) p refl

module _ {V : Type 0} (t : Table V) (listed : (k : ℕ) → 0 < count k t.free → k < t.capacity) where
  insert_effect : (v : V) (ks : List ℕ) → t.free ≡ ks → Effect t (event_of t (Insert v)) (after t (Insert v))
  insert_effect v [] p = answered t (after t (Insert v)) t (Insert v) (Ok (Key None)) (ap (λ ks. Ok (Key (slice_get ks 0))) p) (ap (stored_first t v) p) (quiet refl refl)
  insert_effect v (k ∷ ks) p =
      answered t (after t (Insert v)) (stored t k v ks) (Insert v) (Ok (Key (Some k))) (ap (λ ks. Ok (Key (slice_get ks 0))) p) (ap (stored_first t v) p)
      (filling k v (listed k (omega (arith, ap (count k) p, same_yes k k refl))) (inl (refl, refl))
      (ap (stored t k v) (sym (ap (without k) p ∙ without_first k ks))))

  effect : (c : Call V) → Effect t (event_of t c) (after t c)
  effect (Insert v) = insert_effect v t.free refl
  effect (InsertAt k v) =
      below_effect t (InsertAt k v) k (Ok Done) (Err KeyPastTable) (stored t k v (without k t.free)) (below_through (answer_of (λ _. Done)) t k (Ok tt) (Err KeyPastTable)) refl refl
      (λ b. filling k v b (inr (refl, refl)) refl)
  effect (Remove k) =
      below_effect t (Remove k) k (Ok (Value (t.held k))) (Err KeyPastTable) (freed_if t k (t.held k)) (below_through (answer_of Value) t k (Ok (t.held k)) (Err KeyPastTable)) refl refl
      (λ b. remove_effect t k (t.held k) refl)
  effect (Replace k v) =
      below_effect t (Replace k v) k (Ok (Value (t.held k))) (Err KeyPastTable) (stored_if t k v (t.held k)) (below_through (answer_of Value) t k (Ok (t.held k)) (Err KeyPastTable)) refl refl
      (λ b. replace_effect t k v (t.held k) refl)
  effect (Get k) = quiet refl refl
  effect (Contains k) = quiet refl refl
  effect NextFreeKey = quiet refl refl
  effect Len = quiet refl refl
  effect Capacity = quiet refl refl
  effect IsEmpty = quiet refl refl
  effect IsFull = quiet refl refl
  effect (Step p) = quiet refl refl

  -- an event that answered as the table does
  pub event_effect : (e : Event V) → e.answer ≡ answer_to t e.call → Effect t e (after t e.call)
  event_effect e p = subst (λ a. Effect t (record { call = e.call; answer = a }) (after t e.call)) (sym p) (effect e.call)

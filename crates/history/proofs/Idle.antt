-- A call that changes nothing gave nothing, or was refused.
use Rattle.std.proofs.Common.{◌≡◌, ℕ, false, is_ok, Some, None, Ok, Option, Result, ap, inl, inr}
use Rattle.refusal.specs.declared.Refusal.{Refusal}
use Rattle.model.specs.Checks.{gave}
use Rattle.history.specs.declared.calls.Call.{Call}
use Rattle.history.specs.declared.calls.Call.TheVariants.{Insert, InsertAt, Remove, Replace}
use Rattle.history.specs.declared.calls.Answer.{Answer}
use Rattle.history.specs.declared.calls.Answer.TheVariants.{Done, Key, Value}
use Rattle.history.specs.Histories.{Event, Idle}

abbrev event : {V : Type 0} → Call V → Answer V → Event V
event c a = record { call = c; answer = Ok a }

pub idle_insert : {V : Type 0} (c : Call V) (a : Answer V) (v : V) (k : Option ℕ) (r : Result (Option ℕ) Refusal) → c ≡ Insert v → r ≡ Ok k → a ≡ Key k → Idle (event c a) → gave r ≡ false
idle_insert c a v (Some k) r p q e idle = absurd ((idle k).0 (v, inl (inl (p, ap Ok e))))
idle_insert c a v None r p q e idle = ap gave q

pub idle_insert_at : {V : Type 0} (c : Call V) (a : Answer V) (k : ℕ) (v : V) (r : Result (Unit {0}) Refusal) → c ≡ InsertAt k v → a ≡ Done → Idle (event c a) → is_ok r ≡ false
idle_insert_at c a k v r p e idle = absurd ((idle k).0 (v, inl (inr (p, ap Ok e))))

pub idle_replace : {V : Type 0} (c : Call V) (a : Answer V) (k : ℕ) (v : V) (o : Option V) (r : Result (Option V) Refusal) → c ≡ Replace k v → r ≡ Ok o → a ≡ Value o → Idle (event c a) → gave r ≡ false
idle_replace c a k v (Some x) r p q e idle = absurd ((idle k).0 (v, inr (x, p, ap Ok e)))
idle_replace c a k v None r p q e idle = ap gave q

pub idle_remove : {V : Type 0} (c : Call V) (a : Answer V) (k : ℕ) (o : Option V) (r : Result (Option V) Refusal) → c ≡ Remove k → r ≡ Ok o → a ≡ Value o → Idle (event c a) → gave r ≡ false
idle_remove c a k (Some x) r p q e idle = absurd ((idle k).1 (x, p, ap Ok e))
idle_remove c a k None r p q e idle = ap gave q

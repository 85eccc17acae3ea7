-- What one call hands on to the next.
use Rattle.std.proofs.Common.{◌≡◌, Bool, true, false, MatchBool, subst}

-- a fact of what two rows held is one of what they hold
pub moved : {A B : Type 0} (P : A → B → Type 0) {a a' : A} {b b' : B} → a' ≡ a → b' ≡ b → P a' b' → P a b
moved P {a} {a'} {b} {b'} ea eb p = subst (λ y. P a y) eb (subst (λ x. P x b') ea p)

-- an answer of one thing, as an answer of another
pub when_like : {P Q R S : Type 0} (b : Bool) → (P → R) → (Q → S) → MatchBool b P Q → MatchBool b R S
when_like true f g h = f h
when_like false f g h = g h

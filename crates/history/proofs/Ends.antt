-- Lists by their last element.
use Rattle.std.proofs.Common.{◌≡◌, ℕ, ◌⊎◌, List, [], ◌∷◌, ◌++◌, sym, subst, inl, inr, ⊎_elim, arith}
use Rattle.std.specs.List.{AllByRecursion}
use Rattle.std.proofs.lemmas.List.{append-nil, append_assoc}

more_ends : {A : Type 0} (M : List A → Type 0) → ((h : List A) (e : A) → M h → M (h ++ e ∷ [])) → (g h : List A) → M g → M (g ++ h)
more_ends M more g [] m = subst M (sym (append-nil g)) m
more_ends M more g (e ∷ h) m = subst M (append_assoc g (e ∷ []) h) (more_ends M more (g ++ e ∷ []) h (more g e m))

-- what holds of the empty list, and of a list with one more element where it holds of the list
pub by_ends : {A : Type 0} (M : List A → Type 0) → M [] → ((h : List A) (e : A) → M h → M (h ++ e ∷ [])) → (h : List A) → M h
by_ends M none more h = more_ends M more [] h none

pub not_empty : {A : Type 0} (b : List A) (x : A) (l : List A) → [] ≡ b ++ x ∷ l → ⊥
not_empty [] x l p = let z : ◌≡◌ {A = ℕ} 0 1 = cc in omega arith
not_empty (y ∷ b) x l p = let z : ◌≡◌ {A = ℕ} 0 1 = cc in omega arith

-- an element of a list that ends with e is e, or stands before it
pub end_split : {A : Type 0} (h : List A) (e : A) (b : List A) (x : A) (l : List A) → h ++ e ∷ [] ≡ b ++ x ∷ l
    → ((x ≡ e) × (l ≡ [])) ⊎ ((r : List A) × (l ≡ r ++ e ∷ []) × (h ≡ b ++ x ∷ r))
end_split [] e [] x l p = let q : x ≡ e = cc in let r : l ≡ [] = cc in inl (q, r)
end_split [] e (y ∷ b) x l p = let q : [] ≡ b ++ x ∷ l = cc in absurd (not_empty b x l q)
end_split (y ∷ h) e [] x l p = let q : l ≡ h ++ e ∷ [] = cc in let r : y ∷ h ≡ x ∷ h = cc in inr (h, q, r)
end_split {A} (y ∷ h) e (z ∷ b) x l p =
    let q : h ++ e ∷ [] ≡ b ++ x ∷ l = cc in
    let same : y ≡ z = cc in
    ⊎_elim
    (λ (c : (x ≡ e) × (l ≡ [])). inl c)
    (λ (c : (r : List A) × (l ≡ r ++ e ∷ []) × (h ≡ b ++ x ∷ r)). let s : y ∷ h ≡ z ∷ (b ++ x ∷ c.0) = cc in inr (c.0, c.1, s))
    (end_split h e b x l q)

-- what holds of all holds of one of them, and of the first of them
pub all_at : {A : Type 0} (P : A → Type 0) (b : List A) (x : A) (l : List A) → AllByRecursion P (b ++ x ∷ l) → P x
all_at P [] x l a = a.0
all_at P (y ∷ b) x l a = all_at P b x l a.1

pub all_front : {A : Type 0} (P : A → Type 0) (b l : List A) → AllByRecursion P (b ++ l) → AllByRecursion P b
all_front P [] l a = tt
all_front P (y ∷ b) l a = (a.0, all_front P b l a.1)

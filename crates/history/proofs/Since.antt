-- Since and Never, of a history with one more event.
use Rattle.std.proofs.Common.{◌≡◌, ◌⊎◌, List, [], ◌∷◌, ◌++◌, refl, ap, ◌∙◌, subst, inl, inr, ⊎_elim}
use Rattle.std.proofs.lemmas.List.{append_assoc}
use Rattle.std.proofs.ByRecursion.{All-push, All-weaker}
use Rattle.history.specs.Histories.{Event, Never, Since}
use Rattle.history.proofs.Ends.{by_ends, not_empty, end_split, all_at, all_front}

module _ {V : Type 0} (P Q : Event V → Type 0) where
  pub since_none : Since P Q [] → ⊥
  since_none s = not_empty s.0 s.1 s.2 s.3

  pub since_now : (h : List (Event V)) (e : Event V) → P e → Since P Q (h ++ e ∷ [])
  since_now h e p = (h, e, [], refl, p, tt)

  pub since_on : (h : List (Event V)) (e : Event V) → (Q e → ⊥) → Since P Q h → Since P Q (h ++ e ∷ [])
  since_on h e no-q s = (
    s.0,
    s.1,
    s.2 ++ e ∷ [],
    ap (λ g. g ++ e ∷ []) s.3 ∙ append_assoc s.0 (s.1 ∷ s.2) (e ∷ []),
    s.4,
    All-push (λ x. Q x → ⊥) s.2 e s.5 no-q,
  )

  -- the last event is such a P, or it held before
  pub since_back : (h : List (Event V)) (e : Event V) → Since P Q (h ++ e ∷ []) → P e ⊎ (Since P Q h × (Q e → ⊥))
  since_back h e s =
      ⊎_elim
      (λ (c : (s.1 ≡ e) × (s.2 ≡ [])). inl (subst P c.0 s.4))
      (λ (c : (r : List (Event V)) × (s.2 ≡ r ++ e ∷ []) × (h ≡ s.0 ++ s.1 ∷ r)).
      let never : Never Q (c.0 ++ e ∷ []) = subst (Never Q) c.1 s.5 in
      inr ((s.0, s.1, c.0, c.2, s.4, all_front (λ x. Q x → ⊥) c.0 (e ∷ []) never), all_at (λ x. Q x → ⊥) c.0 e [] never))
      (end_split h e s.0 s.1 s.2 s.3)

  pub since_never : (h : List (Event V)) → Since P Q h → Never P h → ⊥
  since_never h s never = all_at (λ x. P x → ⊥) s.0 s.1 s.2 (subst (Never P) s.3 never) s.4

  pub since_weaker : (R : Event V → Type 0) → ((e : Event V) → R e → Q e) → (h : List (Event V)) → Since P Q h → Since P R h
  since_weaker R weak h s = (s.0, s.1, s.2, s.3, s.4, All-weaker (λ x. Q x → ⊥) (λ x. R x → ⊥) (λ x never r. never (weak x r)) s.2 s.5)

-- an event after which there is no Q, and one after which there is no R: the later one
pub since_join : {V : Type 0} (P Q R : Event V → Type 0) (h : List (Event V)) → Since P Q h → Since P R h → Since P (λ e. Q e ⊎ R e) h
since_join {V} P Q R =
    by_ends (λ h. Since P Q h → Since P R h → Since P (λ e. Q e ⊎ R e) h)
    (λ s r. absurd (since_none P Q s))
    (λ h e ih s r.
    ⊎_elim
    (λ (p : P e). since_now P (λ x. Q x ⊎ R x) h e p)
    (λ (a : Since P Q h × (Q e → ⊥)).
    ⊎_elim
    (λ (p : P e). since_now P (λ x. Q x ⊎ R x) h e p)
    (λ (b : Since P R h × (R e → ⊥)). since_on P (λ x. Q x ⊎ R x) h e (⊎_elim a.1 b.1) (ih a.0 b.0))
    (since_back P R h e r))
    (since_back P Q h e s))

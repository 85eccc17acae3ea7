-- The lines of a script come to one session.
use Rattle.std.proofs.Common.{◌≡◌, ℕ, List, [], ◌∷◌, ◌++◌, Some, sym, refl, ap, ◌∙◌, subst, ⊎_elim}
use Rattle.history.specs.Calls.{answers_to}
use Rattle.history.specs.Histories.{Event}
use Rattle.history.specs.Promise.{calls, answers}
use Rattle.model.specs.Tables.{fresh}
use Rattle.scanner.specs.Commands.{command_of}
use Rattle.scanner.specs.declared.command.Command.TheVariants.{Make}
use Rattle.script.specs.Sessions.{Session, Makes, NoneMakes, calls_in, SinceMade, IsSession}

-- no accepted m is among lines of which none is one
none_among : (ls : List (List ℕ)) (line : List ℕ) (rest : List (List ℕ)) (C : ℕ) → NoneMakes (ls ++ (line ∷ rest)) → Makes line C → ⊥
none_among [] line rest C none made = none.0 C made
none_among (l ∷ ls) line rest C none made = none_among ls line rest C none.1 made

-- a list has one last accepted m
one_last : (ls ms : List (List ℕ)) (line mine : List ℕ) (rest more : List (List ℕ)) (C D : ℕ) → ls ++ (line ∷ rest) ≡ ms ++ (mine ∷ more)
    → NoneMakes rest → NoneMakes more → Makes line C → Makes mine D → (line ≡ mine) × (rest ≡ more)
one_last [] [] line mine rest more C D e none other made makes = (cc, cc)
one_last [] (m ∷ ms) line mine rest more C D e none other made makes =
    let among : rest ≡ ms ++ (mine ∷ more) = cc in absurd (none_among ms mine more D (subst NoneMakes among none) makes)
one_last (l ∷ ls) [] line mine rest more C D e none other made makes =
    let among : more ≡ ls ++ (line ∷ rest) = cc in absurd (none_among ls line rest C (subst NoneMakes among other) made)
one_last (l ∷ ls) (m ∷ ms) line mine rest more C D e none other made makes =
    let e' : ls ++ (line ∷ rest) ≡ ms ++ (mine ∷ more) = cc in one_last ls ms line mine rest more C D e' none other made makes

one_since : (ls : List (List ℕ)) (C D : ℕ) (rest more : List (List ℕ)) → SinceMade ls C rest → SinceMade ls D more → (C ≡ D) × (rest ≡ more)
one_since ls C D rest more a b =
    ⊎_elim
    (λ (p : (rest ≡ ls) × (C ≡ 0)).
    ⊎_elim
    (λ (q : (more ≡ ls) × (D ≡ 0)). (p.1 ∙ sym q.1, p.0 ∙ sym q.0))
    (λ (q : (earlier : List (List ℕ)) × (line : List ℕ) × (ls ≡ earlier ++ (line ∷ more)) × Makes line D).
    absurd (none_among q.0 q.1 more D (subst NoneMakes (p.0 ∙ q.2) a.0) q.3))
    b.1)
    (λ (p : (earlier : List (List ℕ)) × (line : List ℕ) × (ls ≡ earlier ++ (line ∷ rest)) × Makes line C).
    ⊎_elim
    (λ (q : (more ≡ ls) × (D ≡ 0)). absurd (none_among p.0 p.1 rest C (subst NoneMakes (q.0 ∙ p.2) b.0) p.3))
    (λ (q : (earlier : List (List ℕ)) × (line : List ℕ) × (ls ≡ earlier ++ (line ∷ more)) × Makes line D).
    let one = one_last p.0 q.0 p.1 q.1 rest more C D (sym p.2 ∙ q.2) a.0 b.0 p.3 q.3 in
    let same : Some (Make C) ≡ Some (Make D) = sym p.3.0 ∙ ap command_of one.0 ∙ q.3.0 in
    (cc, one.1))
    b.1)
    a.1

-- events are their calls and answers
one_history : (h g : List (Event ℕ)) → calls h ≡ calls g → answers h ≡ answers g → h ≡ g
one_history [] [] c a = refl
one_history [] (e ∷ g) c a = cc
one_history (e ∷ h) [] c a = cc
one_history (e ∷ h) (f ∷ g) c a =
    let same : e.call ≡ f.call = cc in
    let said : e.answer ≡ f.answer = cc in
    let more : calls h ≡ calls g = cc in
    let rest : answers h ≡ answers g = cc in
    ap (λ x. record { call = x; answer = e.answer } ∷ h) same
    ∙ ap (λ x. record { call = f.call; answer = x } ∷ h) said
    ∙ ap (λ x. f ∷ x) (one_history h g more rest)

pub one_session : (ls : List (List ℕ)) (s t : Session) → IsSession ls s → IsSession ls t → s ≡ t
one_session ls s t a b =
    let one = one_since ls s.capacity t.capacity a.rest b.rest a.since b.since in
    let asked : calls s.history ≡ calls t.history = a.called ∙ ap calls_in one.1 ∙ sym b.called in
    let said : answers s.history ≡ answers t.history
    = a.answered ∙ ap (λ C. answers_to (fresh C) (calls s.history)) one.0 ∙ ap (answers_to (fresh t.capacity)) asked ∙ sym b.answered in
    ap (λ C. record { capacity = C; history = s.history }) one.0
    ∙ ap (λ h. record { capacity = t.capacity; history = h }) (one_history s.history t.history asked said)

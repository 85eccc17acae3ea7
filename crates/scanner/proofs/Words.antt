-- The words of a line that goes on.
use Rattle.std.proofs.Common.{◌≡◌, ℕ, ◌<◌, true, false, cond, eqb, List, [], ◌∷◌, ◌++◌, length, sym, refl, ap, ◌∙◌, arith}
use Rattle.std.proofs.lemmas.List.{append-nil, length-append}
use Rattle.std.proofs.lemmas.Bool.{and_parts, leb-true, ne_eqb, cond-false}
use Rattle.std.specs.Char.{is_ascii_digit}
use Rattle.std.specs.Str.{all_ascii_digits}
use Rattle.text.specs.Lines.{onto}
use Rattle.scanner.specs.Commands.{words}

-- words that go on with others: the first of the others goes onto the last of these
abbrev pub extend : List ℕ → List (List ℕ) → List (List ℕ)
extend w [] = w ∷ []
extend w (v ∷ vs) = (w ++ v) ∷ vs

abbrev pub glue : List (List ℕ) → List (List ℕ) → List (List ℕ)
glue [] vs = vs
glue (w ∷ []) vs = extend w vs
glue (w ∷ (x ∷ ws)) vs = w ∷ glue (x ∷ ws) vs

-- a line has a word
onto_some : (b : ℕ) (ws : List (List ℕ)) → 0 < length (onto b ws)
onto_some b [] = omega arith
onto_some b (w ∷ ws) = omega arith

pub words_some : (p : List ℕ) → 0 < length (words p)
words_some [] = omega arith
words_some (b ∷ p) =
    elim (eqb b 32) as (λ t. 0 < length (cond t ([] ∷ words p) (onto b (words p)))) [ true ↦ omega arith | false ↦ onto_some b (words p) ]

extend_nil : (ws : List (List ℕ)) → 0 < length ws → ws ≡ extend [] ws
extend_nil [] some = absurd (omega arith)
extend_nil (w ∷ ws) some = refl

glue_cons : (w : List ℕ) (ws vs : List (List ℕ)) → 0 < length ws → w ∷ glue ws vs ≡ glue (w ∷ ws) vs
glue_cons w [] vs some = absurd (omega arith)
glue_cons w (x ∷ ws) vs some = refl

onto_extend : (b : ℕ) (w : List ℕ) (vs : List (List ℕ)) → onto b (extend w vs) ≡ extend (b ∷ w) vs
onto_extend b w [] = refl
onto_extend b w (v ∷ vs) = refl

onto_glue : (b : ℕ) (ws vs : List (List ℕ)) → 0 < length ws → onto b (glue ws vs) ≡ glue (onto b ws) vs
onto_glue b [] vs some = absurd (omega arith)
onto_glue b (w ∷ []) vs some = onto_extend b w vs
onto_glue b (w ∷ (x ∷ ws)) vs some = refl

-- the words of a line that goes on
pub words_on : (p q : List ℕ) → words (p ++ q) ≡ glue (words p) (words q)
words_on [] q = extend_nil (words q) (words_some q)
words_on (b ∷ p) q =
    elim (eqb b 32) as (λ t. cond t ([] ∷ words (p ++ q)) (onto b (words (p ++ q))) ≡ glue (cond t ([] ∷ words p) (onto b (words p))) (words q)) [
      | true ↦ ap (λ ws. [] ∷ ws) (words_on p q) ∙ glue_cons [] (words p) (words q) (words_some p)
      | false ↦ ap (onto b) (words_on p q) ∙ onto_glue b (words p) (words q) (words_some p)
    ]

-- a blank begins a new word
glue_blank : (ws vs : List (List ℕ)) → 0 < length ws → glue ws ([] ∷ vs) ≡ ws ++ vs
glue_blank [] vs some = absurd (omega arith)
glue_blank (w ∷ []) vs some = ap (λ u. u ∷ vs) (append-nil w)
glue_blank (w ∷ (x ∷ ws)) vs some = ap (λ us. w ∷ us) (glue_blank (x ∷ ws) vs (omega arith))

pub words_blank : (p q : List ℕ) → words (p ++ (32 ∷ q)) ≡ words p ++ words q
words_blank p q = words_on p (32 ∷ q) ∙ glue_blank (words p) (words q) (words_some p)

-- another byte goes onto the last word
glue_last : (ws : List (List ℕ)) (w v : List ℕ) → glue (ws ++ (w ∷ [])) (v ∷ []) ≡ ws ++ ((w ++ v) ∷ [])
glue_last [] w v = refl
glue_last (u ∷ ws) w v = sym (glue_cons u (ws ++ (w ∷ [])) (v ∷ []) (omega (arith, length-append ws (w ∷ [])))) ∙ ap (λ us. u ∷ us) (glue_last ws w v)

pub words_byte : (p : List ℕ) (b : ℕ) (ws : List (List ℕ)) (w : List ℕ) → (b ≡ 32 → ⊥) → words p ≡ ws ++ (w ∷ [])
    → words (p ++ (b ∷ [])) ≡ ws ++ ((w ++ (b ∷ [])) ∷ [])
words_byte p b ws w other e =
    words_on p (b ∷ [])
    ∙ ap (glue (words p)) (cond-false _ _ _ (ne_eqb b 32 other))
    ∙ ap (λ us. glue us ((b ∷ []) ∷ [])) e
    ∙ glue_last ws w (b ∷ [])

-- digits are one word
pub words_digits : (w : List ℕ) → all_ascii_digits w ≡ true → words w ≡ w ∷ []
words_digits [] e = refl
words_digits (c ∷ w) e =
    let both = and_parts (is_ascii_digit c) (all_ascii_digits w) e in
    let low = leb-true 48 c (and_parts _ _ both.0).0 in
    cond-false _ _ _ (ne_eqb c 32 (λ blank. omega arith)) ∙ ap (onto c) (words_digits w both.1)

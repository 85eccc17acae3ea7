-- Words that begin a legal line.
use Rattle.std.proofs.Common.{◌≡◌, ℕ, zero, suc, ◌+◌, ◌<◌, ◌≤◌, true, false, List, [], ◌∷◌, ◌++◌, map, length, Some, None, Option, sym, refl, ap, ◌∙◌, ⊎_elim, arith}
use Rattle.std.proofs.lemmas.List.{length-map}
use Rattle.std.proofs.lemmas.Bool.{false≢true, cases_Bool, and_parts, and_from, and_left, and_right, or_from, or_left, ne_eqb, cond-true, cond-false}
use Rattle.std.specs.Str.Parse.{digits_value}
use Rattle.text.specs.Numbers.{is_number}
use Rattle.scanner.specs.declared.command.Kind.{Kind}
use Rattle.scanner.specs.declared.command.Kind.TheVariants.{Make, Insert, InsertAt, Remove, Get, Replace, NextFreeKey, Len, List as Listing}
use Rattle.scanner.specs.declared.command.Command.{Command}
use Rattle.scanner.specs.Commands.{kind_of, plain, with_one, with_two, command, words, all_numbers, with_numbers, of_words, command_of}
use Rattle.scanner.specs.Legal.{takes, numbers_begin, kind_begins, words_begin}
use Rattle.scanner.proofs.Digits.{last_begin}
use Rattle.scanner.proofs.Words.{glue, words_some, words_on}

-- nothing is both a value and none
pub none_some : {A : Type 0} {x : A} → None ≡ Some x → ⊥
none_some e = let z : ◌≡◌ {A = ℕ} 0 1 = cc in omega arith

-- words that begin numbers still do without what follows
numbers_begin_holds : (n : ℕ) (ws : List (List ℕ)) (v : List ℕ) (vs : List (List ℕ)) → numbers_begin n (glue ws (v ∷ vs)) ≡ true → numbers_begin n ws ≡ true
numbers_begin_holds n [] v vs e = refl
numbers_begin_holds zero (w ∷ []) v vs e = e
numbers_begin_holds zero (w ∷ (x ∷ ws)) v vs e = e
numbers_begin_holds (suc n) (w ∷ []) v [] e = last_begin w v e
numbers_begin_holds (suc n) (w ∷ []) v (u ∷ us) e = last_begin w v (or_left (is_number (w ++ v)) _ (and_parts (is_number (w ++ v)) (numbers_begin n (u ∷ us)) e).0)
numbers_begin_holds (suc n) (w ∷ (x ∷ [])) v vs e =
    let both = and_parts (is_number w) (numbers_begin n ((x ++ v) ∷ vs)) e in and_from _ _ both.0 (numbers_begin_holds n (x ∷ []) v vs both.1)
numbers_begin_holds (suc n) (w ∷ (x ∷ (y ∷ ws))) v vs e =
    let both = and_parts (is_number w) (numbers_begin n (x ∷ glue (y ∷ ws) (v ∷ vs))) e in and_from _ _ both.0 (numbers_begin_holds n (x ∷ (y ∷ ws)) v vs both.1)

kind_begins_holds : (o : Option Kind) (ws : List (List ℕ)) (v : List ℕ) (vs : List (List ℕ)) → kind_begins o (glue ws (v ∷ vs)) ≡ true → kind_begins o ws ≡ true
kind_begins_holds None ws v vs e = e
kind_begins_holds (Some k) ws v vs e = numbers_begin_holds (takes k) ws v vs e

kind_alone : (o : Option Kind) (vs : List (List ℕ)) → kind_begins o vs ≡ true → kind_begins o [] ≡ true
kind_alone None vs e = e
kind_alone (Some k) vs e = refl

words_begin_holds : (ws : List (List ℕ)) (v : List ℕ) (vs : List (List ℕ)) → words_begin (glue ws (v ∷ vs)) ≡ true → words_begin ws ≡ true
words_begin_holds [] v vs e = refl
words_begin_holds ([] ∷ []) v vs e = refl
words_begin_holds ([] ∷ (w ∷ [])) v vs e = e
words_begin_holds ([] ∷ (w ∷ (x ∷ ws))) v vs e = e
words_begin_holds ((a ∷ []) ∷ []) [] vs e = kind_alone (kind_of a) vs e
words_begin_holds ((a ∷ []) ∷ []) (b ∷ v) vs e = absurd (false≢true e)
words_begin_holds ((a ∷ []) ∷ (w ∷ ws)) v vs e = kind_begins_holds (kind_of a) (w ∷ ws) v vs e
words_begin_holds ((a ∷ (b ∷ bs)) ∷ []) v vs e = e
words_begin_holds ((a ∷ (b ∷ bs)) ∷ (w ∷ ws)) v vs e = e

words_begin_some : (ws vs : List (List ℕ)) → 0 < length vs → words_begin (glue ws vs) ≡ true → words_begin ws ≡ true
words_begin_some ws [] some e = absurd (omega arith)
words_begin_some ws (v ∷ vs) some e = words_begin_holds ws v vs e

-- a beginning of what begins a legal line begins one
pub begins_less : (p q : List ℕ) → words_begin (words (p ++ q)) ≡ true → words_begin (words p) ≡ true
begins_less p q e = words_begin_some (words p) (words q) (words_some q) (sym (ap words_begin (words_on p q)) ∙ e)

-- numbers begin as many numbers, or more
pub numbers_full : (n : ℕ) (ws : List (List ℕ)) → all_numbers ws ≡ true → length ws ≤ n → numbers_begin n ws ≡ true
numbers_full n [] e few = refl
numbers_full zero (w ∷ ws) e few = absurd (omega arith)
numbers_full (suc n) (w ∷ []) e few = or_left _ _ (and_parts (is_number w) true e).0
numbers_full (suc n) (w ∷ (x ∷ ws)) e few =
    let both = and_parts (is_number w) (all_numbers (x ∷ ws)) e in and_from _ _ both.0 (numbers_full n (x ∷ ws) both.1 (omega arith))

-- a word may follow numbers that are fewer than are taken
pub numbers_open : (n : ℕ) (ws : List (List ℕ)) → all_numbers ws ≡ true → length ws < n → numbers_begin n (ws ++ ([] ∷ [])) ≡ true
numbers_open zero ws e few = absurd (omega arith)
numbers_open (suc n) [] e few = refl
numbers_open (suc n) (w ∷ []) e few = and_from _ _ (and_parts (is_number w) true e).0 (numbers_open n [] refl (omega arith))
numbers_open (suc n) (w ∷ (x ∷ ws)) e few =
    let both = and_parts (is_number w) (all_numbers (x ∷ ws)) e in and_from _ _ both.0 (numbers_open n (x ∷ ws) both.1 (omega arith))

-- more words than numbers are taken
pub numbers_many : (n : ℕ) (ws : List (List ℕ)) → n < length ws → numbers_begin n ws ≡ false
numbers_many n [] many = absurd (omega arith)
numbers_many zero (w ∷ ws) many = refl
numbers_many (suc n) (w ∷ []) many = absurd (omega arith)
numbers_many (suc n) (w ∷ (x ∷ ws)) many = and_right (is_number w) _ (numbers_many n (x ∷ ws) (omega arith))

-- a word that is no number, and is not the empty last one
pub numbers_other : (n : ℕ) (ws : List (List ℕ)) (w : List ℕ) (vs : List (List ℕ)) → is_number w ≡ false → 0 < length w + length vs → numbers_begin n (ws ++ (w ∷ vs)) ≡ false
numbers_other zero [] w vs other some = refl
numbers_other zero (u ∷ ws) w vs other some = refl
numbers_other (suc n) [] w [] other some = or_from _ _ other (ne_eqb (length w) 0 (λ none. omega arith))
numbers_other (suc n) [] w (v ∷ vs) other some = and_left _ _ other
numbers_other (suc n) (u ∷ []) w vs other some = and_right (is_number u) _ (numbers_other n [] w vs other some)
numbers_other (suc n) (u ∷ (x ∷ ws)) w vs other some = and_right (is_number u) _ (numbers_other n (x ∷ ws) w vs other some)

-- a command has as many numbers as its kind takes
plain_takes : (d : Command) (ns : List ℕ) (c : Command) → plain d ns ≡ Some c → length ns ≡ 0
plain_takes d [] c e = refl
plain_takes d (n ∷ ns) c e = absurd (none_some e)

one_takes : (f : ℕ → Command) (ns : List ℕ) (c : Command) → with_one f ns ≡ Some c → length ns ≡ 1
one_takes f [] c e = absurd (none_some e)
one_takes f (n ∷ []) c e = refl
one_takes f (n ∷ (m ∷ ns)) c e = absurd (none_some e)

two_takes : (f : ℕ → ℕ → Command) (ns : List ℕ) (c : Command) → with_two f ns ≡ Some c → length ns ≡ 2
two_takes f [] c e = absurd (none_some e)
two_takes f (n ∷ []) c e = absurd (none_some e)
two_takes f (n ∷ (m ∷ [])) c e = refl
two_takes f (n ∷ (m ∷ (l ∷ ns))) c e = absurd (none_some e)

pub command_takes : (k : Kind) (ns : List ℕ) (c : Command) → command k ns ≡ Some c → length ns ≡ takes k
command_takes Make ns c e = one_takes _ ns c e
command_takes Insert ns c e = one_takes _ ns c e
command_takes InsertAt ns c e = two_takes _ ns c e
command_takes Remove ns c e = one_takes _ ns c e
command_takes Get ns c e = one_takes _ ns c e
command_takes Replace ns c e = two_takes _ ns c e
command_takes NextFreeKey ns c e = plain_takes _ ns c e
command_takes Len ns c e = plain_takes _ ns c e
command_takes Listing ns c e = plain_takes _ ns c e

-- the words of a command are numbers, as many as its kind takes
pub with_numbers_holds : (k : Kind) (ws : List (List ℕ)) (c : Command) → with_numbers (Some k) ws ≡ Some c → (all_numbers ws ≡ true) × (length ws ≡ takes k)
with_numbers_holds k ws c e =
    ⊎_elim
    (λ (all : all_numbers ws ≡ true). (
      all,
      sym (length-map ws (digits_value 10)) ∙ command_takes k (map (digits_value 10) ws) c (sym (cond-true _ _ _ all) ∙ e),
    ))
    (λ (other : all_numbers ws ≡ false). absurd (none_some (sym (cond-false _ _ _ other) ∙ e)))
    (cases_Bool (all_numbers ws))

-- a legal line begins one
kind_legal : (o : Option Kind) (ws : List (List ℕ)) (c : Command) → with_numbers o ws ≡ Some c → kind_begins o ws ≡ true
kind_legal None ws c e = absurd (none_some e)
kind_legal (Some k) ws c e = let both = with_numbers_holds k ws c e in numbers_full (takes k) ws both.0 (omega (arith, both.1))

words_legal : (ws : List (List ℕ)) (c : Command) → of_words ws ≡ Some c → words_begin ws ≡ true
words_legal [] c e = refl
words_legal ([] ∷ []) c e = refl
words_legal ([] ∷ (w ∷ ws)) c e = absurd (none_some e)
words_legal ((a ∷ []) ∷ ws) c e = kind_legal (kind_of a) ws c e
words_legal ((a ∷ (b ∷ bs)) ∷ ws) c e = absurd (none_some e)

pub legal_begins : (line : List ℕ) (c : Command) → command_of line ≡ Some c → words_begin (words line) ≡ true
legal_begins line c e = words_legal (words line) c e

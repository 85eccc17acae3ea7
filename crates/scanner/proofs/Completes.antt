-- What begins a legal line goes on to one: its numbers go on with zeros.
use Rattle.std.proofs.Common.{◌≡◌, ℕ, zero, suc, ◌<◌, true, ◌||◌, eqb, List, [], ◌∷◌, ◌++◌, map, length, Some, None, Option, refl, ap, ◌∙◌, ⊎_elim, arith}
use Rattle.std.proofs.lemmas.List.{append-nil, length-map, nil_from_length}
use Rattle.std.proofs.lemmas.Bool.{false≢true, and_parts, and_from, or_cases, eqb-true, cond-true}
use Rattle.std.specs.Str.Parse.{digits_value}
use Rattle.text.specs.Lines.{onto}
use Rattle.text.specs.Numbers.{is_number}
use Rattle.scanner.specs.declared.command.Kind.{Kind}
use Rattle.scanner.specs.declared.command.Kind.TheVariants.{Make, Insert, InsertAt, Remove, Get, Replace, NextFreeKey, Len, List as Listing}
use Rattle.scanner.specs.declared.command.Command.{Command}
use Rattle.scanner.specs.declared.command.Command.TheVariants as writes
use Rattle.scanner.specs.Commands.{kind_of, plain, with_one, with_two, command, words, all_numbers, with_numbers, of_words}
use Rattle.scanner.specs.Legal.{Legal, takes, numbers_begin, kind_begins, words_begin}
use Rattle.scanner.proofs.Words.{glue, words_some, words_on}

-- so many numbers are a command
plain_some : (d : Command) (ns : List ℕ) → length ns ≡ 0 → (c : Command) × (plain d ns ≡ Some c)
plain_some d [] e = (d, refl)
plain_some d (n ∷ ns) e = absurd (omega arith)

one_some : (f : ℕ → Command) (ns : List ℕ) → length ns ≡ 1 → (c : Command) × (with_one f ns ≡ Some c)
one_some f [] e = absurd (omega arith)
one_some f (n ∷ []) e = (f n, refl)
one_some f (n ∷ (m ∷ ns)) e = absurd (omega arith)

two_some : (f : ℕ → ℕ → Command) (ns : List ℕ) → length ns ≡ 2 → (c : Command) × (with_two f ns ≡ Some c)
two_some f [] e = absurd (omega arith)
two_some f (n ∷ []) e = absurd (omega arith)
two_some f (n ∷ (m ∷ [])) e = (f n m, refl)
two_some f (n ∷ (m ∷ (l ∷ ns))) e = absurd (omega arith)

command_some : (k : Kind) (ns : List ℕ) → length ns ≡ takes k → (c : Command) × (command k ns ≡ Some c)
command_some Make ns e = one_some writes.Make ns e
command_some Insert ns e = one_some writes.Insert ns e
command_some InsertAt ns e = two_some writes.InsertAt ns e
command_some Remove ns e = one_some writes.Remove ns e
command_some Get ns e = one_some writes.Get ns e
command_some Replace ns e = two_some writes.Replace ns e
command_some NextFreeKey ns e = plain_some writes.NextFreeKey ns e
command_some Len ns e = plain_some writes.Len ns e
command_some Listing ns e = plain_some writes.List ns e

-- these words are n numbers
record Filled (n : ℕ) (ws : List (List ℕ)) : Type 0 where
  pub all : all_numbers ws ≡ true
  pub count : length ws ≡ n

filled_command : (k : Kind) (ws : List (List ℕ)) → Filled (takes k) ws → (c : Command) × (with_numbers (Some k) ws ≡ Some c)
filled_command k ws f =
    let made = command_some k (map (digits_value 10) ws) (length-map ws (digits_value 10) ∙ f.count) in
    (made.0, cond-true _ _ _ f.all ∙ made.1)

-- n numbers 0 after a line, and their words
zeros : ℕ → List ℕ
zeros zero = []
zeros (suc n) = 32 ∷ (48 ∷ zeros n)

zero_words : ℕ → List (List ℕ)
zero_words zero = []
zero_words (suc n) = (48 ∷ []) ∷ zero_words n

words_zeros : (n : ℕ) → words (zeros n) ≡ [] ∷ zero_words n
unfolding zeros zero_words
words_zeros zero = refl
words_zeros (suc n) = ap (λ ws. [] ∷ onto 48 ws) (words_zeros n)

zeros_filled : (n : ℕ) → Filled n (zero_words n)
unfolding zero_words
zeros_filled zero = record { all = refl; count = refl }
zeros_filled (suc n) = record { all = (zeros_filled n).all; count = ap suc (zeros_filled n).count }

filled_more : (n : ℕ) (w : List ℕ) (ws : List (List ℕ)) → is_number w ≡ true → Filled n ws → Filled (suc n) (w ∷ ws)
filled_more n w ws number f = record { all = and_from _ _ number f.all; count = ap suc f.count }

-- words that begin numbers go on to all of them
fill_last : (n : ℕ) (w : List ℕ) → (is_number w || eqb (length w) 0) ≡ true → (tail : List ℕ) × Filled (suc n) (glue (w ∷ []) (words tail))
fill_last n w e =
    ⊎_elim
    (λ (number : is_number w ≡ true). (
      zeros n,
      rw words_zeros (rw append-nil (filled_more n w (zero_words n) number (zeros_filled n))),
    ))
    (λ (none : eqb (length w) 0 ≡ true). (
      48 ∷ zeros n,
      rw (nil_from_length w (eqb-true (length w) 0 none), words_zeros) (filled_more n (48 ∷ []) (zero_words n) refl (zeros_filled n)),
    ))
    (or_cases (is_number w) (eqb (length w) 0) e)

fill : (n : ℕ) (w : List ℕ) (ws : List (List ℕ)) → numbers_begin n (w ∷ ws) ≡ true → (tail : List ℕ) × Filled n (glue (w ∷ ws) (words tail))
fill zero w ws e = absurd (false≢true e)
fill (suc n) w [] e = fill_last n w e
fill (suc n) w (x ∷ ws) e =
    let both = and_parts (is_number w) (numbers_begin n (x ∷ ws)) e in
    let rest = fill n x ws both.1 in
    (rest.0, filled_more n w (glue (x ∷ ws) (words rest.0)) both.0 rest.1)

-- so does a letter with such words
Completes : List (List ℕ) → Type 0
Completes ws = (tail : List ℕ) × (c : Command) × (of_words (glue ws (words tail)) ≡ Some c)

kind_completes : (a : ℕ) (k : Kind) (ws : List (List ℕ)) → kind_of a ≡ Some k → numbers_begin (takes k) ws ≡ true → Completes ((a ∷ []) ∷ ws)
unfolding Completes
kind_completes a k [] is e =
    let made = filled_command k (zero_words (takes k)) (zeros_filled (takes k)) in (
      zeros (takes k),
      made.0,
      ap (λ vs. of_words (glue ((a ∷ []) ∷ []) vs)) (words_zeros (takes k)) ∙ ap (λ o. with_numbers o (zero_words (takes k))) is ∙ made.1,
    )
kind_completes a k (w ∷ ws) is e =
    let rest = fill (takes k) w ws e in
    let made = filled_command k (glue (w ∷ ws) (words rest.0)) rest.1 in
    (rest.0, made.0, ap (λ o. with_numbers o (glue (w ∷ ws) (words rest.0))) is ∙ made.1)

letter_completes : (a : ℕ) (o : Option Kind) (ws : List (List ℕ)) → kind_of a ≡ o → kind_begins o ws ≡ true → Completes ((a ∷ []) ∷ ws)
letter_completes a None ws is e = absurd (false≢true e)
letter_completes a (Some k) ws is e = kind_completes a k ws is e

words_complete : (ws : List (List ℕ)) → 0 < length ws → words_begin ws ≡ true → Completes ws
unfolding Completes
words_complete [] some e = absurd (omega arith)
words_complete ([] ∷ []) some e = (110 ∷ [], writes.NextFreeKey, refl)
words_complete ([] ∷ (w ∷ ws)) some e = absurd (false≢true e)
words_complete ((a ∷ []) ∷ ws) some e = letter_completes a (kind_of a) ws refl e
words_complete ((a ∷ (b ∷ bs)) ∷ ws) some e = absurd (false≢true e)

-- what begins a legal line goes on to one
pub completes : (p : List ℕ) → words_begin (words p) ≡ true → (tail : List ℕ) × Legal (p ++ tail)
unfolding Completes
completes p e = let made = words_complete (words p) (words_some p) e in (made.0, (made.1, ap of_words (words_on p made.0) ∙ made.2))

-- The longest beginning of a line that begins a legal one.
use Rattle.std.proofs.Common.{◌≡◌, ℕ, zero, suc, ◌+◌, ◌<◌, ◌≤◌, Bool, true, false, List, ◌++◌, length, take, drop, Some, None, Err, Option, Result, sym, refl, ap, ◌∙◌, subst, ⊎_elim, arith, MatchResult}
use Rattle.std.proofs.lemmas.List.{take-take, take-append-drop}
use Rattle.std.proofs.lemmas.Bool.{both_ways, cases_Bool, cases_lt, cond-true, cond-false}
use Rattle.std.proofs.lemmas.Result.{err_from_is_err_and}
use Rattle.std.specs.Option.{ok_or}
use Rattle.std.specs.Result.{IsErrAnd}
use Rattle.scanner.specs.declared.command.Command.{Command}
use Rattle.scanner.specs.Commands.{words, command_of}
use Rattle.scanner.specs.Legal.{Legal, Shares, words_begin, largest, shared, scanned}
use Rattle.scanner.proofs.Begins.{none_some, begins_less, legal_begins}
use Rattle.scanner.proofs.Completes.{completes}

-- n is the largest number up to a limit that passes a test
record Largest (test : ℕ → Bool) (limit n : ℕ) : Type 0 where
  pub within : n ≤ limit
  pub passes : test n ≡ true
  pub past : (m : ℕ) → n < m → m ≤ limit → test m ≡ false

largest_is : (test : ℕ → Bool) (limit : ℕ) → test 0 ≡ true → Largest test limit (largest test limit)
largest_is test zero e = record { within = omega arith; passes = e; past = λ m above below. absurd (omega arith) }
largest_is test (suc limit) e =
    let rest = largest_is test limit e in
    ⊎_elim
    (λ (yes-here : test (suc limit) ≡ true).
    rw (cond-true _ _ _ yes-here) (record { within = omega arith; passes = yes-here; past = λ m above below. absurd (omega arith) }))
    (λ (not-here : test (suc limit) ≡ false).
    rw (cond-false _ _ _ not-here) (record {
      within = omega (arith, rest.within);
      passes = rest.passes;
      past = λ m above below.
          ⊎_elim (λ (less : m < suc limit). rest.past m above (omega arith)) (λ (more : suc limit ≤ m). let same : suc limit ≡ m = omega arith in ap test (sym same) ∙ not-here) (cases_lt m (suc limit));
    }))
    (cases_Bool (test (suc limit)))

-- there is one such number only
largest_same : (test : ℕ → Bool) (limit n m : ℕ) → Largest test limit n → Largest test limit m → n ≡ m
largest_same test limit n m a b =
    ⊎_elim
    (λ (less : n < m). absurd (both_ways _ (a.past m less b.within) b.passes))
    (λ (up : m ≤ n). ⊎_elim (λ (less : m < n). absurd (both_ways _ (b.past n less a.within) a.passes)) (λ (down : n ≤ m). omega arith) (cases_lt m n))
    (cases_lt n m)

-- so much of a line begins a legal line
begins : List ℕ → ℕ → Bool
begins line n = words_begin (words (take n line))

-- where one byte more does not begin a legal line, no longer beginning does
past_more : (line : List ℕ) (n m : ℕ) → n < m → words_begin (words (take (n + 1) line)) ≡ false → words_begin (words (take m line)) ≡ false
past_more line n m above stops =
    ⊎_elim
    (λ (goes_on : words_begin (words (take m line)) ≡ true).
    let parts = take-append-drop (n + 1) (take m line) in
    let less = begins_less (take (n + 1) (take m line)) (drop (n + 1) (take m line)) (ap (λ p. words_begin (words p)) parts ∙ goes_on) in
    absurd (both_ways _ stops (sym (ap (λ p. words_begin (words p)) (take-take (n + 1) m line (omega arith))) ∙ less)))
    (λ (ends : words_begin (words (take m line)) ≡ false). ends)
    (cases_Bool (words_begin (words (take m line))))

-- the longest beginning, by what one byte more does
pub shared_is : (line : List ℕ) (n : ℕ) → n ≤ length line → words_begin (words (take n line)) ≡ true
    → (n < length line → words_begin (words (take (n + 1) line)) ≡ false) → shared line ≡ n
unfolding begins
shared_is line n within here stops =
    largest_same (begins line) (length line) (shared line) n (largest_is (begins line) (length line) refl)
    (record { within = within; passes = here; past = λ m above below. past_more line n m above (stops (omega arith)) })

-- it is what some legal line shares
pub shares : (line : List ℕ) → Shares line (shared line)
unfolding begins
shares line =
    let most = largest_is (begins line) (length line) refl in
    record {
      within = most.within;
      some = completes (take (shared line) line) most.passes;
      most = λ more tail legal.
          both_ways _ (most.past (shared line + 1) (omega arith) (omega arith))
          (begins_less (take (shared line + 1) line) tail (legal_begins (take (shared line + 1) line ++ tail) legal.0 legal.1));
    }

-- a line that is not legal is answered by how much of it begins a legal one
pub stopped : (line : List ℕ) (n : ℕ) → n ≤ length line → words_begin (words (take n line)) ≡ true
    → (n < length line → words_begin (words (take (n + 1) line)) ≡ false) → command_of line ≡ None → scanned line ≡ Err n
stopped line n within here stops illegal = ap (λ o. ok_or o (shared line)) illegal ∙ ap Err (shared_is line n within here stops)

-- what is answered of a line: its command, or what some legal line shares with it
answered : (line : List ℕ) (o : Option Command) → command_of line ≡ o
    → MatchResult (ok_or o (shared line)) (λ c. command_of line ≡ Some c) (λ n. (Legal line → ⊥) × Shares line n)
answered line None e = (λ legal. none_some (sym e ∙ legal.1), shares line)
answered line (Some c) e = e

scanned_legal : (line : List ℕ) (r : Result Command ℕ) → r ≡ scanned line → MatchResult r (λ c. command_of line ≡ Some c) (λ n. (Legal line → ⊥) × Shares line n)
scanned_legal line r e =
    subst (λ (o : Result Command ℕ). MatchResult o (λ c. command_of line ≡ Some c) (λ n. (Legal line → ⊥) × Shares line n)) (sym e) (answered line (command_of line) refl)

-- both, for a line whose command is read, and for one that is stopped
abbrev pub Told : List ℕ → Result Command ℕ → Type 0
Told line r = record { value : r ≡ scanned line; legal : MatchResult r (λ c. command_of line ≡ Some c) (λ n. (Legal line → ⊥) × Shares line n) }

pub told : (line : List ℕ) (r : Result Command ℕ) → scanned line ≡ r → Told line r
told line r e = record { value = sym e; legal = scanned_legal line r (sym e) }

pub told_stop : (line : List ℕ) (r : Result Command ℕ) (n : ℕ) → IsErrAnd r (λ e. e ≡ n) → scanned line ≡ Err n → Told line r
told_stop line r n stop e = let is = err_from_is_err_and r stop in told line r (e ∙ ap Err (sym is.2) ∙ sym is.1)

-- A number read digit by digit.
use Rattle.std.proofs.Common.{◌≡◌, ℕ, ◌+◌, ◌-◌, ◌*◌, ◌^◌, ◌<◌, ◌≤◌, Bool, true, false, cond, ◌&&◌, ltb, leb, List, [], ◌∷◌, length, get_or, drop, Some, None, Ok, Err, Option, Result, sym, refl, ap, ◌∙◌, ⊎_elim, arith, pow-add}
use native.Mathlib.Nat.{pow-le-pow_right}
use Rattle.std.proofs.lemmas.List.{at_drop_more}
use Rattle.std.proofs.lemmas.Bool.{cases_Bool, cases_lt, and_parts, leb-true, cond-true, cond-false, and_from, and_left, and_right, le-leb, lt-leb, lt-ltb, le-ltb}
use Rattle.std.specs.Bool.{then_some}
use Rattle.std.specs.Result.{OkIff, result_ok}
use Rattle.std.specs.Str.Parse.{digits_value, digits_value_after}
use Rattle.std.specs.Char.{is_ascii_digit, digit_value}
use Rattle.std.specs.Str.{all_ascii_digits}
use Rattle.text.specs.Numbers.{is_number, number_of}

-- what a text of digits writes after the number n, unless a byte is no digit
abbrev pub scan : ℕ → List ℕ → Option ℕ
scan n [] = Some n
scan n (c ∷ cs) = cond (is_ascii_digit c) (scan (n * 10 + digit_value c) cs) None

pub scan_is : (n : ℕ) (cs : List ℕ) → scan n cs ≡ then_some (all_ascii_digits cs) (digits_value_after 10 n cs)
scan_is n [] = refl
scan_is n (c ∷ cs) =
    ⊎_elim
    (λ (yes-digit : is_ascii_digit c ≡ true).
    cond-true _ _ _ yes-digit
    ∙ scan_is (n * 10 + digit_value c) cs
    ∙ sym (ap (λ b. then_some (b && all_ascii_digits cs) (digits_value_after 10 (n * 10 + digit_value c) cs)) yes-digit))
    (λ (no_digit : is_ascii_digit c ≡ false).
    cond-false _ _ _ no_digit
    ∙ sym (ap (λ b. then_some (b && all_ascii_digits cs) (digits_value_after 10 (n * 10 + digit_value c) cs)) no_digit))
    (cases_Bool (is_ascii_digit c))

-- a digit writes its distance from 0
pub digit_value_is : (c : ℕ) → 48 ≤ c → c ≤ 57 → digit_value c ≡ c - 48
digit_value_is c low high = cond-false _ _ _ (le-ltb c 48 low) ∙ cond-true _ _ _ (lt-ltb c 58 (omega arith))

pub digit_test : (c : ℕ) → 48 ≤ c → c ≤ 57 → is_ascii_digit c ≡ true
digit_test c low high = and_from _ _ (le-leb 48 c low) (le-leb c 57 high)

-- one digit more
pub scan_more : (n : ℕ) (line : List ℕ) (i : ℕ) → i < length line → 48 ≤ get_or line i 0 → get_or line i 0 ≤ 57
    → scan n (drop i line) ≡ scan (n * 10 + (get_or line i 0 - 48)) (drop (i + 1) line)
scan_more n line i h low high =
    at_drop_more (scan n) line i 0 h
    ∙ cond-true _ _ _ (digit_test (get_or line i 0) low high)
    ∙ ap (λ d. scan (n * 10 + d) (drop (i + 1) line)) (digit_value_is (get_or line i 0) low high)

-- a byte that is no digit
pub scan_stops : (n : ℕ) (line : List ℕ) (i : ℕ) → i < length line → is_ascii_digit (get_or line i 0) ≡ false → scan n (drop i line) ≡ None
scan_stops n line i h e = at_drop_more (scan n) line i 0 h ∙ cond-false _ _ _ e

pub digit_other : (c : ℕ) → (48 ≤ c → c ≤ 57 → 58 ≤ c) → is_ascii_digit c ≡ false
digit_other c past =
    ⊎_elim
    (λ (yes-digit : is_ascii_digit c ≡ true).
    let both = and_parts (leb 48 c) (leb c 57) yes-digit in
    absurd (omega (arith, past (leb-true 48 c both.0) (leb-true c 57 both.1), leb-true c 57 both.1)))
    (λ (no_digit : is_ascii_digit c ≡ false). no_digit)
    (cases_Bool (is_ascii_digit c))

-- ten digits at most have room
pub digits_fit : (n i : ℕ) → n < 10 ^ i → i < 10 → n < 10 ^ 9
digits_fit n i h lt = let le : i ≤ 9 = omega arith in let p : 10 ^ i ≤ 10 ^ 9 = pow-le-pow_right (omega arith) le in omega arith

pub digits_more : (n i d : ℕ) → n < 10 ^ i → d < 10 → n * 10 + d < 10 ^ (i + 1)
digits_more n i d h lt = let p : 10 ^ (i + 1) ≡ 10 ^ i * 10 = pow-add 10 i 1 in omega arith

-- what was scanned is the number, if it is one
when_true_none : {T : Type 0} (b : Bool) (x : T) → then_some b x ≡ None → b ≡ false
when_true_none true x e = let z : ◌≡◌ {A = ℕ} 0 1 = cc in absurd (omega arith)
when_true_none false x e = refl

when_true_some : {T : Type 0} (b : Bool) (x v : T) → then_some b x ≡ Some v → (b ≡ true) × (x ≡ v)
when_true_some true x v e = (refl, cc)
when_true_some false x v e = let z : ◌≡◌ {A = ℕ} 0 1 = cc in absurd (omega arith)

pub number_none : (line : List ℕ) → scan 0 line ≡ None → None ≡ number_of line
number_none line e =
    let no-digits = when_true_none (all_ascii_digits line) (digits_value 10 line) (sym (scan_is 0 line) ∙ e) in
    sym (ap (λ b. then_some b (digits_value 10 line)) (and_right _ _ (and_left _ _ no-digits)))

pub number_some : (line : List ℕ) (v : ℕ) → scan 0 line ≡ Some v → 0 < length line → length line ≤ 10 → v ≤ 4294967295 → Some v ≡ number_of line
number_some line v e some few small =
    let read = when_true_some (all_ascii_digits line) (digits_value 10 line) v (sym (scan_is 0 line) ∙ e) in
    let legal : is_number line ≡ true
    = and_from _ _ (and_from _ _ (lt-ltb 0 (length line) some) (le-leb (length line) 10 few)) (and_from _ _ read.0 (le-leb (digits_value 10 line) 4294967295 (omega arith))) in
    ap Some (sym read.1) ∙ sym (ap (λ b. then_some b (digits_value 10 line)) legal)

pub number_large : (line : List ℕ) (v : ℕ) → scan 0 line ≡ Some v → 4294967295 < v → None ≡ number_of line
number_large line v e large =
    let read = when_true_some (all_ascii_digits line) (digits_value 10 line) v (sym (scan_is 0 line) ∙ e) in
    sym (ap (λ b. then_some b (digits_value 10 line)) (and_right (ltb 0 (length line) && leb (length line) 10) _ (and_right (all_ascii_digits line) _ (lt-leb (digits_value 10 line) 4294967295 (omega arith)))))

-- what fits 32 bits is the number
pub number_read : {E : Type 0} (line : List ℕ) (v : ℕ) (r : Result ℕ E) → scan 0 line ≡ Some v → 0 < length line → length line ≤ 10
    → OkIff r (v < 2 ^ 32) v → result_ok r ≡ number_of line
number_read line v (Ok n) e some few read = ap Some read.1 ∙ number_some line v e some few (omega (arith, read.0))
number_read line v (Err _) e some few read =
    ⊎_elim
    (λ (small : v < 2 ^ 32). absurd (read small))
    (λ (large : 2 ^ 32 ≤ v). number_large line v e (omega arith))
    (cases_lt v (2 ^ 32))

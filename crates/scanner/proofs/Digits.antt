-- Numbers by their digits.
use Rattle.std.proofs.Common.{◌≡◌, ℕ, ◌+◌, ◌*◌, ◌<◌, ◌≤◌, Bool, true, false, ◌&&◌, ◌||◌, eqb, ltb, leb, List, [], ◌∷◌, ◌++◌, length, get_or, take, Some, None, Option, MatchOption, sym, refl, ap, ◌∙◌, ⊎_elim, arith}
use Rattle.std.proofs.lemmas.Int.Digits.{digits_value_more}
use Rattle.std.proofs.lemmas.List.{length-append, length-take, length-take-le, get_or-take, take_more}
use Rattle.std.proofs.lemmas.Grind.{get_or_default_zero}
use Rattle.std.proofs.lemmas.Bool.{cases_Bool, both_ways, and_parts, and_from, or_cases, or_left, cases_lt, ltb-true, lt-ltb, le-ltb, leb-true, le-leb, eqb-true}
use Rattle.std.specs.Bool.{then_some}
use Rattle.std.specs.Str.Parse.{digits_value, digits_value_after}
use Rattle.std.specs.Char.{is_ascii_digit, digit_value}
use Rattle.std.specs.Str.{all_ascii_digits}
use Rattle.text.specs.Numbers.{is_number}
use Rattle.scanner.specs.Leading.{Leads, NoneLeads}

-- what a number is, part by part
pub record Number (w : List ℕ) : Type 0 where
  pub some : 0 < length w
  pub few : length w ≤ 10
  pub digits : all_ascii_digits w ≡ true
  pub small : digits_value 10 w ≤ 4294967295

pub number_parts : (w : List ℕ) → is_number w ≡ true → Number w
number_parts w e =
    let halves = and_parts (ltb 0 (length w) && leb (length w) 10) (all_ascii_digits w && leb (digits_value 10 w) 4294967295) e in
    let size = and_parts (ltb 0 (length w)) (leb (length w) 10) halves.0 in
    let rest = and_parts (all_ascii_digits w) (leb (digits_value 10 w) 4294967295) halves.1 in
    record { some = ltb-true 0 (length w) size.0; few = leb-true (length w) 10 size.1; digits = rest.0; small = leb-true (digits_value 10 w) 4294967295 rest.1 }

pub number_from : (w : List ℕ) → Number w → is_number w ≡ true
number_from w n =
    and_from _ _ (and_from _ _ (lt-ltb 0 (length w) n.some) (le-leb (length w) 10 n.few))
    (and_from _ _ n.digits (le-leb (digits_value 10 w) 4294967295 n.small))

pub not_number : (w : List ℕ) → (Number w → ⊥) → is_number w ≡ false
not_number w never = ⊎_elim (λ (e : is_number w ≡ true). absurd (never (number_parts w e))) (λ (e : is_number w ≡ false). e) (cases_Bool (is_number w))

-- each beginning of digits is digits, of no larger value
pub digits_begin : (w v : List ℕ) → all_ascii_digits (w ++ v) ≡ true → all_ascii_digits w ≡ true
digits_begin [] v e = refl
digits_begin (c ∷ w) v e = let both = and_parts (is_ascii_digit c) (all_ascii_digits (w ++ v)) e in and_from _ _ both.0 (digits_begin w v both.1)

after_more : (n : ℕ) (v : List ℕ) → n ≤ digits_value_after 10 n v
after_more n [] = omega arith
after_more n (c ∷ v) = omega (arith, after_more (n * 10 + digit_value c) v)

value_begin : (n : ℕ) (w v : List ℕ) → digits_value_after 10 n w ≤ digits_value_after 10 n (w ++ v)
value_begin n [] v = after_more n v
value_begin n (c ∷ w) v = value_begin (n * 10 + digit_value c) w v

-- each beginning of a number that has a digit is a number
pub number_begin : (w v : List ℕ) → 0 < length w → is_number (w ++ v) ≡ true → is_number w ≡ true
number_begin w v some e =
    let whole = number_parts (w ++ v) e in
    let size = length-append w v in
    number_from w (record {
      some = some;
      few = omega (arith, whole.few);
      digits = digits_begin w v whole.digits;
      small = omega (arith, value_begin 0 w v, whole.small);
    })

pub last_begin : (w v : List ℕ) → (is_number (w ++ v) || eqb (length (w ++ v)) 0) ≡ true → (is_number w || eqb (length w) 0) ≡ true
last_begin [] v e = refl
last_begin (c ∷ w) v e =
    ⊎_elim
    (λ (number : is_number (c ∷ (w ++ v)) ≡ true). or_left _ _ (number_begin (c ∷ w) v (omega arith) number))
    (λ (none : eqb (length (c ∷ (w ++ v))) 0 ≡ true). absurd (omega (arith, eqb-true (length (c ∷ (w ++ v))) 0 none)))
    (or_cases (is_number (c ∷ (w ++ v))) _ e)

-- one digit more
digits_push : (w : List ℕ) (c : ℕ) → all_ascii_digits w ≡ true → is_ascii_digit c ≡ true → all_ascii_digits (w ++ (c ∷ [])) ≡ true
digits_push [] c e one = and_from _ _ one refl
digits_push (d ∷ w) c e one = let both = and_parts (is_ascii_digit d) (all_ascii_digits w) e in and_from _ _ both.0 (digits_push w c both.1 one)

digits_last : (w : List ℕ) (c : ℕ) → all_ascii_digits (w ++ (c ∷ [])) ≡ true → is_ascii_digit c ≡ true
digits_last [] c e = (and_parts (is_ascii_digit c) true e).0
digits_last (d ∷ w) c e = digits_last w c (and_parts (is_ascii_digit d) (all_ascii_digits (w ++ (c ∷ []))) e).1

-- a number with one digit more, where there is room
abbrev with_digit : ℕ → ℕ → Option ℕ
with_digit n byte = then_some (is_ascii_digit byte && leb (n * 10 + digit_value byte) 4294967295) (n * 10 + digit_value byte)

some_when : {A : Type 0} (b : Bool) (x y : A) → Some y ≡ then_some b x → (b ≡ true) × (y ≡ x)
some_when true x y e = (refl, cc)
some_when false x y e = absurd (cc)

none_when : {A : Type 0} (b : Bool) (x : A) → None ≡ then_some b x → b ≡ false
none_when true x e = absurd (cc)
none_when false x e = refl

-- the first i bytes of a text are digits: at most ten, and v is their value
pub record Read (text : List ℕ) (v i : ℕ) : Type 0 where
  pub within : i ≤ length text
  pub few : i ≤ 10
  pub digits : all_ascii_digits (take i text) ≡ true
  pub valued : v ≡ digits_value 10 (take i text)
  pub small : v ≤ 4294967295

module _ (text : List ℕ) (v i : ℕ) (r : Read text v i) where
  -- what is read is a number, if it has a digit
  read_number : 0 < i → is_number (take i text) ≡ true
  read_number some =
      let size = length-take-le i text r.within in
      number_from (take i text) (record { some = omega arith; few = omega (arith, r.few); digits = r.digits; small = omega (arith, r.valued, r.small) })

  -- what is read leads the text, where one byte more is no number
  pub read_leads : (i < length text → is_number (take (i + 1) text) ≡ false)
      → MatchOption {T = ℕ × ℕ} (then_some (ltb 0 i) (v, i)) (NoneLeads text) (λ p. Leads text p.0 p.1)
  read_leads never =
      ⊎_elim
      (λ (some : 0 < i).
      rw (lt-ltb 0 i some) (record { within = r.within; valued = r.valued; legal = read_number some; most = never }))
      (λ (none : i ≤ 0).
      let zero : i ≡ 0 = omega arith in
      rw (le-ltb 0 i none) (λ more. rw zero at (never (omega arith))))
      (cases_lt 0 i)

  -- ten bytes are read, or all
  pub stops_all : i ≡ length (take 10 text) → i < length text → is_number (take (i + 1) text) ≡ false
  stops_all all on =
      let most = length-take 10 text in
      not_number (take (i + 1) text) (λ n. omega (arith, n.few, length-take-le (i + 1) text (omega arith)))

  -- the value with the next digit
  valued_more : i < length text → v * 10 + digit_value (get_or text i 0) ≡ digits_value 10 (take (i + 1) text)
  valued_more more = ap (λ n. n * 10 + digit_value (get_or text i 0)) r.valued ∙ sym (digits_value_more 10 text i more)

  -- one byte more of the ten that are looked at: a digit that is read, or one that makes no longer number
  module _ (byte : ℕ) (more : i < length (take 10 text)) (at : byte ≡ get_or (take 10 text) i byte) where
    more_left : (i < 10) × (i < length text)
    more_left = let most = length-take 10 text in (omega arith, omega arith)

    byte_at : byte ≡ get_or text i 0
    byte_at = at ∙ get_or-take 10 text i byte more_left.0 ∙ get_or_default_zero text i byte more_left.1

    pub read_more : (longer : ℕ) → Some longer ≡ with_digit v byte → Read text longer (i + 1)
    read_more longer e =
        let made = some_when _ _ longer (rw byte_at at e) in
        let both = and_parts (is_ascii_digit (get_or text i 0)) _ made.0 in
        rw made.1 (record {
          within = omega (arith, more_left);
          few = omega (arith, more_left);
          digits = rw (take_more text i 0 more_left.1) (digits_push (take i text) (get_or text i 0) r.digits both.0);
          valued = valued_more more_left.1;
          small = leb-true (v * 10 + digit_value (get_or text i 0)) 4294967295 both.1;
        })

    pub stops_more : None ≡ with_digit v byte → i < length text → is_number (take (i + 1) text) ≡ false
    stops_more e on =
        let other = none_when _ _ (rw byte_at at e) in
        not_number (take (i + 1) text)
        (λ n.
        let digit = digits_last (take i text) (get_or text i 0) (rw (take_more text i 0 on) at n.digits) in
        both_ways _ other (and_from _ _ digit (le-leb _ 4294967295 (omega (arith, n.small, valued_more on)))))

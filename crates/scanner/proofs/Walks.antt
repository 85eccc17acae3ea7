-- A walk over a line, from its letter on and number by number.
use Rattle.std.proofs.Common.{◌≡◌, ℕ, ◌+◌, ◌<◌, ◌≤◌, ◌≢◌, true, false, List, [], ◌∷◌, ◌++◌, map, length, get_or, take, drop, Some, None, Ok, Err, Option, sym, refl, ap, ◌∙◌, ⊎_elim, arith, take-add}
use Rattle.std.proofs.lemmas.List.{append_assoc, length-drop, length_push, nil_from_length, take_all, take_more, take-append-drop, get_or-drop}
use Rattle.std.proofs.lemmas.Bool.{both_ways, and_parts, and_from, and_right, cases_eq, cases_lt, cond-true}
use Rattle.std.proofs.lemmas.Option.{slice_get-get_or, slice_get_within, get_or_from_slice_get}
use Rattle.std.specs.List.{slice_get}
use Rattle.std.specs.Option.{ok_or}
use Rattle.std.specs.Str.Parse.{digits_value}
use Rattle.text.specs.Numbers.{is_number}
use Rattle.scanner.specs.declared.command.Kind.{Kind}
use Rattle.scanner.specs.declared.command.Command.{Command}
use Rattle.scanner.specs.Commands.{kind_of, command, words, all_numbers, with_numbers, of_words, command_of}
use Rattle.scanner.specs.Legal.{takes, numbers_begin, kind_begins, words_begin, shared, scanned}
use Rattle.scanner.specs.Leading.{Leads, NoneLeads, NumberAt, NoneAt}
use Rattle.scanner.proofs.Begins.{none_some, with_numbers_holds, begins_less, legal_begins, numbers_full, numbers_open, numbers_many, numbers_other}
use Rattle.scanner.proofs.Digits.{number_parts}
use Rattle.scanner.proofs.Longest.{stopped}
use Rattle.scanner.proofs.Words.{words_blank, words_byte, words_digits}

-- so much of the line is its letter and these words, which are numbers; another byte than a blank does not go on from there
pub record Walked (line : List ℕ) (end : ℕ) (ws : List (List ℕ)) : Type 0 where
  pub within : end ≤ length line
  pub parted : words (take end line) ≡ (get_or line 0 0 ∷ []) ∷ ws
  pub all : all_numbers ws ≡ true
  pub stops : end < length line → (get_or line end 0 ≡ 32 → ⊥) → words_begin (words (take (end + 1) line)) ≡ false

-- a letter is no blank
letter_other : (a : ℕ) (k : Kind) → kind_of a ≡ Some k → a ≡ 32 → ⊥
letter_other a k is blank = none_some (sym (ap kind_of blank) ∙ is)

-- the letter alone
pub walked_letter : (line : List ℕ) (k : Kind) → 0 < length line → kind_of (get_or line 0 0) ≡ Some k → Walked line 1 []
walked_letter line k some is =
    let first = take_more line 0 0 some in
    let parted = ap words first ∙ words_byte [] (get_or line 0 0) [] [] (letter_other _ k is) refl in
    record {
      within = omega arith;
      parted = parted;
      all = refl;
      stops = λ more other.
          ap (λ p. words_begin (words p)) (take_more line 1 0 more)
          ∙ ap words_begin (words_byte (take 1 line) (get_or line 1 0) [] (get_or line 0 0 ∷ []) other parted);
    }

-- what is no command is none
none_unless : (o : Option Command) → ((c : Command) → o ≡ Some c → ⊥) → o ≡ None
none_unless None never = refl
none_unless (Some c) never = absurd (never c refl)

-- where one byte more does not go on, the line is not legal
none_past : (line : List ℕ) (n : ℕ) → words_begin (words (take (n + 1) line)) ≡ false → command_of line ≡ None
none_past line n stops =
    none_unless (command_of line)
    (λ c e. both_ways _ stops (begins_less (take (n + 1) line) (drop (n + 1) line) (ap (λ p. words_begin (words p)) (take-append-drop (n + 1) line) ∙ legal_begins line c e)))

-- no letter of a command begins the line
byte_stops : (a : ℕ) → kind_of a ≡ None → words_begin (words (a ∷ [])) ≡ false
byte_stops a none =
    ⊎_elim
    (λ (blank : a ≡ 32). ap (λ b. words_begin (words (b ∷ []))) blank)
    (λ (other : a ≡ 32 → ⊥). ap words_begin (words_byte [] a [] [] other refl) ∙ ap (λ o. kind_begins o []) none)
    (cases_eq a 32)

pub stops_letter : (line : List ℕ) → kind_of (get_or line 0 0) ≡ None → scanned line ≡ Err 0
stops_letter [] none = refl
stops_letter (a ∷ line) none = stopped (a ∷ line) 0 (omega arith) refl (λ _. byte_stops a none) (none_past (a ∷ line) 0 (byte_stops a none))

-- numbers, with one more
all_push : (ws : List (List ℕ)) (w : List ℕ) → all_numbers ws ≡ true → is_number w ≡ true → all_numbers (ws ++ (w ∷ [])) ≡ true
all_push [] w e one = and_from _ _ one refl
all_push (v ∷ ws) w e one = let both = and_parts (is_number v) (all_numbers ws) e in and_from _ _ both.0 (all_push ws w both.1 one)

all_last : (ws : List (List ℕ)) → all_numbers (ws ++ ([] ∷ [])) ≡ false
all_last [] = refl
all_last (w ∷ ws) = and_right (is_number w) _ (all_last ws)

module _ (line : List ℕ) (k : Kind) (is : kind_of (get_or line 0 0) ≡ Some k) where
  -- whether words after the letter begin a legal line, and what they write
  letter_begins : (p : List ℕ) (ws : List (List ℕ)) → words p ≡ (get_or line 0 0 ∷ []) ∷ ws → words_begin (words p) ≡ numbers_begin (takes k) ws
  letter_begins p ws e = ap words_begin e ∙ ap (λ o. kind_begins o ws) is

  letter_writes : (ws : List (List ℕ)) → words line ≡ (get_or line 0 0 ∷ []) ∷ ws → command_of line ≡ with_numbers (Some k) ws
  letter_writes ws e = ap of_words e ∙ ap (λ o. with_numbers o ws) is

  -- words that are too few, or not all numbers, write no command
  none_written : (ws : List (List ℕ)) → words line ≡ (get_or line 0 0 ∷ []) ∷ ws → ((all_numbers ws ≡ true) × (length ws ≡ takes k) → ⊥) → command_of line ≡ None
  none_written ws e never = letter_writes ws e ∙ none_unless (with_numbers (Some k) ws) (λ c made. never (with_numbers_holds k ws c made))

  -- the walk stops at n
  stopped_at : (n : ℕ) (ws : List (List ℕ)) → n ≤ length line → words (take n line) ≡ (get_or line 0 0 ∷ []) ∷ ws → numbers_begin (takes k) ws ≡ true
      → (n < length line → words_begin (words (take (n + 1) line)) ≡ false) → (length line ≤ n → (all_numbers ws ≡ true) × (length ws ≡ takes k) → ⊥) → scanned line ≡ Err n
  stopped_at n ws within parted here stops never =
      stopped line n within (letter_begins (take n line) ws parted ∙ here) stops
      (⊎_elim
      (λ (more : n < length line). none_past line n (stops more))
      (λ (whole : length line ≤ n). none_written ws (sym (ap words (take_all n line whole)) ∙ parted) (never whole))
      (cases_lt n (length line)))

  module _ (end : ℕ) (ws : List (List ℕ)) (w : Walked line end ws) where
    -- a number is lacking
    stops_lacking : length ws < takes k → (end < length line → get_or line end 0 ≡ 32 → ⊥) → scanned line ≡ Err end
    stops_lacking few other =
        stopped_at end ws w.within w.parted (numbers_full (takes k) ws w.all (omega arith)) (λ more. w.stops more (other more)) (λ whole both. omega (arith, both.1))

    -- all numbers are there
    writes : length line ≤ end → (ns : List ℕ) → map (digits_value 10) ws ≡ ns → command_of line ≡ command k ns
    writes whole ns e = letter_writes ws (sym (ap words (take_all end line whole)) ∙ w.parted) ∙ cond-true _ _ _ w.all ∙ ap (command k) e

    module _ (more : end < length line) where
      -- the blank after the words so far
      parted_blank : get_or line end 0 ≡ 32 → words (take (end + 1) line) ≡ (get_or line 0 0 ∷ []) ∷ (ws ++ ([] ∷ []))
      parted_blank blank =
          ap words (take_more line end 0 more ∙ ap (λ b. take end line ++ (b ∷ [])) blank)
          ∙ words_blank (take end line) []
          ∙ ap (λ us. us ++ ([] ∷ [])) w.parted

      -- the line goes on after its last number
      stops_long : length ws ≡ takes k → scanned line ≡ Err end
      stops_long full =
          stopped_at end ws w.within w.parted (numbers_full (takes k) ws w.all (omega arith))
          (λ _.
          ⊎_elim
          (λ (blank : get_or line end 0 ≡ 32).
          letter_begins (take (end + 1) line) (ws ++ ([] ∷ [])) (parted_blank blank) ∙ numbers_many (takes k) (ws ++ ([] ∷ [])) (omega (arith, length_push ws [])))
          (λ (other : get_or line end 0 ≡ 32 → ⊥). w.stops more other)
          (cases_eq (get_or line end 0) 32))
          (λ whole both. omega arith)

      module _ (blank : get_or line end 0 ≡ 32) where
        -- no number follows the blank
        byte_other : NoneLeads (drop (end + 1) line) → end + 1 < length line → is_number (get_or line (end + 1) 0 ∷ []) ≡ false
        byte_other none on =
            let some : 0 < length (drop (end + 1) line) = simp length-drop (omega arith) in
            let place : end + 1 + 0 ≡ end + 1 = omega arith in
            let byte = get_or-drop (end + 1) line 0 0 ∙ ap (λ n. get_or line n 0) place in
            sym (ap is_number (take_more (drop (end + 1) line) 0 0 some ∙ ap (λ b. b ∷ []) byte)) ∙ none some

        no_digit : NoneLeads (drop (end + 1) line) → end + 1 < length line → words_begin (words (take (end + 1 + 1) line)) ≡ false
        no_digit none on =
            let next = take_more line (end + 1) 0 on in
            ⊎_elim
            (λ (again : get_or line (end + 1) 0 ≡ 32).
            letter_begins (take (end + 1 + 1) line) (ws ++ ([] ∷ ([] ∷ [])))
            (ap words (next ∙ ap (λ b. take (end + 1) line ++ (b ∷ [])) again)
            ∙ words_blank (take (end + 1) line) []
            ∙ ap (λ us. us ++ ([] ∷ [])) (parted_blank blank)
            ∙ ap (λ us. (get_or line 0 0 ∷ []) ∷ us) (append_assoc ws ([] ∷ []) ([] ∷ [])))
            ∙ numbers_other (takes k) ws [] ([] ∷ []) refl (omega arith))
            (λ (other : get_or line (end + 1) 0 ≡ 32 → ⊥).
            letter_begins (take (end + 1 + 1) line) (ws ++ ((get_or line (end + 1) 0 ∷ []) ∷ []))
            (ap words next ∙ words_byte (take (end + 1) line) (get_or line (end + 1) 0) ((get_or line 0 0 ∷ []) ∷ ws) [] other (parted_blank blank))
            ∙ numbers_other (takes k) ws (get_or line (end + 1) 0 ∷ []) [] (byte_other none on) (omega arith))
            (cases_eq (get_or line (end + 1) 0) 32)

        stops_blank : length ws < takes k → NoneLeads (drop (end + 1) line) → scanned line ≡ Err (end + 1)
        stops_blank few none =
            stopped_at (end + 1) (ws ++ ([] ∷ [])) (omega arith) (parted_blank blank) (numbers_open (takes k) ws w.all few) (no_digit none)
            (λ whole both. both_ways _ (all_last ws) both.0)

        -- a number follows the blank
        module _ (v d : ℕ) (leads : Leads (drop (end + 1) line) v d) where
          parted_number : words (take (end + (1 + d)) line) ≡ (get_or line 0 0 ∷ []) ∷ (ws ++ (take d (drop (end + 1) line) ∷ []))
          parted_number =
              let place : end + (1 + d) ≡ end + 1 + d = omega arith in
              let word = take d (drop (end + 1) line) in
              ap (λ n. words (take n line)) place
              ∙ ap words (take-add (end + 1) d line)
              ∙ ap (λ p. words (p ++ word)) (take_more line end 0 more ∙ ap (λ b. take end line ++ (b ∷ [])) blank)
              ∙ ap words (append_assoc (take end line) (32 ∷ []) word)
              ∙ words_blank (take end line) word
              ∙ ap (λ us. words (take end line) ++ us) (words_digits word (number_parts word leads.legal).digits)
              ∙ ap (λ us. us ++ (word ∷ [])) w.parted

          longer_other : end + (1 + d) < length line → is_number (take d (drop (end + 1) line) ++ (get_or line (end + (1 + d)) 0 ∷ [])) ≡ false
          longer_other on =
              let word = take d (drop (end + 1) line) in
              let left : d < length (drop (end + 1) line) = simp length-drop (omega arith) in
              let place : end + 1 + d ≡ end + (1 + d) = omega arith in
              let byte = get_or-drop (end + 1) line d 0 ∙ ap (λ n. get_or line n 0) place in
              sym (ap is_number (take_more (drop (end + 1) line) d 0 left ∙ ap (λ b. word ++ (b ∷ [])) byte)) ∙ leads.most left

          walked_number : Walked line (end + (1 + d)) (ws ++ (take d (drop (end + 1) line) ∷ []))
          walked_number =
              let word = take d (drop (end + 1) line) in
              record {
                within = omega (arith, leads.within, length-drop (end + 1) line);
                parted = parted_number;
                all = all_push ws word w.all leads.legal;
                stops = λ on other.
                    let byte = get_or line (end + (1 + d)) 0 in
                    letter_begins (take (end + (1 + d) + 1) line) (ws ++ ((word ++ (byte ∷ [])) ∷ []))
                    (ap words (take_more line (end + (1 + d)) 0 on) ∙ words_byte (take (end + (1 + d)) line) byte ((get_or line 0 0 ∷ []) ∷ ws) word other parted_number)
                    ∙ numbers_other (takes k) ws (word ++ (byte ∷ [])) [] (longer_other on) (omega (arith, length_push word byte));
              }

    -- no number is read from the end of the walk on
    stops_none : (e : ℕ) → length ws < takes k → NoneAt line end e → scanned line ≡ Err e
    stops_none e few r =
        ⊎_elim
        (λ (other : (slice_get line end ≢ Some 32) × (e ≡ end)).
        stops_lacking few (λ more blank. other.0 (slice_get-get_or line end 0 more ∙ ap Some blank)) ∙ ap Err (sym other.1))
        (λ (none : (slice_get line end ≡ Some 32) × NoneLeads (drop (end + 1) line) × (e ≡ end + 1)).
        stops_blank (slice_get_within line end 32 none.0) (get_or_from_slice_get line end 32 0 none.0) few none.1 ∙ ap Err (sym none.2))
        r

    -- the walk goes on with the number that is read
    walked_at : (v to : ℕ) → NumberAt line end v to → (u : List ℕ) × (digits_value 10 u ≡ v) × Walked line to (ws ++ (u ∷ []))
    walked_at v to r =
        let walked = walked_number (slice_get_within line end 32 r.blank) (get_or_from_slice_get line end 32 0 r.blank) v r.digits r.leads in
        (take r.digits (drop (end + 1) line), sym r.leads.valued, rw (← r.up_to) at walked)

-- a command is written up to a place of a line, which may go on
pub record Written (line : List ℕ) (end : ℕ) (c : Command) : Type 0 where
  pub goes_on : end < length line → scanned line ≡ Err end
  pub ends : length line ≤ end → scanned line ≡ Ok c

module _ (line : List ℕ) (k : Kind) (is : kind_of (get_or line 0 0) ≡ Some k) where
  -- a line with such a letter is not empty
  letter_some : 0 < length line
  letter_some = ⊎_elim (λ (some : 0 < length line). some) (λ (none : length line ≤ 0). absurd (none_some (ap (λ l. kind_of (get_or l 0 0)) (sym (nil_from_length line (omega arith))) ∙ is))) (cases_lt 0 (length line))

  letter : Walked line 1 []
  letter = walked_letter line k letter_some is

  written : (end : ℕ) (ws : List (List ℕ)) → Walked line end ws → length ws ≡ takes k → (c : Command) → command k (map (digits_value 10) ws) ≡ Some c → Written line end c
  written end ws w full c made = record {
    goes_on = λ more. stops_long line k is end ws w more full;
    ends = λ whole. ap (λ o. ok_or o (shared line)) (writes line k is end ws w whole _ refl ∙ made);
  }

  -- a command that takes no number
  pub plain_written : takes k ≡ 0 → (c : Command) → command k [] ≡ Some c → Written line 1 c
  plain_written none c made = written 1 [] letter (sym none) c made

  -- a command that takes a number or two, and the first is lacking
  pub first_stops : 0 < takes k → (e : ℕ) → NoneAt line 1 e → scanned line ≡ Err e
  first_stops some e r = stops_none line k is 1 [] letter e some r

  module _ (v at : ℕ) (r : NumberAt line 1 v at) where
    first : (u : List ℕ) × (digits_value 10 u ≡ v) × Walked line at (u ∷ [])
    first = walked_at line k is 1 [] letter v at r

    pub one_written : takes k ≡ 1 → (c : Command) → command k (v ∷ []) ≡ Some c → Written line at c
    one_written one c made = written at (first.0 ∷ []) first.2 (sym one) c (ap (λ n. command k (n ∷ [])) first.1 ∙ made)

    -- the second is lacking
    pub second_stops : 1 < takes k → (e : ℕ) → NoneAt line at e → scanned line ≡ Err e
    second_stops two e s = stops_none line k is at (first.0 ∷ []) first.2 e two s

    pub two_written : takes k ≡ 2 → (w to : ℕ) → NumberAt line at w to → (c : Command) → command k (v ∷ (w ∷ [])) ≡ Some c → Written line to c
    two_written two w to s c made =
        let second = walked_at line k is at (first.0 ∷ []) first.2 w to s in
        written to (first.0 ∷ (second.0 ∷ [])) second.2 (sym two) c (ap (λ n. command k (n ∷ (digits_value 10 second.0 ∷ []))) first.1 ∙ ap (λ n. command k (v ∷ (n ∷ []))) second.1 ∙ made)

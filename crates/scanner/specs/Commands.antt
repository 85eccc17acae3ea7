-- The commands that the lines of a script write.
use Rattle.std.specs.Prelude.{ℕ, Bool, true, cond, ◌&&◌, List, [], ◌∷◌, map, Some, None, Option, ◌==◌}
use Rattle.std.specs.Str.Parse.{digits_value}
use Rattle.text.specs.Lines.{onto}
use Rattle.text.specs.Numbers.{is_number}
use Rattle.scanner.specs.declared.command.Kind.{Kind}
use Rattle.scanner.specs.declared.command.Kind.TheVariants.{Make, Insert, InsertAt, Remove, Get, Replace, NextFreeKey, Len, List as Listing}
use Rattle.scanner.specs.declared.command.Command.{Command}
use Rattle.scanner.specs.declared.command.Command.TheVariants as writes

-- the letter of each kind of command: m, i, a, r, g, p, n, l, k
abbrev pub kind_of : ℕ → Option Kind
kind_of letter =
    cond (letter == 109) (Some Make)
    (cond (letter == 105) (Some Insert)
    (cond (letter == 97) (Some InsertAt)
    (cond (letter == 114) (Some Remove)
    (cond (letter == 103) (Some Get)
    (cond (letter == 112) (Some Replace)
    (cond (letter == 110) (Some NextFreeKey)
    (cond (letter == 108) (Some Len)
    (cond (letter == 107) (Some Listing) None))))))))

-- a command that takes no number, one number, two numbers
abbrev pub plain : Command → List ℕ → Option Command
plain c [] = Some c
plain c (n ∷ ns) = None

abbrev pub with_one : (ℕ → Command) → List ℕ → Option Command
with_one f [] = None
with_one f (n ∷ []) = Some (f n)
with_one f (n ∷ (m ∷ ns)) = None

abbrev pub with_two : (ℕ → ℕ → Command) → List ℕ → Option Command
with_two f [] = None
with_two f (n ∷ []) = None
with_two f (n ∷ (m ∷ [])) = Some (f n m)
with_two f (n ∷ (m ∷ (l ∷ ns))) = None

-- a kind of command with its numbers
abbrev pub command : Kind → List ℕ → Option Command
command Make ns = with_one writes.Make ns
command Insert ns = with_one writes.Insert ns
command InsertAt ns = with_two writes.InsertAt ns
command Remove ns = with_one writes.Remove ns
command Get ns = with_one writes.Get ns
command Replace ns = with_two writes.Replace ns
command NextFreeKey ns = plain writes.NextFreeKey ns
command Len ns = plain writes.Len ns
command Listing ns = plain writes.List ns

-- the words of a line, which are parted by single blanks, byte 32
abbrev pub words : List ℕ → List (List ℕ)
words [] = [] ∷ []
words (b ∷ bs) = cond (b == 32) ([] ∷ words bs) (onto b (words bs))

-- each of these words is a number: 1 to 10 digits, of value at most 4,294,967,295
abbrev pub all_numbers : List (List ℕ) → Bool
all_numbers [] = true
all_numbers (w ∷ ws) = is_number w && all_numbers ws

-- a kind of command, and words for its numbers
abbrev pub with_numbers : Option Kind → List (List ℕ) → Option Command
with_numbers None ws = None
with_numbers (Some k) ws = cond (all_numbers ws) (command k (map (digits_value 10) ws)) None

-- the command of a line: its first word is a command's letter, and the others are its numbers
abbrev pub of_words : List (List ℕ) → Option Command
of_words [] = None
of_words ([] ∷ ws) = None
of_words ((letter ∷ []) ∷ ws) = with_numbers (kind_of letter) ws
of_words ((letter ∷ (b ∷ bs)) ∷ ws) = None

abbrev pub command_of : List ℕ → Option Command
command_of line = of_words (words line)

-- What is printed of a text of numbers, one a line.
use Rattle.std.specs.Prelude.{ℕ, ◌+◌, cond, List, [], ◌∷◌, ◌++◌, is_some, string_bytes, codes, decimal}
use Rattle.std.specs.List.{flat_map}
use Rattle.std.specs.Option.{option_to_list}
use Rattle.containers.specs.Bounded.{latest}
use Rattle.text.specs.Lines.{lines}
use Rattle.text.specs.Numbers.{number_of}
use Rattle.recents.specs.declared.printed.Printed.{Printed}

-- the numbers that lines write, in order
abbrev pub numbers : List (List ℕ) → List ℕ
numbers ls = flat_map (λ line. option_to_list (number_of line)) ls

-- a number and the end of its line
abbrev pub number_line : ℕ → List ℕ
number_line n = decimal n ++ (10 ∷ [])

-- standard output: the last 64 numbers, oldest first, one a line
abbrev pub printed : List ℕ → List ℕ
printed text = flat_map number_line (latest 64 (numbers (lines text)))

-- what is said of the line at a place that writes no number
abbrev pub complaint : ℕ → List ℕ
complaint place = codes "line " ++ (decimal place ++ codes ": not a number\n")

-- what is said of the line at a place
abbrev pub complained : ℕ → List ℕ → List ℕ
complained place line = cond (is_some (number_of line)) [] (complaint place)

-- standard error: the complaints about lines, the first of which has this place
abbrev pub complaints : ℕ → List (List ℕ) → List ℕ
complaints place [] = []
complaints place (line ∷ rest) = complained place line ++ complaints (place + 1) rest

-- both, for a text
abbrev pub recent : List ℕ → List ℕ × List ℕ
recent text = (printed text, complaints 1 (lines text))

-- what the program's library answers, as bytes
abbrev pub said : Printed → List ℕ × List ℕ
said p = (string_bytes p.out, string_bytes p.err)

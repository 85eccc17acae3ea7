-- Which lines are legal, and how much of another line begins a legal one.
use Rattle.std.specs.Prelude.{◌≡◌, ℕ, zero, suc, ◌+◌, ◌<◌, ◌≤◌, Bool, true, false, cond, ◌&&◌, ◌||◌, List, [], ◌∷◌, ◌++◌, length, take, Some, None, Option, Result, ◌==◌}
use Rattle.std.specs.Option.{ok_or}
use Rattle.text.specs.Numbers.{is_number}
use Rattle.scanner.specs.declared.command.Kind.{Kind}
use Rattle.scanner.specs.declared.command.Kind.TheVariants.{Make, Insert, InsertAt, Remove, Get, Replace, NextFreeKey, Len, List as Listing}
use Rattle.scanner.specs.declared.command.Command.{Command}
use Rattle.scanner.specs.Commands.{kind_of, words, command_of}

-- a legal line writes a command
abbrev pub Legal : List ℕ → Type 0
Legal line = (c : Command) × (command_of line ≡ Some c)

-- n is the length of the longest beginning of the line that some legal line shares
pub record Shares (line : List ℕ) (n : ℕ) : Type 0 where
  pub within : n ≤ length line
  -- there is a legal line that begins so
  pub some : (tail : List ℕ) × Legal (take n line ++ tail)
  -- there is none that begins with one byte more of this line
  pub most : n < length line → (tail : List ℕ) → Legal (take (n + 1) line ++ tail) → ⊥

-- how many numbers a kind of command takes
abbrev pub takes : Kind → ℕ
takes Make = 1
takes Insert = 1
takes InsertAt = 2
takes Remove = 1
takes Get = 1
takes Replace = 2
takes NextFreeKey = 0
takes Len = 0
takes Listing = 0

-- these words begin n numbers: the last one may still lack digits
abbrev pub numbers_begin : ℕ → List (List ℕ) → Bool
numbers_begin n [] = true
numbers_begin zero (w ∷ ws) = false
numbers_begin (suc n) (w ∷ []) = is_number w || length w == 0
numbers_begin (suc n) (w ∷ (x ∷ ws)) = is_number w && numbers_begin n (x ∷ ws)

abbrev pub kind_begins : Option Kind → List (List ℕ) → Bool
kind_begins None ws = false
kind_begins (Some k) ws = numbers_begin (takes k) ws

-- these words begin a legal line
abbrev pub words_begin : List (List ℕ) → Bool
words_begin [] = true
words_begin ([] ∷ []) = true
words_begin ([] ∷ (w ∷ ws)) = false
words_begin ((letter ∷ []) ∷ ws) = kind_begins (kind_of letter) ws
words_begin ((letter ∷ (b ∷ bs)) ∷ ws) = false

-- the largest number up to n that passes a test, or 0
abbrev pub largest : (ℕ → Bool) → ℕ → ℕ
largest test zero = 0
largest test (suc n) = cond (test (suc n)) (suc n) (largest test n)

-- the length of the longest beginning of a line that begins a legal line
abbrev pub shared : List ℕ → ℕ
shared line = largest (λ n. words_begin (words (take n line))) (length line)

-- what is read of a line: its command, or else how much of it begins a legal line
abbrev pub scanned : List ℕ → Result Command ℕ
scanned line = ok_or (command_of line) (shared line)

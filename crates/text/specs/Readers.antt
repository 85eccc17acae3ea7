-- A text that is read line by line.
use Rattle.std.specs.Prelude.{◌≡◌, ℕ, List, length, Option, nat_lt}
use Rattle.std.specs.Bool.{then_some}
use Rattle.std.specs.Borrow.{Bor}
use Rattle.std.specs.Iterator.{YieldsFirstRef}
use Rattle.std.specs.Option.{option_map}
use Rattle.text.specs.declared.lines.LineReader.{LineReader}
use Rattle.text.specs.Lines.{lines, first_line, after_line}

-- the lines that a reader has left
abbrev pub lines_left : LineReader → List (List ℕ)
lines_left reader = lines reader.rest.now

-- what a call of `next` answers of the text that is left, and the reader after it
pub record ReadsLine (before : LineReader) (line : Option (Bor (List ℕ))) (after : LineReader) : Type 0 where
  -- the first of the lines that are left, or none where there is none
  pub lines : YieldsFirstRef lines_left before line after
  -- that is the first line, unless no byte is left
  pub value : option_map (λ x. x.now) line ≡ then_some (nat_lt 0 (length before.rest.now)) (first_line before.rest.now)
  -- what follows its end is left
  pub rest : after.rest.now ≡ after_line before.rest.now

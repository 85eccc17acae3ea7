-- The numbers that texts write.
use Rattle.std.specs.Prelude.{ℕ, Bool, ◌&&◌, List, length, Option, nat_le, nat_lt}
use Rattle.std.specs.Bool.{then_some}
use Rattle.std.specs.Str.Parse.{digits_value}
use Rattle.std.specs.Str.{all_ascii_digits}

-- 1 to 10 digits, of value at most 4,294,967,295
abbrev pub is_number : List ℕ → Bool
is_number line = (nat_lt 0 (length line) && nat_le (length line) 10) && (all_ascii_digits line && nat_le (digits_value 10 line) 4294967295)

-- the number that a text writes, if it writes one
abbrev pub number_of : List ℕ → Option ℕ
number_of line = then_some (is_number line) (digits_value 10 line)

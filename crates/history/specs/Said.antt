-- What is printed of an answer.
use Rattle.std.specs.Prelude.{ℕ, true, false, List, ◌++◌, Some, None, codes, decimal, Option}
use Rattle.history.specs.declared.calls.Answer.{Answer}
use Rattle.history.specs.declared.calls.Answer.TheVariants.{Done, Key, Value, Pair, Flag, Number}

-- a number, or `none`
abbrev pub number_or_none : Option ℕ → List ℕ
number_or_none None = codes "none"
number_or_none (Some n) = decimal n

-- a key and its value
abbrev pub pair_text : ℕ × ℕ → List ℕ
pair_text pair = decimal pair.0 ++ (codes "=" ++ decimal pair.1)

-- the words of an answer
abbrev pub said : Answer ℕ → List ℕ
said Done = codes "ok"
said (Key k) = number_or_none k
said (Value v) = number_or_none v
said (Pair None) = codes "none"
said (Pair (Some pair)) = pair_text pair
said (Flag true) = codes "yes"
said (Flag false) = codes "no"
said (Number n) = decimal n

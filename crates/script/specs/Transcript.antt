-- What is printed of a script, by the table's meaning.
use Rattle.std.specs.Prelude.{ℕ, ◌-◌, cond, List, [], ◌∷◌, ◌++◌, length, Ok, Err, codes, Result, nat_le}
use Rattle.std.specs.List.{range_with_len, flat_map}
use Rattle.std.specs.Option.{option_map, option_to_list}
use Rattle.refusal.specs.Told.{spelt}
use Rattle.refusal.specs.declared.Refusal.{Refusal}
use Rattle.refusal.specs.declared.Refusal.TheVariants.{PlanTooLarge, LineNotLegal}
use Rattle.model.specs.Tables.{Table, fresh}
use Rattle.history.specs.Calls.{answer_to, after}
use Rattle.history.specs.declared.calls.Call.TheVariants as call
use Rattle.history.specs.declared.calls.Answer.{Answer}
use Rattle.history.specs.Said.{pair_text, said}
use Rattle.text.specs.Lines.{lines}
use Rattle.scanner.specs.Legal.{scanned}
use Rattle.scanner.specs.declared.command.Command.{Command}
use Rattle.scanner.specs.declared.command.Command.TheVariants.{Make, Insert, InsertAt, Remove, Get, Replace, NextFreeKey, Len, List as Listing}

-- the words of an answer to a call, or of its refusal
abbrev pub call_said : Result (Answer ℕ) Refusal → List ℕ
call_said (Ok answer) = said answer
call_said (Err refusal) = spelt refusal

-- the holding keys from p on with their values, in rising order
abbrev pub pairs_from : Table ℕ → ℕ → List (ℕ × ℕ)
pairs_from t p = flat_map (λ k. option_to_list (option_map (λ v. (k, v)) (t.held k))) (range_with_len p (t.capacity - p))

-- pairs parted by blanks, or a dash
abbrev pub blank_pairs : List (ℕ × ℕ) → List ℕ
blank_pairs pairs = flat_map (λ pair. codes " " ++ pair_text pair) pairs

abbrev pub listed : List (ℕ × ℕ) → List ℕ
listed [] = codes "-"
listed (pair ∷ rest) = pair_text pair ++ blank_pairs rest

-- what a command prints: `m` makes a table of at most 64 keys, the others are calls of the table, and `k` lists it
abbrev pub said_by : Table ℕ → Command → List ℕ
said_by t (Make C) = cond (nat_le C 64) (codes "ok") (spelt PlanTooLarge)
said_by t (Insert v) = call_said (answer_to t (call.Insert v))
said_by t (InsertAt k v) = call_said (answer_to t (call.InsertAt k v))
said_by t (Remove k) = call_said (answer_to t (call.Remove k))
said_by t (Get k) = call_said (answer_to t (call.Get k))
said_by t (Replace k v) = call_said (answer_to t (call.Replace k v))
said_by t NextFreeKey = call_said (answer_to t call.NextFreeKey)
said_by t Len = call_said (answer_to t call.Len)
said_by t Listing = listed (pairs_from t 0)

-- and the table afterwards
abbrev pub table_after : Table ℕ → Command → Table ℕ
table_after t (Make C) = cond (nat_le C 64) (fresh C) t
table_after t (Insert v) = after t (call.Insert v)
table_after t (InsertAt k v) = after t (call.InsertAt k v)
table_after t (Remove k) = after t (call.Remove k)
table_after t (Get k) = t
table_after t (Replace k v) = after t (call.Replace k v)
table_after t NextFreeKey = t
table_after t Len = t
table_after t Listing = t

-- a line: the command that was read of it, or how much of it begins a legal line
abbrev pub line_said : Table ℕ → Result Command ℕ → List ℕ
line_said t (Ok c) = said_by t c
line_said t (Err n) = spelt (LineNotLegal n)

abbrev pub line_after : Table ℕ → Result Command ℕ → Table ℕ
line_after t (Ok c) = table_after t c
line_after t (Err n) = t

-- the lines that are printed of the lines of a script
abbrev pub printed : Table ℕ → List (List ℕ) → List ℕ
printed t [] = []
printed t (line ∷ rest) = (line_said t (scanned line) ++ (10 ∷ [])) ++ printed (line_after t (scanned line)) rest

-- what is printed of an input: at first the table has no keys; an input above 65,536 bytes is not read
abbrev pub transcript : List ℕ → List ℕ
transcript input = cond (nat_le (length input) 65536) (printed (fresh 0) (lines input)) (spelt (LineNotLegal 65536) ++ (10 ∷ []))

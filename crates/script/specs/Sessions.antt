-- The session of a script: the table that its last accepted `m` made, and the calls that this table got since then.
use Rattle.std.specs.Prelude.{◌≡◌, ℕ, ◌≤◌, cond, ◌⊎◌, List, [], ◌∷◌, ◌++◌, Some, None, Ok, Err, Option, Result, nat_le}
use Rattle.std.specs.List.{flat_map, AllByRecursion}
use Rattle.std.specs.Option.{option_and_then, option_to_list}
use Rattle.model.specs.Tables.{Table, fresh}
use Rattle.history.specs.Calls.{answer_to, answers_to, after_all}
use Rattle.history.specs.Histories.{Event}
use Rattle.history.specs.Promise.{calls, answers}
use Rattle.history.specs.declared.calls.Call.{Call}
use Rattle.history.specs.declared.calls.Call.TheVariants as call
use Rattle.scanner.specs.Commands.{command_of}
use Rattle.scanner.specs.declared.command.Command.{Command}
use Rattle.scanner.specs.declared.command.Command.TheVariants.{Make, Insert, InsertAt, Remove, Get, Replace, NextFreeKey, Len, List as Listing}

-- how many keys the table has, and its calls with their answers
pub record Session : Type 0 where
  pub capacity : ℕ
  pub history : List (Event ℕ)

-- a table of C keys that got no calls
abbrev pub begun : ℕ → Session
begun C = record { capacity = C; history = [] }

-- the table that a session leads to, by its meaning
abbrev pub table_of : Session → Table ℕ
table_of s = after_all (fresh s.capacity) (calls s.history)

-- one call more, with the answer of that table
abbrev pub with_call : Session → Call ℕ → Session
with_call s c = record { capacity = s.capacity; history = s.history ++ ((record { call = c; answer = answer_to (table_of s) c }) ∷ []) }

-- or none
abbrev pub with_call_if : Session → Option (Call ℕ) → Session
with_call_if s None = s
with_call_if s (Some c) = with_call s c

-- the call that a command is: `m` and `k` are none
abbrev pub call_of : Command → Option (Call ℕ)
call_of (Make C) = None
call_of (Insert v) = Some (call.Insert v)
call_of (InsertAt k v) = Some (call.InsertAt k v)
call_of (Remove k) = Some (call.Remove k)
call_of (Get k) = Some (call.Get k)
call_of (Replace k v) = Some (call.Replace k v)
call_of NextFreeKey = Some call.NextFreeKey
call_of Len = Some call.Len
call_of Listing = None

-- the session after a command: an accepted `m` begins a new one, a call is one call more, and nothing else changes it
abbrev pub session_after : Session → Command → Session
session_after s (Make C) = cond (nat_le C 64) (begun C) s
session_after s c = with_call_if s (call_of c)

-- and after what was read of a line
abbrev pub session_read : Session → Result Command ℕ → Session
session_read s (Ok c) = session_after s c
session_read s (Err n) = s

-- a line is an accepted `m C`
abbrev pub Makes : List ℕ → ℕ → Type 0
Makes line C = (command_of line ≡ Some (Make C)) × (C ≤ 64)

-- none of these lines is an accepted `m`
abbrev pub NoneMakes : List (List ℕ) → Type 0
NoneMakes ls = AllByRecursion (λ line. (C : ℕ) → Makes line C → ⊥) ls

-- the call that a line is, if it is one
abbrev pub call_in : List ℕ → Option (Call ℕ)
call_in line = option_and_then call_of (command_of line)

-- the calls that lines are, in order
abbrev pub calls_in : List (List ℕ) → List (Call ℕ)
calls_in ls = flat_map (λ line. option_to_list (call_in line)) ls

-- rest are the lines after the last accepted `m`, which makes C keys; or all lines where there is no such `m`, and
-- C is 0
abbrev pub SinceMade : List (List ℕ) → ℕ → List (List ℕ) → Type 0
SinceMade ls C rest =
    NoneMakes rest
    × (((rest ≡ ls) × (C ≡ 0)) ⊎ ((earlier : List (List ℕ)) × (line : List ℕ) × (ls ≡ earlier ++ (line ∷ rest)) × Makes line C))

-- s is the session after the lines ls of a script
pub record IsSession (ls : List (List ℕ)) (s : Session) : Type 0 where
  pub rest : List (List ℕ)
  pub since : SinceMade ls s.capacity rest
  -- the calls are those of the lines since then
  pub called : calls s.history ≡ calls_in rest
  -- and each has the answer of the table by its meaning, which was fresh at first and got these calls
  pub answered : answers s.history ≡ answers_to (fresh s.capacity) (calls s.history)

-- The numbers that are read of a line, one after another.
use Rattle.std.specs.Prelude.{◌≡◌, ◌≢◌, ℕ, ◌+◌, ◌<◌, ◌≤◌, ◌⊎◌, true, false, List, length, drop, take, Some}
use Rattle.std.specs.List.{slice_get}
use Rattle.std.specs.Str.Parse.{digits_value}
use Rattle.text.specs.Numbers.{is_number}

-- the longest number that the text begins with has n digits and the value v
pub record Leads (text : List ℕ) (v n : ℕ) : Type 0 where
  pub within : n ≤ length text
  pub valued : v ≡ digits_value 10 (take n text)
  pub legal : is_number (take n text) ≡ true
  -- one byte more of this text is no number
  pub most : n < length text → is_number (take (n + 1) text) ≡ false

-- the text begins with no number
abbrev pub NoneLeads : List ℕ → Type 0
NoneLeads text = 0 < length text → is_number (take 1 text) ≡ false

-- from a place of the line on there is a blank, and v leads what follows it, up to another place
pub record NumberAt (line : List ℕ) (at v end : ℕ) : Type 0 where
  pub digits : ℕ
  pub blank : slice_get line at ≡ Some 32
  pub leads : Leads (drop (at + 1) line) v digits
  pub up_to : end ≡ at + (1 + digits)

-- there is none, and a line with a number there goes on as this one does up to end
abbrev pub NoneAt : List ℕ → ℕ → ℕ → Type 0
NoneAt line at end =
    ((slice_get line at ≢ Some 32) × (end ≡ at)) ⊎ ((slice_get line at ≡ Some 32) × NoneLeads (drop (at + 1) line) × (end ≡ at + 1))

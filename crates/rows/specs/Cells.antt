-- What the calls of a row answer, by its cells.
use Rattle.std.specs.Prelude.{ℕ, ◌+◌, cond, List, length, take, drop, Ok, Err, Result, nat_lt}
use Rattle.std.specs.List.{slice_get}
use Rattle.std.specs.Option.{ok_or}
use Rattle.refusal.specs.declared.Refusal.{Refusal}
use Rattle.refusal.specs.declared.Refusal.TheVariants.{NoPlace}

-- a read answers the cell at the place, or that there is no such place
abbrev pub read_at : {T : Type 0} → List T → ℕ → Result T Refusal
read_at xs place = ok_or (slice_get xs place) NoPlace

-- a write answers whether there is such a place
abbrev pub write_at : {T : Type 0} → List T → ℕ → Result (Unit {0}) Refusal
write_at xs place = cond (nat_lt place (length xs)) (Ok tt) (Err NoPlace)

-- the cells from a place on, at most so many
abbrev pub window : {T : Type 0} → ℕ → ℕ → List T → List T
window from most xs = take most (drop from xs)

-- what a window leaves alone: the outside of the row below, the bounds, and the cells before and behind
abbrev pub Around : Type 0 → Type 0 → Type 0
Around O T = O × ℕ × ℕ × List T × List T

-- of a window over cells xs, over an outside o
abbrev pub around : {O T : Type 0} → O → ℕ → ℕ → List T → Around O T
around o from most xs = (o, from, most, take from xs, drop (from + most) xs)

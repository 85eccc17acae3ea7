-- Little-endian numbers.
use Rattle.std.specs.Prelude.{ℕ, zero, suc, ◌+◌, ◌*◌, ◌/◌, ◌%◌, List, [], ◌∷◌, slice_index}

-- a number in n bytes, the least first
abbrev pub little_bytes : ℕ → ℕ → List ℕ
little_bytes zero x = []
little_bytes (suc n) x = x % 256 ∷ little_bytes n (x / 256)

-- the number in the n bytes from a place on, the least first
abbrev pub little_at : ℕ → List ℕ → ℕ → ℕ
little_at zero string place = 0
little_at (suc n) string place = slice_index string place + 256 * little_at n string (place + 1)

-- Cells of a coded kind, packed into bytes.
use Rattle.std.specs.Prelude.{ℕ, ◌*◌, ◌/◌, List, map, length, drop}
use Rattle.std.specs.List.{range_with_len}
use Rattle.rows.specs.Cells.{window}

-- the items in the whole groups of w bytes
abbrev pub packed : {K : Type 0} → ℕ → (List ℕ → K) → List ℕ → List K
packed w item bytes = map (λ i. item (window (i * w) w bytes)) (range_with_len 0 (length bytes / w))

-- what a packed row leaves alone: the outside of the row below, and the bytes past the last whole group
abbrev pub Behind : Type 0 → Type 0
Behind O = O × List ℕ

-- of cells of width w, over an outside o
abbrev pub behind : {O : Type 0} → O → ℕ → List ℕ → Behind O
behind o w bytes = (o, drop (length bytes / w * w) bytes)

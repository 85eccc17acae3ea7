-- What a call leaves alone that only reads a row.
use Rattle.std.specs.Prelude.{◌≡◌}
use Rattle.rows.specs.declared.row.Row.{Ghosts}

-- a row that was a and is b has the same cells, the same around them, and is stored as it was
abbrev pub Kept : {R T : Type 0} → Ghosts R T → R → R → Type 0
Kept row a b = (row.cells b ≡ row.cells a) × (row.outside b ≡ row.outside a) × (row.stored b ≡ row.stored a)

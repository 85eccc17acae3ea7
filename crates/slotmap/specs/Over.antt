-- The four rows that a table is made over, as it finds them.
use Rattle.std.specs.Prelude.{ℕ}
use Rattle.rows.specs.declared.cell.FreeListEntry.{FreeListEntry}
use Rattle.rows.specs.declared.row.Row.{Ghosts}
use Rattle.model.specs.Fresh.{size_over, bare, fresh_layout}
use Rattle.model.specs.Layouts.{Layout}
use Rattle.slotmap.specs.declared.table.Rows.{Rows}

-- how many keys a table over these rows has, where so many are asked for
abbrev pub keys_over : {X L D Q V : Type 0} → Ghosts X ℕ → Ghosts L FreeListEntry → Ghosts D V → Ghosts Q ℕ → ℕ → Rows X L D Q → ℕ
keys_over X L D Q asked rows = size_over asked (X.cells rows.index) (L.cells rows.links) (D.cells rows.values) (Q.cells rows.slots)

-- the rows as they are given
abbrev pub bare_over : {X L D Q V : Type 0} → Ghosts X ℕ → Ghosts L FreeListEntry → Ghosts D V → Ghosts Q ℕ → ℕ → Rows X L D Q → Layout V
bare_over X L D Q asked rows =
    bare (keys_over X L D Q asked rows) (X.cells rows.index) (L.cells rows.links) (D.cells rows.values) (Q.cells rows.slots)

-- the cells of the fresh table
abbrev pub fresh_over : {X L D Q V : Type 0} → Ghosts X ℕ → Ghosts L FreeListEntry → Ghosts D V → Ghosts Q ℕ → ℕ → Rows X L D Q → Layout V
fresh_over X L D Q asked rows =
    fresh_layout (keys_over X L D Q asked rows) (X.cells rows.index) (L.cells rows.links) (D.cells rows.values) (Q.cells rows.slots)

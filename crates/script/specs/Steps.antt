-- A step of the code that carries out a script.
use Rattle.std.specs.Prelude.{◌≡◌, ℕ, List, ◌++◌, Result, OnOk, string_bytes}
use Rattle.std.specs.declared.alloc.AllocError.{AllocError}
use Rattle.model.specs.Layouts.{Layout}
use Rattle.model.specs.Tables.{Table}
use Rattle.rows.specs.declared.cell.FreeListEntry.{FreeListEntry}
use Rattle.rows.specs.declared.inline.InlineRow.{InlineRow}
use Rattle.slotmap.specs.Laid.{laid}
use Rattle.slotmap.specs.declared.table.MetaSlotMap.{MetaSlotMap}
use Rattle.history.specs.Promise.{Reached}
use Rattle.script.specs.Sessions.{Session, table_of}
use Rattle.script.specs.declared.commands.Script.{Script}

-- the promise holds of the cells l, after the history of a session
abbrev pub Promised : Session → Layout ℕ → Type 0
Promised s l = Reached s.capacity s.history l

-- A step of a script, whose table has the cells that `layout` gives and was reached in a session: where memory did not
-- fail, it prints what is said of the table that the session leads to, and the promise holds of the next session.
abbrev pub Does : {T : Type 0} → (T → Layout ℕ) → Script T → Result (Unit {0}) AllocError → Script T → (Table ℕ → List ℕ) → (Session → Session) → Type 0
Does layout old r new text next =
    (s : Session) → Promised s (layout old.table) → OnOk r ((string_bytes new.out ≡ string_bytes old.out ++ text (table_of s)) × Promised (next s) (layout new.table))

-- the cells and registers of a script's table
abbrev pub keys_layout : MetaSlotMap (InlineRow ℕ) (InlineRow FreeListEntry) (InlineRow ℕ) (InlineRow ℕ) ℕ → Layout ℕ
keys_layout t = laid (λ r. r.cells) (λ r. r.cells) (λ r. r.cells) (λ r. r.cells) t

-- The cells and registers of a table, as one layout.
use Rattle.std.specs.Prelude.{ℕ, List}
use Rattle.rows.specs.declared.cell.FreeListEntry.{FreeListEntry}
use Rattle.containers.specs.Queues.{queue}
use Rattle.model.specs.Layouts.{Layout}
use Rattle.slotmap.specs.declared.table.MetaSlotMap.{MetaSlotMap}

-- the layout of a table over rows whose cells are known
abbrev pub laid : {X L D Q V : Type 0} → (X → List ℕ) → (L → List FreeListEntry) → (D → List V) → (Q → List ℕ) → MetaSlotMap X L D Q V → Layout V
laid index links values slots t =
    record {
      head = t.idx_to_data_free_list_head;
      len = t.len;
      index = index t.idx_to_data;
      links = links t.idx_to_data_free_list;
      values = values t.«data»;
      slots = queue slots t.data_next_free_index;
    }

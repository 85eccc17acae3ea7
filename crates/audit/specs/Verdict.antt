-- What the audit answers of the cells and registers that it is told.
use Rattle.std.specs.Prelude.{◌≡◌, ℕ, ◌⊎◌, List, Ok, Err, Result}
use Rattle.refusal.specs.declared.Refusal.{Refusal}
use Rattle.refusal.specs.declared.Refusal.TheVariants.{AuditFailed}
use Rattle.rows.specs.declared.cell.FreeListEntry.{FreeListEntry}
use Rattle.containers.specs.Queues.{QueueState}
use Rattle.model.specs.Layouts.{Layout}
use Rattle.model.specs.Sound.{Stands}
use Rattle.audit.specs.declared.registers.Registers.{Registers}

-- the queue of the slots that wait
abbrev pub queue_of : Registers → List ℕ → QueueState ℕ
queue_of r slots = record { capacity = r.capacity; start = r.start; len = r.waiting; cells = slots }

-- the registers, and the cells of the four rows, as one layout
abbrev pub layout_of : {V : Type 0} → Registers → List ℕ → List FreeListEntry → List V → List ℕ → Layout V
layout_of r index links values slots =
    record {
      head = r.head;
      len = r.len;
      index = index;
      links = links;
      values = values;
      slots = queue_of r slots;
    }

-- accepted where the cells stand, and refused as cells that fail the audit where they do not
abbrev pub Verdict : {V : Type 0} → Result (Unit {0}) Refusal → Layout V → Type 0
Verdict r l = ((r ≡ Ok tt) × Stands l) ⊎ ((r ≡ Err AuditFailed) × (Stands l → ⊥))

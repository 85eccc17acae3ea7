use Rattle.std.proofs.Common.{◌≤◌}
use Rattle.audit.specs.Parts.{ring, Marked}
use Rattle.rows.specs.Kept.{Kept}
use Rattle.audit.proofs.slots.mark_slots.Given as goal

abbrev pub invariant-loop-i : goal.invariant-loop-i
invariant-loop-i g l =
    Marked l.initial.marks l.marks l.capacity (ring (g.R.Row.cells l.initial.row) l.capacity l.first) l.i l.marked
    × Kept g.R.Row l.initial.row l.row
    × (l.marked ≤ l.i)

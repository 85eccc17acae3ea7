use Rattle.std.proofs.Common.{arith}
use Rattle.audit.proofs.Marks.{marked_stuck}
use Rattle.audit.proofs.slots.mark_slots.Goals as goal
use Rattle.audit.proofs.slots.mark_slots.Goals.{then-slot-capacity-via-then-slot-capacity, then-slot-capacity-via-else-slot-capacity+then-marks-slot}

pub returns-then-slot-capacity-clause-value : goal.returns-then-slot-capacity-clause-value
returns-then-slot-capacity-clause-value g c =
    marked_stuck c.cell_or-slot.result c.loop-i.invariant.0 (cc) c.loop-i-test.true c.if-slot.false
    (elim c.then-slot-capacity.branch [
      | then-slot-capacity-via-then-slot-capacity w ↦ λ b. absurd (omega (arith, b, w.if-slot-capacity.true))
      | then-slot-capacity-via-else-slot-capacity+then-marks-slot w ↦ λ b. w.if-marks-slot.true
    ])

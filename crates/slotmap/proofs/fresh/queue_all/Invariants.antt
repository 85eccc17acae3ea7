use Rattle.std.proofs.Common.{◌≡◌}
use Rattle.containers.specs.Queues.{queue}
use Rattle.model.specs.Fresh.{slots_to}
use Rattle.slotmap.proofs.fresh.queue_all.Given as goal

abbrev pub invariant-loop-slot : goal.invariant-loop-slot
invariant-loop-slot g l =
    let q₀ = l.initial.queue in
    (queue g.Q.Row.cells l.queue ≡ slots_to q₀.position.capacity l.slot (g.Q.Row.cells q₀.row))
    × (g.Q.Row.outside l.queue.row ≡ g.Q.Row.outside q₀.row)

use Rattle.std.proofs.Common.{◌≡◌, ◌-◌}
use Rattle.model.specs.Layouts.{nil}
use Rattle.rows.specs.Kept.{Kept}
use Rattle.audit.proofs.Walks.{walk}
use Rattle.audit.proofs.keys.free_list_stands.Given as goal

abbrev pub invariant-loop : goal.invariant-loop
invariant-loop g l =
    (walk (g.X.Row.cells l.initial.index) (g.L.Row.cells l.initial.links) l.registers.capacity (l.registers.waiting - l.counter) l.previous l.key
    ≡ walk (g.X.Row.cells l.initial.index) (g.L.Row.cells l.initial.links) l.registers.capacity l.registers.waiting nil l.registers.head)
    × Kept g.X.Row l.initial.index l.index
    × Kept g.L.Row l.initial.links l.links

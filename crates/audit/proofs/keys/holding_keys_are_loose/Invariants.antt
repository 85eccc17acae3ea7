use Rattle.audit.specs.Parts.{Loose}
use Rattle.rows.specs.Kept.{Kept}
use Rattle.audit.proofs.keys.holding_keys_are_loose.Given as goal

abbrev pub invariant-loop-key : goal.invariant-loop-key
invariant-loop-key g l =
    Loose (g.X.Row.cells l.initial.index) (g.L.Row.cells l.initial.links) l.key
    × Kept g.X.Row l.initial.index l.index
    × Kept g.L.Row l.initial.links l.links

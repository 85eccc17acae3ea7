use Rattle.std.proofs.Common.{◌≡◌}
use Rattle.model.specs.Checks.{step_cells}
use Rattle.slotmap.proofs.slotmap.AnySlotMap.next_available_key_after.Given as goal

abbrev pub invariant-loop-key : goal.invariant-loop-key
invariant-loop-key g l =
    (g.T.Steps.layout l.self ≡ g.T.Steps.layout l.initial.self)
    × (g.T.Steps.stored l.self ≡ g.T.Steps.stored l.initial.self)
    × (g.T.Steps.outside l.self ≡ g.T.Steps.outside l.initial.self)
    × (step_cells (g.T.Steps.layout l.initial.self) l.start ≡ step_cells (g.T.Steps.layout l.initial.self) l.key)

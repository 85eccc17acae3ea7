use Rattle.std.proofs.Common.{◌≡◌, ◌++◌, take, drop}
use Rattle.model.specs.Layouts.{capacity, SameBeyond}
use Rattle.history.specs.Calls.{cells_answers, cells_after_all}
use Rattle.history.proofs.Running.{Quiet}
use Rattle.play.proofs.performing.run.Given as goal

abbrev pub invariant-loop-i : goal.invariant-loop-i
invariant-loop-i g l =
    let o = g.T.SlotMap.layout l.initial.table in
    record {
      after : g.T.SlotMap.layout l.table ≡ cells_after_all o (take l.i l.calls);
      answered : l.answers ≡ cells_answers o (take l.i l.calls) ++ drop l.i l.initial.answers;
      sized : capacity (g.T.SlotMap.layout l.table) ≡ capacity o;
      beyond : SameBeyond o (g.T.SlotMap.layout l.table);
      kept : Quiet o (take l.i l.calls) → g.T.SlotMap.stored l.table ≡ g.T.SlotMap.stored l.initial.table;
      beside : g.T.SlotMap.outside l.table ≡ g.T.SlotMap.outside l.initial.table;
    }

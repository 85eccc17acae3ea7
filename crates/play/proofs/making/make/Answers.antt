use Rattle.std.proofs.Common.{ap, ◌∙◌, rules}
use Rattle.history.proofs.Idle.{idle_insert, idle_insert_at, idle_remove, idle_replace}
use Rattle.play.proofs.making.make.Goals as goal
use Rattle.play.proofs.making.make.Goals.{in-Insert+in_ok-insert-in-Insert, in-InsertAt+in_ok-insert_at-in-InsertAt, in-Remove+in_ok-remove-in-Remove, in-Replace+in_ok-replace-in-Replace, in-Get+in_ok-get-in-Get, in-Contains+in_ok-contains-in-Contains, in-NextFreeKey, in-Len, in-Capacity, in-IsEmpty, in-IsFull, in-Step}

pub returns-clause-kept : goal.returns-clause-kept
returns-clause-kept g c idle =
    let stored = g.T.SlotMap.stored in
    let call = c.args.call in
    let answer = c.match-call.result in
    elim c.match-call.branch [
      | in-Insert+in_ok-insert-in-Insert w ↦ ap stored w.table-is ∙ w.insert.ensures.kept (idle_insert call answer _ _ _ w.in-Insert.is w.in_ok-insert-in-Insert.was w.result-is idle)
      | in-InsertAt+in_ok-insert_at-in-InsertAt w ↦ ap stored w.table-is ∙ w.insert_at.ensures.kept (idle_insert_at call answer _ _ _ w.in-InsertAt.is w.result-is idle)
      | in-Remove+in_ok-remove-in-Remove w ↦ ap stored w.table-is ∙ w.remove.ensures.kept (idle_remove call answer _ _ _ w.in-Remove.is w.in_ok-remove-in-Remove.was w.result-is idle)
      | in-Replace+in_ok-replace-in-Replace w ↦ ap stored w.table-is ∙ w.replace.ensures.kept (idle_replace call answer _ _ _ _ w.in-Replace.is w.in_ok-replace-in-Replace.was w.result-is idle)
      | in-Get+in_ok-get-in-Get w ↦ search rules
      | in-Contains+in_ok-contains-in-Contains w ↦ search rules
      | in-NextFreeKey w ↦ search rules
      | in-Len w ↦ search rules
      | in-Capacity w ↦ search rules
      | in-IsEmpty w ↦ search rules
      | in-IsFull w ↦ search rules
      | in-Step w ↦ search rules
    ]

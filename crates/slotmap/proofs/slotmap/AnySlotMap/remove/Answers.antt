use Rattle.std.proofs.Common.{rules}
use Rattle.model.proofs.Calls.{remove_follows}
use Rattle.slotmap.proofs.Slots.{remove_steps}
use Rattle.slotmap.proofs.slotmap.AnySlotMap.remove.Goals as goal

pub returns-in_err-slot-clause-means : goal.returns-in_err-slot-clause-means
returns-in_err-slot-clause-means g c = remove_follows _ _ c.args.key _ (search rules) (search rules)

pub returns-in_default-clause-means : goal.returns-in_default-clause-means
returns-in_default-clause-means g c = remove_follows _ _ c.args.key _ (search rules) (search rules)

pub returns-in_err-value-clause-means : goal.returns-in_err-value-clause-means
returns-in_err-value-clause-means g c = remove_follows _ _ c.args.key _ (search rules) (search rules)

pub returns-in_err-vacate-clause-means : goal.returns-in_err-vacate-clause-means
returns-in_err-vacate-clause-means g c = remove_follows _ _ c.args.key _ (search rules) (search rules)

pub returns-clause-means : goal.returns-clause-means
returns-clause-means g c =
    remove_follows _ _ c.args.key _ (search rules)
    (remove_steps _ _ _ _ c.args.key c.in-Some.slot c.in_ok-value.value c.in_ok-slot.field-0
    c.in_ok-slot.ensures.value c.in-Some.is c.in_ok-slot.ensures.same
    c.in_ok-value.ensures.value c.in_ok-value.ensures.same
    c.in_ok-vacate.ensures.value c.in_ok-vacate.ensures.after).1

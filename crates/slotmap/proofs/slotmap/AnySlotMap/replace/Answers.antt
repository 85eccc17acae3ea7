use Rattle.std.proofs.Common.{rules}
use Rattle.model.proofs.Calls.{replace_follows}
use Rattle.slotmap.proofs.Slots.{replace_steps}
use Rattle.slotmap.proofs.slotmap.AnySlotMap.replace.Goals as goal

pub returns-in_err-slot-clause-means : goal.returns-in_err-slot-clause-means
returns-in_err-slot-clause-means g c = replace_follows _ _ c.args.key c.args.value _ (search rules) (search rules)

pub returns-in_default-clause-means : goal.returns-in_default-clause-means
returns-in_default-clause-means g c = replace_follows _ _ c.args.key c.args.value _ (search rules) (search rules)

pub returns-in_err-old-clause-means : goal.returns-in_err-old-clause-means
returns-in_err-old-clause-means g c = replace_follows _ _ c.args.key c.args.value _ (search rules) (search rules)

pub returns-clause-means : goal.returns-clause-means
returns-clause-means g c =
    replace_follows _ _ c.args.key c.args.value _ (search rules)
    (replace_steps _ _ _ _ c.args.key c.in-Some.slot c.args.value c.in_ok-old.old c.in_ok-slot.field-0 c.overwrite.result
    c.in_ok-slot.ensures.value c.in-Some.is c.in_ok-slot.ensures.same
    c.in_ok-old.ensures.value c.in_ok-old.ensures.same
    c.overwrite.ensures.value c.overwrite.ensures.after).1

use Rattle.model.proofs.Fills.{fill_steps}
use Rattle.slotmap.proofs.slotmap.fill.Goals as goal

pub returns-clause-after : goal.returns-clause-after
returns-clause-after g c =
    (fill_steps _ _ _ _ c.args.key c.args.value c.in_ok-entry.entry
    c.in_ok-entry.ensures.value c.in_ok-entry.ensures.same
    c.in_ok-store_value.ensures.value c.in_ok-store_value.ensures.after
    c.claim_index.ensures.after).1

use Rattle.std.proofs.Common.{length, refl, ap, arith, rules}
use Rattle.model.proofs.Fresh.{fresh_laid, fresh_least, fresh_beyond}
use Rattle.model.specs.Fresh.{fresh_link}
use Rattle.model.specs.Layouts.{nil}
use Rattle.history.proofs.Reached.{reached_fresh}
use Rattle.slotmap.proofs.plan.Plan.init.Goals as goal

pub returns-clause-cells : goal.returns-clause-cells
returns-clause-cells g c =
    let over = c.capacity_over-capacity.ensures in
    let long = ap length over.slots.0 in
    fresh_laid c.capacity_over-capacity.result _ c.first_key.result _ _ _ _ _ _ _ _ _ _ _ _ _
    over.value over.index.0 (c.write_all.ensures.after (λ _. nil) (λ k x post. search rules)) over.links.0 (c.write_all-2.ensures.after (fresh_link c.capacity_over-capacity.result) (λ k x post. search rules)) over.values.0 c.first_key.ensures
    (omega (arith, over.value)) refl over.slots.0 c.queue_all.ensures.after

pub returns-clause-means : goal.returns-clause-means
returns-clause-means g c = fresh_least c.args.self.capacity _ _ _ _ _ (returns-clause-cells g c)

pub returns-clause-reached : goal.returns-clause-reached
returns-clause-reached g c = reached_fresh _ _ (returns-clause-means g c)

pub returns-clause-beyond : goal.returns-clause-beyond
returns-clause-beyond g c = fresh_beyond _ _ _ _ _ _ (returns-clause-cells g c)

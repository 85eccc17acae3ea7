use Rattle.std.proofs.Common.{rules}
use Rattle.model.proofs.Beyond.{insert_at_beyond}
use Rattle.model.proofs.Calls.{insert_at_follows}
use Rattle.slotmap.proofs.slotmap.AnySlotMap.insert_at.Goals as goal

pub returns-in_err-slot-clause-means : goal.returns-in_err-slot-clause-means
returns-in_err-slot-clause-means g c = insert_at_follows _ _ c.args.key c.args.value _ (search rules) (search rules)

pub returns-in-Some-clause-means : goal.returns-in-Some-clause-means
returns-in-Some-clause-means g c = insert_at_follows _ _ c.args.key c.args.value _ (search rules) (search rules)

pub returns-in-None-clause-beyond : goal.returns-in-None-clause-beyond
returns-in-None-clause-beyond g c = insert_at_beyond (g.T.Steps.layout c.args.self.now) c.args.key c.args.value c.fill.result (g.T.Steps.layout c.fill.new.table) (search rules) (search rules)

pub returns-in-None-clause-means : goal.returns-in-None-clause-means
returns-in-None-clause-means g c = insert_at_follows _ _ c.args.key c.args.value _ (search rules) (search rules)

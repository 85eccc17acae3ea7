use Rattle.std.proofs.Common.{rules, Some, Ok}
use Rattle.model.proofs.Beyond.{insert_beyond}
use Rattle.model.proofs.Calls.{insert_follows}
use Rattle.slotmap.proofs.slotmap.AnySlotMap.insert.Goals as goal

pub returns-in_default-clause-means : goal.returns-in_default-clause-means
returns-in_default-clause-means g c = insert_follows _ _ c.args.value _ (search rules) (search rules)

pub returns-in_err-fill-clause-means : goal.returns-in_err-fill-clause-means
returns-in_err-fill-clause-means g c = insert_follows _ _ c.args.value _ (search rules) (search rules)

pub returns-clause-beyond : goal.returns-clause-beyond
returns-clause-beyond g c = insert_beyond (g.T.Steps.layout c.args.self.now) c.args.value (Ok (Some c.in-Some.key)) (g.T.Steps.layout c.fill.new.table) (search rules) (search rules)

pub returns-clause-means : goal.returns-clause-means
returns-clause-means g c = insert_follows _ _ c.args.value _ (search rules) (search rules)

use Rattle.std.proofs.Common.{rules}
use Rattle.model.specs.Tables.{contains_answer}
use Rattle.model.proofs.Calls.{read_follows}
use Rattle.model.proofs.Readers.{contains_answers}
use Rattle.slotmap.proofs.slotmap.AnySlotMap.contains.Goals as goal

pub returns-in_err-slot-clause-means : goal.returns-in_err-slot-clause-means
returns-in_err-slot-clause-means g c =
    let l = g.T.Steps.layout c.args.self.now in
    read_follows l _ _ _ (λ t. contains_answer t c.args.key) (λ t h. contains_answers l t h c.args.key) (search rules) (search rules)

pub returns-clause-means : goal.returns-clause-means
returns-clause-means g c =
    let l = g.T.Steps.layout c.args.self.now in
    read_follows l _ _ _ (λ t. contains_answer t c.args.key) (λ t h. contains_answers l t h c.args.key) (search rules) (search rules)

use Rattle.std.proofs.Common.{◌∙◌}
use Rattle.model.proofs.Readers.{len_answers}
use Rattle.slotmap.proofs.slotmap.AnySlotMap.len.Goals as goal

pub returns-clause-means : goal.returns-clause-means
returns-clause-means g c t h = c.len_impl.ensures ∙ len_answers (g.T.Steps.layout c.args.self.now) t h

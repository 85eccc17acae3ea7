use Rattle.std.proofs.Common.{◌∙◌}
use Rattle.model.proofs.Readers.{head_answers}
use Rattle.slotmap.proofs.slotmap.AnySlotMap.next_free_key.Goals as goal

pub returns-clause-means : goal.returns-clause-means
returns-clause-means g c t h = c.acquire_next_free_index.ensures ∙ head_answers (g.T.Steps.layout c.args.self.now) t h

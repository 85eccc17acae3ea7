use Rattle.model.proofs.Refines.{filled_means, overwritten_means, emptied_means}
use Rattle.model.proofs.steps_refine.Goals as goal

pub returns-clause-refine : goal.returns-clause-refine
returns-clause-refine g c l t h k b = (λ v e. filled_means l t h k v b e, λ v e. overwritten_means l t h k v b e, λ e. emptied_means l t h k b e)

use Rattle.std.proofs.Common.{sym, ap, ◌∙◌, subst}
use Rattle.containers.specs.Queues.{queue, Backed}
use Rattle.containers.proofs.Rounds.{length_contents}
use Rattle.containers.proofs.queue.MetaQueue.len.Goals as goal

pub returns-clause-means : goal.returns-clause-means
returns-clause-means g c =
    let s = c.args.self.now in
    let backed = subst (λ v. Backed (queue g.R.Row.cells v)) c.self.view_is c.self.invariant in
    ap (λ v. v.position.len) c.self.view_is ∙ sym (length_contents (queue g.R.Row.cells s) s.position.within backed)

use Rattle.std.proofs.Common.{rules, ◌<◌, ap, arith, subst}
use Rattle.containers.specs.Queues.{queue, Backed}
use Rattle.containers.proofs.Rounds.{contents_pushed, length_contents}
use Rattle.containers.proofs.queue.MetaQueue.push.Goals as goal

pub returns-clause-means : goal.returns-clause-means
returns-clause-means g c =
    let s = c.args.self.now in
    let q = queue g.R.Row.cells s in
    let backed = subst (λ v. Backed (queue g.R.Row.cells v)) c.self.view_is c.self.invariant in
    let room : q.len < q.capacity = omega (arith, ap (λ v. v.position.len) c.self.view_is, ap (λ v. v.position.capacity) c.self.view_is) in
    let held = contents_pushed q s.position.begins s.position.within backed c.args.value room in
    let sized = length_contents q s.position.within backed in
    search rules

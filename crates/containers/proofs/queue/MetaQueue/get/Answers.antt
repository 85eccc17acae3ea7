use Rattle.std.proofs.Common.{arith, rules}
use Rattle.containers.specs.Queues.{queue, contents}
use Rattle.containers.proofs.Rounds.{length_contents, nth_contents, nth_some}
use Rattle.containers.proofs.queue.MetaQueue.get.Goals as goal

pub returns-then-index-len-clause-means : goal.returns-then-index-len-clause-means
returns-then-index-len-clause-means g c =
    let s = c.args.self.now in
    let q = queue g.R.Row.cells s in
    let sized = length_contents q s.position.within c.len.ensures.backed in
    let held = nth_contents q s.position.within c.len.ensures.backed c.args.index (omega (arith, c.if-index-len.true)) in
    let some = nth_some (contents q) c.args.index (omega (arith, sized, c.if-index-len.true)) in
    search rules

use Rattle.std.proofs.Common.{rules}
use Rattle.containers.specs.Queues.{queue}
use Rattle.containers.proofs.Rounds.{contents_popped}
use Rattle.containers.proofs.queue.MetaQueue.pop.Goals as goal

pub returns-clause-means : goal.returns-clause-means
returns-clause-means g c =
    let s = c.peek-oldest.new.self in
    let held = contents_popped (queue g.R.Row.cells s) s.position.begins s.position.within c.peek-oldest.ensures.means.backed in
    search rules

use Rattle.std.proofs.Common.{rules}
use Rattle.containers.specs.Queues.{queue}
use Rattle.containers.proofs.Overflows.{overflow_means}
use Rattle.containers.proofs.queue.MetaQueue.push_with_overflow.Goals as goal

pub returns-clause-value : goal.returns-clause-value
returns-clause-value g c = search rules

pub returns-clause-after : goal.returns-clause-after
returns-clause-after g c = search rules

pub returns-clause-means : goal.returns-clause-means
returns-clause-means g c =
    let p = c.args.self.now.position in
    overflow_means (queue g.R.Row.cells c.args.self.now) p.begins p.within c.len.ensures.backed c.args.value _ _ (returns-clause-value g c) (returns-clause-after g c)

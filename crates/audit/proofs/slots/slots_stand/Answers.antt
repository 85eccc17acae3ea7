use Rattle.audit.specs.Verdict.{queue_of}
use Rattle.audit.proofs.Audits.{shared_from, shared_keys, shared_queue}
use Rattle.audit.proofs.Calls.{when_like}
use Rattle.audit.proofs.slots.slots_stand.Goals as goal

pub returns-then-not-mark_slots-clause-value : goal.returns-then-not-mark_slots-clause-value
returns-then-not-mark_slots-clause-value g c h =
    let q = queue_of c.args.registers (g.Q.Row.cells c.args.slots.now) in
    c.if-not-mark_slots.ensures.value
    (shared_keys (g.X.Row.cells c.args.index.now) q c.args.registers.len c.requires.small c.requires.within c.requires.backed h)

pub returns-clause-value : goal.returns-clause-value
returns-clause-value g c =
    let xs = g.X.Row.cells c.args.index.now in
    let q = queue_of c.args.registers (g.Q.Row.cells c.args.slots.now) in
    let keys = c.if-not-mark_slots.ensures in
    when_like c.mark_slots-2.result
    (shared_from xs q c.args.registers.len c.requires.small c.requires.within c.requires.backed c.mark_slots.new.marks c.mark_slots-2.new.marks keys.value)
    (λ none h. none (shared_queue xs q c.args.registers.len c.requires.small c.requires.within c.requires.backed c.mark_slots.new.marks keys.value h))
    c.mark_slots-2.ensures.value

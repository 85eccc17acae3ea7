use Rattle.std.proofs.Common.{false, eqb, Some, None, ◌∙◌, arith, rules}
use Rattle.model.specs.Layouts.{nil}
use Rattle.audit.proofs.Walks.{walk_tells, walk_turn, walk_ends}
use Rattle.audit.proofs.keys.free_list_stands.Goals as goal

pub returns-in_default-clause-value : goal.returns-in_default-clause-value
returns-in_default-clause-value g c =
    let xs = g.X.Row.cells c.args.index.now in
    let ls = g.L.Row.cells c.args.links.now in
    let inv = c.loop.invariant in
    walk_tells xs ls c.args.registers.capacity c.args.registers.waiting c.args.registers.head false
    (walk_turn xs ls c.args.registers.capacity (g.X.Row.cells c.loop.index) (g.L.Row.cells c.loop.links) c.args.registers.waiting c.loop.counter c.loop.previous c.loop.key None
    (omega arith) inv.1.0 inv.2.0 c.in_default.ensures.value
    ∙ inv.0)

pub loop-preserved : goal.loop-preserved
loop-preserved g c =
    let xs = g.X.Row.cells c.args.index.now in
    let ls = g.L.Row.cells c.args.links.now in
    let inv = c.loop.invariant in (
      walk_turn xs ls c.args.registers.capacity (g.X.Row.cells c.loop.index) (g.L.Row.cells c.loop.links) c.args.registers.waiting c.loop.counter c.loop.previous c.loop.key (Some c.in-Some.next)
          (omega arith) inv.1.0 inv.2.0 c.in-Some.ensures.value
          ∙ inv.0,
      search rules,
      search rules,
    )

pub returns-clause-value : goal.returns-clause-value
returns-clause-value g c =
    let xs = g.X.Row.cells c.args.index.now in
    let ls = g.L.Row.cells c.args.links.now in
    walk_tells xs ls c.args.registers.capacity c.args.registers.waiting c.args.registers.head (eqb c.loop.key nil)
    (walk_ends xs ls c.args.registers.capacity c.args.registers.waiting c.loop.counter c.loop.previous c.loop.key (omega arith) ∙ c.loop.invariant.0)

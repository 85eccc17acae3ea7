use Rattle.std.proofs.Common.{length, sym, ap, ◌∙◌, ◌-◌}
use Rattle.image.proofs.Stops.{went_on, stopped, answered, Answers}
use Rattle.image.proofs.Uniqueness.{refused, one_reads}
use Rattle.image.proofs.Longest.{read_alike}
use Rattle.image.proofs.validity.validate.Goals as goal
use Rattle.image.proofs.validity.validate.Goals.{After-ok_or}

pub loop-preserved : goal.loop-preserved
loop-preserved c = went_on _ _ _ _ c.loop.invariant c.next.ensures.steps (sym c.is_some.ensures ∙ c.loop-test.true)

-- what holds where the walk stopped
answers : (c : After-ok_or) → Answers c.args.image.now c.ok_or.result
answers c =
    let stop = stopped _ _ _ _ c.loop.invariant c.next.ensures.steps (sym c.is_some.ensures ∙ c.loop-test.false) in
    answered _ _ _ _ _ _ stop.0 stop.1 c.header_at_end.ensures (ap (λ l. length c.args.image.now - length l) c.left.ensures) c.ok_or.ensures.value

pub returns-clause-accepted : goal.returns-clause-accepted
returns-clause-accepted c = (answers c).0

pub returns-clause-broken : goal.returns-clause-broken
returns-clause-broken c = (answers c).1

pub returns-clause-refused : goal.returns-clause-refused
returns-clause-refused c = refused _ _ (answers c)

pub returns-clause-one : goal.returns-clause-one
returns-clause-one c = one_reads c.args.image.now

pub returns-clause-longer : goal.returns-clause-longer
returns-clause-longer c r more = read_alike c.args.image.now more r

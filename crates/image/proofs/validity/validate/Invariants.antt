use Rattle.image.proofs.Stops.{Walked}
use Rattle.image.proofs.validity.validate.Given as goal

abbrev pub invariant-loop : goal.invariant-loop
invariant-loop l = Walked l.image l.records.stage l.records.left.now

use Rattle.std.proofs.Common.{◌+◌, sym, ◌∙◌, arith}
use Rattle.containers.proofs.Rounds.{wrap_below, wrap_past}
use Rattle.containers.proofs.position.Position.pushed.Goals as goal
use Rattle.containers.proofs.position.Position.pushed.Goals.{then-place-self, else-place-self}

pub returns-clause-start : goal.returns-clause-start
returns-clause-start c =
    elim c.if-place-self.branch [
      | then-place-self w ↦ w.start-is ∙ sym (wrap_below _ _ w.if-place-self.true)
      | else-place-self w ↦ omega (arith, w.start-is, wrap_past (c.args.self.start + 1) c.args.self.capacity w.if-place-self.false (omega arith))
    ]

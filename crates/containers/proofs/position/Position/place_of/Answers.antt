use Rattle.std.proofs.Common.{sym, arith}
use Rattle.containers.proofs.Rounds.{wrap_below, wrap_past}
use Rattle.containers.proofs.position.Position.place_of.Goals as goal

pub returns-then-place-self : goal.returns-then-place-self
returns-then-place-self c = record { value = sym (wrap_below _ _ c.if-place-self.true); bound = omega arith }

pub returns-else-place-self : goal.returns-else-place-self
returns-else-place-self c = record { value = sym (wrap_past _ _ c.if-place-self.false (omega arith)); bound = omega arith }

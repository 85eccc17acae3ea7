use Rattle.std.proofs.Common.{arith}
use Rattle.text.proofs.Splits.{length-lines}
use Rattle.text.proofs.lines.LineReader.new.Goals as goal

pub invariant_of-result : goal.invariant_of-result
invariant_of-result c = record { fits = omega (arith, length-lines c.args.text.now) }

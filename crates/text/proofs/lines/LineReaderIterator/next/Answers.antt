use Rattle.std.proofs.Common.{length, ap, arith, rules}
use Rattle.text.proofs.Splits.{lines_read}
use Rattle.text.proofs.lines.LineReaderIterator.next.Goals as goal

pub invariant_of-self : goal.invariant_of-self
invariant_of-self c =
    let fewer = ap length (lines_read c.args.self.now.rest.now _ _ (search rules) c.split_line.ensures.line c.split_line.ensures.rest) in
    record { fits = omega (arith, c.args.self.now.fits) }

pub returns-clause-steps : goal.returns-clause-steps
returns-clause-steps c = record {
  lines = lines_read c.args.self.now.rest.now _ _ (search rules) c.split_line.ensures.line c.split_line.ensures.rest;
  value = search rules;
  rest = search rules;
}

pub returns-clause-goes : goal.returns-clause-goes
returns-clause-goes c =
    let fewer = ap length (lines_read c.args.self.now.rest.now _ _ (search rules) c.split_line.ensures.line c.split_line.ensures.rest) in
    search rules

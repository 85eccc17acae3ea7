use Rattle.image.proofs.Readings.{none_held, first_held}
use Rattle.std.proofs.Common.{rules}
use Rattle.image.proofs.walk.RecordsIterator.next.Goals as goal

pub returns-in_err-record-clause-steps : goal.returns-in_err-record-clause-steps
returns-in_err-record-clause-steps c = record {
  comes = search (rules, c.in_err-record.ensures);
  first = λ ps held. search (rules, none_held _ _ ps (c.in_err-record.ensures.comes) held);
}

pub returns-clause-steps : goal.returns-clause-steps
returns-clause-steps c =
    let came = c.in_ok-record.ensures.comes in
    record {
      comes = came;
      first = λ ps held. first_held _ _ _ _ _ ps c.split.ensures.small came.0 came.1 held;
    }

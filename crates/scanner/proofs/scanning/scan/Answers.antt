use Rattle.std.proofs.Common.{◌≡◌, Some, None, Err, get_or, length, sym, refl, ap, ◌∙◌, arith}
use Rattle.std.proofs.lemmas.List.{nil_from_length}
use Rattle.scanner.specs.Commands.{kind_of}
use Rattle.scanner.specs.declared.command.Kind.TheVariants.{Make, Insert, InsertAt, Remove, Get, Replace, NextFreeKey, Len, List as Listing}
use Rattle.scanner.specs.Legal.{scanned}
use Rattle.scanner.proofs.Longest.{told, told_stop}
use Rattle.scanner.proofs.Walks.{Written, stops_letter, first_stops, second_stops, plain_written, one_written, two_written}
use Rattle.scanner.proofs.scanning.scan.Goals as goal
use Rattle.scanner.proofs.scanning.scan.Goals.{in-Make+in_ok-number-in-Make, in-Insert+in_ok-number-in-Insert, in-InsertAt+in_ok-number-in-InsertAt+in_ok-number-in-InsertAt-2, in-Remove+in_ok-number-in-Remove, in-Get+in_ok-number-in-Get, in-Replace+in_ok-number-in-Replace+in_ok-number-in-Replace-2, in-NextFreeKey, in-Len, in-List}

-- the empty line
pub returns-in_err-letter : goal.returns-in_err-letter
returns-in_err-letter c =
    let line = c.args.line.now in
    let none : length line ≡ 0 = grind arith in
    let zero : c.in_err-letter.field-0.0 ≡ 0 = grind arith in
    told_stop line _ _ c.from_residual.ensures.1 (ap scanned (nil_from_length line none) ∙ ap Err (sym zero))

-- no letter of a command
pub returns-in_err-kind : goal.returns-in_err-kind
returns-in_err-kind c =
    let line = c.args.line.now in
    let none : kind_of (get_or line 0 0) ≡ None = grind arith in
    let zero : c.in_err-kind.field-0.0 ≡ 0 = grind arith in
    told_stop line _ _ c.from_residual-in_err-kind.ensures.1 (stops_letter line none ∙ ap Err (sym zero))

-- no number follows the letter
pub returns-in_err-number-in-Make : goal.returns-in_err-number-in-Make
returns-in_err-number-in-Make c =
    let is : kind_of (get_or c.args.line.now 0 0) ≡ Some Make = grind arith in
    told_stop c.args.line.now _ _ c.from_residual-in_err-number-in-Make.ensures.1 (first_stops c.args.line.now Make is (omega arith) _ c.in_err-number-in-Make.ensures.read)

pub returns-in_err-number-in-Insert : goal.returns-in_err-number-in-Insert
returns-in_err-number-in-Insert c =
    let is : kind_of (get_or c.args.line.now 0 0) ≡ Some Insert = grind arith in
    told_stop c.args.line.now _ _ c.from_residual-in_err-number-in-Insert.ensures.1 (first_stops c.args.line.now Insert is (omega arith) _ c.in_err-number-in-Insert.ensures.read)

pub returns-in_err-number-in-Remove : goal.returns-in_err-number-in-Remove
returns-in_err-number-in-Remove c =
    let is : kind_of (get_or c.args.line.now 0 0) ≡ Some Remove = grind arith in
    told_stop c.args.line.now _ _ c.from_residual-in_err-number-in-Remove.ensures.1 (first_stops c.args.line.now Remove is (omega arith) _ c.in_err-number-in-Remove.ensures.read)

pub returns-in_err-number-in-Get : goal.returns-in_err-number-in-Get
returns-in_err-number-in-Get c =
    let is : kind_of (get_or c.args.line.now 0 0) ≡ Some Get = grind arith in
    told_stop c.args.line.now _ _ c.from_residual-in_err-number-in-Get.ensures.1 (first_stops c.args.line.now Get is (omega arith) _ c.in_err-number-in-Get.ensures.read)

pub returns-in_err-number-in-InsertAt : goal.returns-in_err-number-in-InsertAt
returns-in_err-number-in-InsertAt c =
    let is : kind_of (get_or c.args.line.now 0 0) ≡ Some InsertAt = grind arith in
    told_stop c.args.line.now _ _ c.from_residual-in_err-number-in-InsertAt.ensures.1 (first_stops c.args.line.now InsertAt is (omega arith) _ c.in_err-number-in-InsertAt.ensures.read)

pub returns-in_err-number-in-Replace : goal.returns-in_err-number-in-Replace
returns-in_err-number-in-Replace c =
    let is : kind_of (get_or c.args.line.now 0 0) ≡ Some Replace = grind arith in
    told_stop c.args.line.now _ _ c.from_residual-in_err-number-in-Replace.ensures.1 (first_stops c.args.line.now Replace is (omega arith) _ c.in_err-number-in-Replace.ensures.read)

-- no second number follows
pub returns-in_err-number-in-InsertAt-2 : goal.returns-in_err-number-in-InsertAt-2
returns-in_err-number-in-InsertAt-2 c =
    let is : kind_of (get_or c.args.line.now 0 0) ≡ Some InsertAt = grind arith in
    let first = c.in_ok-number-in-InsertAt.ensures in
    told_stop c.args.line.now _ _ c.from_residual-in_err-number-in-InsertAt-2.ensures.1
    (second_stops c.args.line.now InsertAt is _ _ first.read (omega arith) _ (rw first.line at c.in_err-number-in-InsertAt-2.ensures.read))

pub returns-in_err-number-in-Replace-2 : goal.returns-in_err-number-in-Replace-2
returns-in_err-number-in-Replace-2 c =
    let is : kind_of (get_or c.args.line.now 0 0) ≡ Some Replace = grind arith in
    let first = c.in_ok-number-in-Replace.ensures in
    told_stop c.args.line.now _ _ c.from_residual-in_err-number-in-Replace-2.ensures.1
    (second_stops c.args.line.now Replace is _ _ first.read (omega arith) _ (rw first.line at c.in_err-number-in-Replace-2.ensures.read))

pub returns : goal.returns
returns c =
    let line = c.args.line.now in
    let is : kind_of (get_or line 0 0) ≡ Some c.in_ok-kind.kind = grind arith in
    let read : (c.match-kind.rest.line.now ≡ line) × Written line c.match-kind.rest.end c.match-kind.command
    = elim c.match-kind.branch [
      | in-Make+in_ok-number-in-Make w ↦
          let first = w.in_ok-number-in-Make.ensures in
          rw (w.rest-is, w.command-is) (first.line, one_written line Make (is ∙ ap Some w.in-Make.is) _ _ first.read refl _ refl)
      | in-Insert+in_ok-number-in-Insert w ↦
          let first = w.in_ok-number-in-Insert.ensures in
          rw (w.rest-is, w.command-is) (first.line, one_written line Insert (is ∙ ap Some w.in-Insert.is) _ _ first.read refl _ refl)
      | in-Remove+in_ok-number-in-Remove w ↦
          let first = w.in_ok-number-in-Remove.ensures in
          rw (w.rest-is, w.command-is) (first.line, one_written line Remove (is ∙ ap Some w.in-Remove.is) _ _ first.read refl _ refl)
      | in-Get+in_ok-number-in-Get w ↦
          let first = w.in_ok-number-in-Get.ensures in
          rw (w.rest-is, w.command-is) (first.line, one_written line Get (is ∙ ap Some w.in-Get.is) _ _ first.read refl _ refl)
      | in-InsertAt+in_ok-number-in-InsertAt+in_ok-number-in-InsertAt-2 w ↦
          let first = w.in_ok-number-in-InsertAt.ensures in
          let second = w.in_ok-number-in-InsertAt-2.ensures in
          rw (w.rest-is, w.command-is) (second.line ∙ first.line, two_written line InsertAt (is ∙ ap Some w.in-InsertAt.is) _ _ first.read refl _ _ (rw first.line at second.read) _ refl)
      | in-Replace+in_ok-number-in-Replace+in_ok-number-in-Replace-2 w ↦
          let first = w.in_ok-number-in-Replace.ensures in
          let second = w.in_ok-number-in-Replace-2.ensures in
          rw (w.rest-is, w.command-is) (second.line ∙ first.line, two_written line Replace (is ∙ ap Some w.in-Replace.is) _ _ first.read refl _ _ (rw first.line at second.read) _ refl)
      | in-NextFreeKey w ↦ rw (w.rest-is, w.command-is) (refl, plain_written line NextFreeKey (is ∙ ap Some w.in-NextFreeKey.is) refl _ refl)
      | in-Len w ↦ rw (w.rest-is, w.command-is) (refl, plain_written line Len (is ∙ ap Some w.in-Len.is) refl _ refl)
      | in-List w ↦ rw (w.rest-is, w.command-is) (refl, plain_written line Listing (is ∙ ap Some w.in-List.is) refl _ refl)
    ] in
    let on = rw read.0 at c.finish.ensures in
    let answer : scanned line ≡ c.map.result = grind (arith, on) in
    told line _ answer

use Rattle.std.proofs.Common.{sym, ◌∙◌, ◌<◌, length, arith}
use Rattle.std.proofs.lemmas.List.{at_drop_all}
use Rattle.text.proofs.Scans.{scan, scan_stops, digit_other, number_none, number_read}
use Rattle.text.proofs.decimal.number.Goals as goal

pub returns-in_err-to_digit : goal.returns-in_err-to_digit
returns-in_err-to_digit c =
    let line = c.args.line.now in
    let stops = scan_stops c.loop-byte.value line c.loop-byte.byte-index c.loop-byte-test.true (rw c.from.ensures at (digit_other c.from.result c.in_err-to_digit.ensures.cases)) in
    c.from_residual.ensures ∙ number_none line (sym c.loop-byte.invariant.0 ∙ stops)

pub returns : goal.returns
returns c =
    let line = c.args.line.now in
    let some : 0 < length line = grind (arith, c.if-is_empty.ensures) in
    let whole = at_drop_all (scan c.loop-byte.value) line c.loop-byte.byte-index (omega arith) in
    c.ok.ensures.value ∙ number_read line c.loop-byte.value c.try_from.result (sym c.loop-byte.invariant.0 ∙ whole) some (omega arith) c.try_from.ensures

use Rattle.std.proofs.Common.{◌+◌, ◌∙◌, length, arith, rules}
use Rattle.std.proofs.lemmas.List.{take_rest, drop_all}
use Rattle.text.proofs.Splits.{first_ends, first_only}
use Rattle.text.proofs.lines.split_line.Goals as goal

pub returns-in-Some : goal.returns-in-Some
returns-in-Some c =
    let text = c.args.text.now in
    let parts = first_ends text c.in-Some.end (search rules) (search rules) (search rules) in
    record { line = parts.0; rest = take_rest text (c.in-Some.end + 1) ∙ parts.1 }

pub returns-in-None : goal.returns-in-None
returns-in-None c =
    let text = c.args.text.now in
    let parts = first_only text (search rules) in
    record { line = parts.0; rest = take_rest text (length text) ∙ drop_all (length text) text (omega arith) ∙ parts.1 }

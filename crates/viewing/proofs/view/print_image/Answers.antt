use Rattle.std.proofs.Common.{◌++◌, ◌∙◌, ap, rules}
use Rattle.std.specs.Prelude.{codes}
use Rattle.std.proofs.lemmas.Result.{IfOk-weaker}
use Rattle.refusal.specs.Told.{spelt}
use Rattle.image.specs.Format.{whole, broken}
use Rattle.image.specs.Pieces.{pieces}
use Rattle.viewing.proofs.view.print_image.Goals as goal

pub returns-in-Err : goal.returns-in-Err
returns-in-Err c =
    let fault = c.in-Err.ensures.broken in
    IfOk-weaker c.refusal_line.result _ _
    (λ out said. (broken fault.0, fault.2, said ∙ ap (λ r. spelt r ++ codes "\n") fault.1))
    c.refusal_line.ensures

pub returns : goal.returns
returns c =
    let h = c.in_default.field-0 in
    let read = c.in_default.ensures.accepted in
    let held = c.new.ensures.holds h.width h.capacity read.0 read.1 in
    (whole h.width h.capacity read.0, read.1, search (rules, c.in_ok-print_records.ensures (pieces h.width h.capacity read.0) held))

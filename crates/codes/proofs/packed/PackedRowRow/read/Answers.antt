use Rattle.std.proofs.Common.{◌*◌, Ok, sym, ap, ◌∙◌, arith}
use Rattle.rows.specs.Cells.{window}
use Rattle.rows.proofs.Cells.{read_past}
use Rattle.codes.specs.Packed.{packed}
use Rattle.codes.proofs.Groups.{length_packed, packed_read}
use Rattle.codes.proofs.packed.PackedRowRow.read.Goals as goal

pub returns-then-place-whole-clause-value : goal.returns-then-place-whole-clause-value
returns-then-place-whole-clause-value g c =
    let xs = g.B.Row.cells c.args.self.now.bytes in
    let w = g.K.Bytes.ByteArray.size in
    let item = g.K.Coded.item in
    let string = c.gather.ensures.value ∙ ap (λ at. window at w (g.B.Row.cells c.whole.new.bytes)) (ap (λ n. c.args.place * n) (c.from.ensures ∙ c.width.ensures.value)) ∙ ap (window (c.args.place * w) w) c.whole.ensures.kept.0 in
    ap Ok (c.decode.ensures ∙ ap item string) ∙ packed_read w item c.whole.ensures.some xs c.args.place (omega arith)

pub returns-else-place-whole-clause-value : goal.returns-else-place-whole-clause-value
returns-else-place-whole-clause-value g c =
    let xs = g.B.Row.cells c.args.self.now.bytes in
    let count = length_packed g.K.Bytes.ByteArray.size g.K.Coded.item c.whole.ensures.some xs in
    sym (read_past (packed g.K.Bytes.ByteArray.size g.K.Coded.item xs) c.args.place (omega arith))

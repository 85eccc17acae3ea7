use Rattle.std.proofs.Common.{◌*◌, set, sym, ap, ◌∙◌, arith}
use lib.Seq.{paste}
use Rattle.std.proofs.lemmas.List.{set_past}
use Rattle.rows.proofs.Cells.{write_within, write_past}
use Rattle.codes.specs.Packed.{packed, behind}
use Rattle.codes.proofs.Groups.{length_packed, packed_write, behind_write}
use Rattle.codes.proofs.packed.PackedRowRow.write.Goals as goal

pub returns-then-place-whole-clause-value : goal.returns-then-place-whole-clause-value
returns-then-place-whole-clause-value g c =
    let xs = g.B.Row.cells c.args.self.now.bytes in
    let count = length_packed g.K.Bytes.ByteArray.size g.K.Coded.item c.whole.ensures.some xs in
    sym (write_within (packed g.K.Bytes.ByteArray.size g.K.Coded.item xs) c.args.place (omega arith))

-- the bytes of the item are pasted over the group
pub returns-then-place-whole-clause-bytes : goal.returns-then-place-whole-clause-bytes
returns-then-place-whole-clause-bytes g c =
    let xs = g.B.Row.cells c.args.self.now.bytes in
    let w = g.K.Bytes.ByteArray.size in
    c.scatter.ensures.after
    ∙ ap (λ at. paste (g.B.Row.cells c.whole.new.bytes) at (g.K.Bytes.ByteArray.list c.encode.result) w) (ap (λ n. c.args.place * n) (c.from.ensures ∙ c.width.ensures.value))
    ∙ ap (λ ys. paste ys (c.args.place * w) (g.K.Bytes.ByteArray.list c.encode.result) w) c.whole.ensures.kept.0
    ∙ ap (λ s. paste xs (c.args.place * w) s w) c.encode.ensures.value

pub returns-then-place-whole-clause-after : goal.returns-then-place-whole-clause-after
returns-then-place-whole-clause-after g c =
    let xs = g.B.Row.cells c.args.self.now.bytes in
    let w = g.K.Bytes.ByteArray.size in
    let item = g.K.Coded.item in
    ap (packed w item) (returns-then-place-whole-clause-bytes g c)
    ∙ packed_write w item c.whole.ensures.some xs c.args.place (g.K.Coded.bytes c.args.value) (omega arith) c.encode.ensures.width
    ∙ ap (set (packed w item xs) c.args.place) c.encode.ensures.back

pub returns-then-place-whole-clause-beside : goal.returns-then-place-whole-clause-beside
returns-then-place-whole-clause-beside g c =
    let xs = g.B.Row.cells c.args.self.now.bytes in
    let w = g.K.Bytes.ByteArray.size in
    ap (behind _ w) (returns-then-place-whole-clause-bytes g c)
    ∙ behind_write w g.K.Coded.item c.whole.ensures.some xs c.args.place (g.K.Coded.bytes c.args.value) (omega arith) c.encode.ensures.width _ _ (c.scatter.ensures.beside ∙ c.whole.ensures.kept.1)

pub returns-else-place-whole-clause-value : goal.returns-else-place-whole-clause-value
returns-else-place-whole-clause-value g c =
    let xs = g.B.Row.cells c.args.self.now.bytes in
    let count = length_packed g.K.Bytes.ByteArray.size g.K.Coded.item c.whole.ensures.some xs in
    sym (write_past (packed g.K.Bytes.ByteArray.size g.K.Coded.item xs) c.args.place (omega arith))

pub returns-else-place-whole-clause-after : goal.returns-else-place-whole-clause-after
returns-else-place-whole-clause-after g c =
    let xs = g.B.Row.cells c.args.self.now.bytes in
    let w = g.K.Bytes.ByteArray.size in
    let item = g.K.Coded.item in
    let count = length_packed w item c.whole.ensures.some xs in
    ap (packed w item) c.whole.ensures.kept.0 ∙ sym (set_past (packed w item xs) c.args.place c.args.value (omega arith))

use Rattle.std.proofs.Common.{sym, ◌∙◌}
use Rattle.codes.proofs.Groups.{length_packed}
use Rattle.codes.proofs.packed.PackedRowRow.count.Goals as goal

pub returns-clause-value : goal.returns-clause-value
returns-clause-value g c =
    c.whole.ensures.value ∙ sym (length_packed g.K.Bytes.ByteArray.size g.K.Coded.item c.whole.ensures.some (g.B.Row.cells c.args.self.now.bytes))

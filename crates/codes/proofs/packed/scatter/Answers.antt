use Rattle.std.proofs.Common.{◌+◌, set, ap, ◌∙◌, arith}
use lib.Seq.{paste}
use Rattle.std.proofs.lemmas.List.Edits.{paste_more}
use Rattle.codes.proofs.packed.scatter.Goals as goal

pub loop-i-preserved : goal.loop-i-preserved
loop-i-preserved g c =
    let xs = g.B.Row.cells c.args.bytes.now in
    let string = g.A.ByteArray.list c.args.string in
    let i = c.loop-i.i in (
      c.write.ensures.after
          ∙ ap (λ ys. set ys (c.args.at + i) c.at.result) c.loop-i.invariant.0
          ∙ ap (set (paste xs c.args.at string i) (c.args.at + i)) c.at.ensures
          ∙ paste_more xs c.args.at string i 0 (omega arith) (omega arith),
      c.write.ensures.beside ∙ c.loop-i.invariant.1,
    )

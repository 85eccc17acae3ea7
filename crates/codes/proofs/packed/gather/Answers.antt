use Rattle.std.proofs.Common.{◌+◌, length, set, sym, ap, ◌∙◌, arith, rules}
use Rattle.std.specs.Result.{result_unwrap_or}
use Rattle.rows.specs.Cells.{read_at, window}
use Rattle.rows.proofs.Cells.{read_or, read_refused, get_d_window, length_window}
use Rattle.codes.proofs.Groups.{gather_more}
use Rattle.codes.proofs.packed.gather.Goals as goal

pub unreachable-requires : goal.unreachable-requires
unreachable-requires g c =
    let sized = ap length c.loop-i.invariant.1.0 in
    read_refused (g.B.Row.cells c.loop-i.bytes) (c.args.at + c.loop-i.i) _ c.in_default.ensures.value (omega arith)

pub loop-i-preserved : goal.loop-i-preserved
loop-i-preserved g c =
    let xs = g.B.Row.cells c.args.bytes.now in
    let n = g.A.ByteArray.size in
    let i = c.loop-i.i in
    let same = c.loop-i.invariant.1.0 in
    let sized = length_window c.args.at n xs in
    let byte =
    ap (λ r. result_unwrap_or r 0) (c.in-Ok.ensures.value ∙ ap (λ ys. read_at ys (c.args.at + i)) same)
    ∙ read_or xs (c.args.at + i) 0
    ∙ sym (get_d_window c.args.at n i xs 0 (omega arith)) in (
      c.put.ensures
          ∙ ap (λ s. set s i c.in-Ok.byte) c.loop-i.invariant.0
          ∙ gather_more (window c.args.at n xs) n i c.in-Ok.byte (omega arith) (omega arith) byte,
      search rules,
    )

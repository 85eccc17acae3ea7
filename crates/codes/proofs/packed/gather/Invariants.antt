use Rattle.std.proofs.Common.{◌≡◌, replicate}
use lib.Seq.{paste}
use Rattle.rows.specs.Cells.{window}
use Rattle.rows.specs.Kept.{Kept}
use Rattle.codes.proofs.packed.gather.Given as goal

-- the first bytes of the string are gathered
abbrev pub invariant-loop-i : goal.invariant-loop-i
invariant-loop-i g l =
    (g.A.ByteArray.list l.string ≡ paste (replicate g.A.ByteArray.size 0) 0 (window l.at g.A.ByteArray.size (g.B.Row.cells l.initial.bytes)) l.i)
    × Kept g.B.Row l.initial.bytes l.bytes

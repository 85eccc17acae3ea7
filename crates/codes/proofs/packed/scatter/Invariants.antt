use Rattle.std.proofs.Common.{◌≡◌}
use lib.Seq.{paste}
use Rattle.codes.proofs.packed.scatter.Given as goal

-- the first bytes of the string are written
abbrev pub invariant-loop-i : goal.invariant-loop-i
invariant-loop-i g l =
    (g.B.Row.cells l.bytes ≡ paste (g.B.Row.cells l.initial.bytes) l.at (g.A.ByteArray.list l.string) l.i)
    × (g.B.Row.outside l.bytes ≡ g.B.Row.outside l.initial.bytes)

use Rattle.std.proofs.Common.{◌≤◌, length, arith, rules}
use lib.Seq.{take-set-lt}
use Rattle.containers.proofs.vec.MetaVec.write.Goals as goal

-- an element below the length is set alike among all cells
pub returns-then-place-len-clause-means : goal.returns-then-place-len-clause-means
returns-then-place-len-clause-means g c =
    let s = c.args.self.now in
    let long : s.extent.len ≤ length (g.R.Row.cells s.row) = omega (arith, c.len.ensures.backed) in
    search (rules, take-set-lt)

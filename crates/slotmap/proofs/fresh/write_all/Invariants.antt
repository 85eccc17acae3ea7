use Rattle.std.proofs.Common.{◌≡◌, ℕ}
use Rattle.model.specs.Fresh.{written}
use Rattle.slotmap.proofs.fresh.write_all.Given as goal

abbrev pub invariant-loop-key : goal.invariant-loop-key
invariant-loop-key g l =
    ((f : ℕ → g.row.R-Item.Denot) → ((k : ℕ) (x : g.row.R-Item.Denot) → g.F.Fn.post l.cell (k, tt) x → x ≡ f k) → g.R.Row.cells l.row ≡ written f l.key (g.R.Row.cells l.initial.row))
    × (g.R.Row.outside l.row ≡ g.R.Row.outside l.initial.row)

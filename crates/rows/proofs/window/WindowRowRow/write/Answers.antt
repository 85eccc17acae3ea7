use Rattle.std.proofs.Common.{◌+◌, set, ap, ◌∙◌, arith}
use Rattle.rows.specs.Cells.{window}
use Rattle.rows.proofs.Cells.{window_within, set_window}
use Rattle.rows.proofs.window.WindowRowRow.write.Goals as goal

pub returns-then-place-shown-clause-after : goal.returns-then-place-shown-clause-after
returns-then-place-shown-clause-after g c =
    let xs = g.R.Row.cells c.args.self.now.row in
    let from = c.args.self.now.from in
    let most = c.args.self.now.most in
    let shows = window_within from most c.args.place xs (omega arith) in
    ap (window from most) (c.write.ensures.after ∙ ap (λ ys. set ys (from + c.args.place) c.args.value) c.shown.ensures.kept.0)
    ∙ set_window from most c.args.place xs c.args.value shows.0

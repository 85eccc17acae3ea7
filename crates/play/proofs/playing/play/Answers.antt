use mathlib.Core.Path.{ap, ◌∙◌}
use mathlib.Core.List.{[], ◌++◌}
use lib.ListN.{length, take, drop}
use Rattle.model.specs.Fresh.{least, bare}
use Rattle.model.specs.Layouts.{capacity}
use Rattle.model.specs.Tables.{fresh}
use Rattle.slotmap.specs.Laid.{laid}
use Rattle.history.proofs.Made.{all_answer}
use Rattle.history.proofs.Reached.{reached_fresh}
use Rattle.history.proofs.Running.{beyond_more}
use Rattle.play.proofs.playing.play.Goals as goal

pub returns-clause-answered : goal.returns-clause-answered
returns-clause-answered g c =
    let xs = g.X.Row.cells c.args.rows.index in
    let ls = g.L.Row.cells c.args.rows.links in
    let vs = g.D.Row.cells c.args.rows.values in
    let qs = g.Q.Row.cells c.args.rows.slots in
    let C = least c.args.plan.capacity (length xs) (length ls) (length vs) (length qs) in
    let o = laid g.X.Row.cells g.L.Row.cells g.D.Row.cells g.Q.Row.cells c.init-table.result in
    c.run-count.ensures.value
    ∙ ap (λ as'. as' ++ drop c.run-count.result c.args.answers.now) (all_answer o (fresh C) (take c.run-count.result c.args.calls.now) c.init-table.ensures.means)

pub returns-clause-reached : goal.returns-clause-reached
returns-clause-reached g c =
    c.run-count.ensures.reached _ [] (reached_fresh _ (laid g.X.Row.cells g.L.Row.cells g.D.Row.cells g.Q.Row.cells c.init-table.result) c.init-table.ensures.means)

pub returns-clause-beyond : goal.returns-clause-beyond
returns-clause-beyond g c =
    let xs = g.X.Row.cells c.args.rows.index in
    let ls = g.L.Row.cells c.args.rows.links in
    let vs = g.D.Row.cells c.args.rows.values in
    let qs = g.Q.Row.cells c.args.rows.slots in
    let made = c.init-table.ensures in
    let C = least c.args.plan.capacity (length xs) (length ls) (length vs) (length qs) in
    beyond_more (bare C xs ls vs qs) (laid g.X.Row.cells g.L.Row.cells g.D.Row.cells g.Q.Row.cells c.init-table.result) (laid g.X.Row.cells g.L.Row.cells g.D.Row.cells g.Q.Row.cells c.run-count.new.table)
    (ap capacity made.cells) made.beyond c.run-count.ensures.beyond

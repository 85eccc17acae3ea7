use Rattle.std.proofs.Common.{ap, ◌∙◌}
use Rattle.std.specs.Result.{result_unwrap_or}
use Rattle.rows.proofs.Cells.{read_or}
use Rattle.audit.proofs.cells.cell_or.Goals as goal

pub returns-clause-value : goal.returns-clause-value
returns-clause-value g c =
    c.unwrap_or.ensures
    ∙ ap (λ r. result_unwrap_or r c.args.other) c.read.ensures.value
    ∙ read_or (g.R.Row.cells c.args.row.now) c.args.place c.args.other

use mathlib.Core.Path.{◌∙◌, sym}
use Rattle.model.proofs.FreeLists.{relinked_past}
use Rattle.rows.proofs.Cells.{read_refused_past}
use Rattle.freelist.proofs.links.relink.Goals as goal

pub returns-in_default-clause-after : goal.returns-in_default-clause-after
returns-in_default-clause-after g c f computes =
    let ls = g.L.Row.cells c.args.links.now in
    c.in_default.ensures.same ∙ sym (relinked_past f ls c.args.key (read_refused_past ls c.args.key c.in_default.field-0 c.in_default.ensures.value))

use mathlib.Core.Path.{◌∙◌, ap}
use Rattle.std.proofs.Common.{rules}
use lib.ListN.{set}
use Rattle.model.specs.Layouts.{unlinked, followed, preceded, with_previous}
use Rattle.freelist.proofs.links.unlink.Goals as goal

pub returns-clause-after : goal.returns-clause-after
returns-clause-after g c =
    let e = c.args.entry in
    let front = c.relink.ensures.after (followed e.next) (λ e r post. search rules) in
    let back = c.relink-2.ensures.after (preceded e.previous) (λ e r post. search rules) in
    c.write.ensures.after ∙ ap (λ ls. set ls c.args.key unlinked) (back ∙ ap (λ ls. with_previous ls e.next e.previous) front)

use mathlib.Core.Path.{◌∙◌, ap}
use Rattle.std.proofs.Common.{rules}
use lib.ListN.{set}
use Rattle.model.specs.Layouts.{nil, preceded}
use Rattle.freelist.proofs.links.link_first.Goals as goal

pub returns-clause-after : goal.returns-clause-after
returns-clause-after g c =
    c.write.ensures.after
    ∙ ap (λ ls. set ls c.args.key (record { previous = nil; next = c.args.head })) (c.relink.ensures.after (preceded c.args.key) (λ e r post. search rules))

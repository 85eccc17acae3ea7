use mathlib.Core.Path.{sym, subst, ◌∙◌}
use mathlib.Core.List.{[], ◌∷◌, ◌++◌}
use Rattle.model.specs.Layouts.{SameBeyond}
use Rattle.model.specs.Sound.{Means}
use Rattle.history.specs.Calls.{after}
use Rattle.history.specs.Promise.{Reached}
use Rattle.history.proofs.Made.{call_follows, call_beyond, reached_made}
use Rattle.play.proofs.performing.perform.Goals as goal

pub returns-clause-beyond : goal.returns-clause-beyond
returns-clause-beyond g c =
    let l = g.T.SlotMap.layout c.args.table.now in
    subst (SameBeyond l) (sym c.make.ensures.after) (call_beyond l c.args.call (g.met.T.SlotMap.legal c.args.table.now))

pub returns-clause-means : goal.returns-clause-means
returns-clause-means g c t h =
    let follows = call_follows (g.T.SlotMap.layout c.args.table.now) c.args.call t h in
    (c.make.ensures.value ∙ follows.0, subst (λ n. Means n (after t c.args.call)) (sym c.make.ensures.after) follows.1)

pub returns-clause-reached : goal.returns-clause-reached
returns-clause-reached g c C h r =
    let call = c.args.call in
    subst (λ a. Reached C (h ++ ((record { call = call; answer = a }) ∷ [])) (g.T.SlotMap.layout c.make.new.table)) (sym c.make.ensures.value)
    (subst (Reached C (h ++ ((record { call = call; answer = _ }) ∷ []))) (sym c.make.ensures.after) (reached_made C h (g.T.SlotMap.layout c.args.table.now) call r))

use Rattle.std.proofs.Common.{◌++◌, sym, ap, ◌∙◌, arith}
use Rattle.std.proofs.lemmas.List.{append-nil}
use Rattle.std.proofs.lemmas.Result.{on_ok_weaker}
use Rattle.std.specs.Option.{option_to_list}
use Rattle.containers.specs.Bounded.{latest}
use Rattle.containers.specs.Queues.{queue, contents}
use Rattle.containers.proofs.Latest.{latest_all}
use Rattle.containers.proofs.Rounds.{length_contents_most}
use Rattle.recents.proofs.notes.note.Goals as goal

-- a line that is no number leaves the queue as it is
pub returns-in_default-clause-held : goal.returns-in_default-clause-held
returns-in_default-clause-held g c =
    let q = queue g.R.Row.cells c.args.queue.now in
    let sized = length_contents_most q in
    let same = ap (latest q.capacity) (append-nil (contents q)) ∙ latest_all q.capacity (contents q) (omega arith) in
    on_ok_weaker c.complain.result
    (λ _. sym (ap (λ o. latest q.capacity (contents q ++ option_to_list o)) (sym c.in_default.ensures) ∙ same))
    c.complain.ensures

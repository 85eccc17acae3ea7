use Rattle.std.proofs.Common.{◌≡◌, Some, None, sym, ap, ◌∙◌, arith}
use Rattle.std.specs.Result.{result_unwrap_or}
use Rattle.model.specs.Checks.{get_cells}
use Rattle.model.specs.Layouts.{capacity}
use Rattle.model.specs.Tables.{step_answer}
use Rattle.model.proofs.Calls.{read_follows}
use Rattle.model.proofs.Readers.{step_answers}
use Rattle.model.proofs.Steps.{step_found, step_on, step_end}
use Rattle.slotmap.proofs.slotmap.AnySlotMap.next_available_key_after.Goals as goal

pub returns-in-Some-clause-value : goal.returns-in-Some-clause-value
returns-in-Some-clause-value g c =
    let l = g.T.Steps.layout c.args.self.now in
    let inv = c.loop-key.invariant in
    let key = c.loop-key.key in
    let held : result_unwrap_or (get_cells l key) None ≡ Some c.in-Some.value
    = sym (c.in-Some.ensures ∙ ap (λ r. result_unwrap_or r None) (c.get.ensures.value ∙ ap (λ n. get_cells n key) inv.0)) in
    sym (inv.3 ∙ step_found (λ k. result_unwrap_or (get_cells l k) None) (capacity l) key c.in-Some.value (omega (arith, c.capacity-key-end.ensures.value)) held)

pub returns-in-Some-clause-means : goal.returns-in-Some-clause-means
returns-in-Some-clause-means g c =
    let l = g.T.Steps.layout c.args.self.now in
    read_follows l _ _ _ (λ t. step_answer t c.args.start) (λ t h. step_answers l t h c.args.start) (returns-in-Some-clause-value g c) (c.get.ensures.same ∙ c.loop-key.invariant.0)

pub loop-key-preserved : goal.loop-key-preserved
loop-key-preserved g c =
    let l = g.T.Steps.layout c.args.self.now in
    let inv = c.loop-key.invariant in
    let key = c.loop-key.key in
    let read = c.get.ensures in
    let held : result_unwrap_or (get_cells l key) None ≡ None
    = sym (c.in_default.ensures ∙ ap (λ r. result_unwrap_or r None) (read.value ∙ ap (λ n. get_cells n key) inv.0)) in (
      read.same ∙ inv.0,
      read.untouched ∙ inv.1,
      read.beside ∙ inv.2,
      inv.3 ∙ step_on (λ k. result_unwrap_or (get_cells l k) None) (capacity l) key (omega (arith, c.capacity-key-end.ensures.value)) held,
    )

pub returns-clause-means : goal.returns-clause-means
returns-clause-means g c =
    let l = g.T.Steps.layout c.args.self.now in
    let inv = c.loop-key.invariant in
    let value = sym (inv.3 ∙ step_end (λ k. result_unwrap_or (get_cells l k) None) (capacity l) c.loop-key.key (omega (arith, c.capacity-key-end.ensures.value))) in
    read_follows l _ _ _ (λ t. step_answer t c.args.start) (λ t h. step_answers l t h c.args.start) value inv.0

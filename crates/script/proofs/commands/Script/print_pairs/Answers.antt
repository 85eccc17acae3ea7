use Rattle.std.proofs.Common.{ℕ, ◌-◌, None, string_bytes, Option, sym, ap, ◌∙◌, subst, arith}
use Rattle.std.specs.Result.{result_unwrap_or}
use Rattle.std.proofs.lemmas.Result.{IfOk-weaker}
use Rattle.model.specs.Checks.{get_cells}
use Rattle.model.specs.Layouts.{capacity}
use Rattle.model.specs.Sound.{Means}
use Rattle.model.specs.Tables.{step_answer}
use Rattle.model.proofs.Steps.{first_below, first_from}
use Rattle.script.specs.Sessions.{table_of}
use Rattle.script.specs.Steps.{Promised}
use Rattle.script.proofs.Pairs.{pairs_first, pairs_dash, pairs_step, pairs_end}
use Rattle.script.proofs.commands.Script.print_pairs.Goals as goal

pub loop-key-init : goal.loop-key-init
loop-key-init g c =
    let step = c.in-Some.ensures in (
      step.same,
      λ t h.
          pairs_first t 0 _ (c.in-Some.key, c.in-Some.value) (string_bytes c.args.self.now.out) (string_bytes c.write-2.new.self)
          ((step.means t h).0 ∙ ap (step_answer t) c.new-cursor.ensures) step.after c.in_ok-write.ensures.bytes,
    )

-- the cursor goes on to a key that is not past the table
pub loop-key-smaller : goal.loop-key-smaller
loop-key-smaller g c =
    let l = g.T.SlotMap.layout c.loop-key.self.table in
    let p = c.loop-key.cursor.key in
    let step = c.in-Some-next.ensures in
    let held : ℕ → Option ℕ = λ k. result_unwrap_or (get_cells l k) None in
    let below = first_below held p (capacity l - p) (c.in-Some-next.key, c.in-Some-next.value) (sym step.value) in
    let from = first_from held p (capacity l - p) (c.in-Some-next.key, c.in-Some-next.value) (sym step.value) in
    omega (arith, below, from, step.after, ap capacity c.loop-key.invariant.0, ap capacity c.in-Some.ensures.same)

pub loop-key-preserved : goal.loop-key-preserved
loop-key-preserved g c =
    let step = c.in-Some-next.ensures in
    let inv = c.loop-key.invariant in (
      step.same ∙ inv.0,
      λ t h.
          pairs_step t c.loop-key.cursor.key _ (c.in-Some-next.key, c.in-Some-next.value) (string_bytes c.loop-key.self.out) (string_bytes c.write-in-Some-next.new.self) _
          (step.means t (subst (λ n. Means n t) (sym inv.0) h)).0 step.after c.in_ok-write-2.ensures.bytes (inv.1 t h),
    )

pub returns-in_default : goal.returns-in_default
returns-in_default g c s h =
    let step = c.in_default.ensures in
    let answered = (step.means (table_of s) h.means).0 in
    IfOk-weaker c.write.result _ _
    (λ u done. (pairs_dash (table_of s) 0 (string_bytes c.args.self.now.out) _ (answered ∙ ap (step_answer (table_of s)) c.new-cursor.ensures) done, subst (Promised s) (sym step.same) h))
    c.write.ensures.bytes

pub returns : goal.returns
returns g c s h =
    let step = c.in_default-next.ensures in
    let inv = c.loop-key.invariant in
    let m = subst (λ n. Means n (table_of s)) (sym inv.0) h.means in (
      pairs_end (table_of s) c.loop-key.cursor.key _ _ (step.means (table_of s) m).0 (inv.1 (table_of s) h.means),
      subst (Promised s) (sym (step.same ∙ inv.0)) h,
    )

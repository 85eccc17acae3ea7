use Rattle.std.proofs.Common.{◌≡◌, ℕ, ◌*◌, ◌^◌, ◌<◌, ◌++◌, length, get_or, take, drop, sym, refl, ap, ◌∙◌, subst, Fits, w64, arith, rules}
use Rattle.std.proofs.lemmas.List.{length-take, get_or-take}
use Rattle.model.specs.Layouts.{capacity}
use Rattle.history.specs.Calls.{cells_answers, cells_after_all}
use Rattle.history.proofs.Running.{Quiet, call_size, beyond_more, run_more, run_quiet, run_idle, run_reached}
use Rattle.play.proofs.performing.run.Goals as goal

-- a place in a slice, by the bytes before it
place_fits : (i n s : ℕ) → i < n → n * s < 2 ^ 63 → Fits w64 (i * s)
place_fits i n s l f = grind arith

pub offset_bounds-answers-i : goal.offset_bounds-answers-i
offset_bounds-answers-i g c =
    let within : c.loop-i.i < length c.args.answers.now = omega (arith, c.min-count.ensures, length-take c.min-count.result c.args.calls.now) in
    search (rules, place_fits)

pub loop-i-preserved : goal.loop-i-preserved
loop-i-preserved g c =
    let o = g.T.SlotMap.layout c.args.table.now in
    let l = g.T.SlotMap.layout c.loop-i.table in
    let n = g.T.SlotMap.layout c.perform.new.table in
    let calls = c.args.calls.now in
    let i = c.loop-i.i in
    let call = c.call-item in
    let inv = c.loop-i.invariant in
    let made = c.perform.ensures in
    let within : i < c.min-count.result = omega (arith, length-take c.min-count.result calls) in
    let item : call.result ≡ get_or calls i call.result = call.is ∙ get_or-take c.min-count.result calls i call.result within in
    let more =
    run_more o l n calls c.args.answers.now c.loop-i.answers _ i call.result c.perform.result
    (omega (arith, c.min-count.ensures)) (omega (arith, c.min-count.ensures)) item made.value made.after refl inv.after inv.answered in
    record {
      after = more.0;
      answered = more.1;
      sized = ap capacity made.after ∙ call_size l call.result ∙ inv.sized;
      beyond = beyond_more o l n inv.sized inv.beyond made.beyond;
      kept = λ q.
          let r = run_quiet o l calls i call.result c.perform.result (omega (arith, c.min-count.ensures)) item inv.after made.value q in
          made.kept r.1 ∙ inv.kept r.0;
      beside = made.beside ∙ inv.beside;
    }

pub returns-clause-after : goal.returns-clause-after
returns-clause-after g c =
    let all : c.loop-i.i ≡ c.min-count.result = omega (arith, c.min-count.ensures, length-take c.min-count.result c.args.calls.now) in
    c.loop-i.invariant.after ∙ ap (λ i. cells_after_all (g.T.SlotMap.layout c.args.table.now) (take i c.args.calls.now)) all

pub returns-clause-value : goal.returns-clause-value
returns-clause-value g c =
    let all : c.loop-i.i ≡ c.min-count.result = omega (arith, c.min-count.ensures, length-take c.min-count.result c.args.calls.now) in
    c.loop-i.invariant.answered
    ∙ ap (λ i. cells_answers (g.T.SlotMap.layout c.args.table.now) (take i c.args.calls.now) ++ drop i c.args.answers.now) all

pub returns-clause-kept : goal.returns-clause-kept
returns-clause-kept g c idle =
    let o = g.T.SlotMap.layout c.args.table.now in
    let all : c.loop-i.i ≡ c.min-count.result = omega (arith, c.min-count.ensures, length-take c.min-count.result c.args.calls.now) in
    let quiet = run_idle o c.args.calls.now c.args.answers.now c.loop-i.answers c.min-count.result (omega (arith, c.min-count.ensures)) (returns-clause-value g c) idle in
    c.loop-i.invariant.kept (subst (λ i. Quiet o (take i c.args.calls.now)) (sym all) quiet)

pub returns-clause-reached : goal.returns-clause-reached
returns-clause-reached g c C h r =
    run_reached (g.T.SlotMap.layout c.args.table.now) (g.T.SlotMap.layout c.loop-i.table) c.args.calls.now c.args.answers.now _ c.min-count.result C h
    (omega (arith, c.min-count.ensures)) (returns-clause-after g c) (returns-clause-value g c) r

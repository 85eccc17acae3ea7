use Rattle.std.proofs.Common.{◌≡◌, [], ◌∷◌, ◌++◌, string_bytes, sym, ap, ◌∙◌, append_assoc}
use Rattle.model.specs.Tables.{fresh}
use Rattle.text.specs.Lines.{lines}
use Rattle.text.specs.Readers.{lines_left}
use Rattle.scanner.specs.Legal.{scanned}
use Rattle.script.specs.Sessions.{begun, session_read}
use Rattle.script.specs.Transcript.{printed}
use Rattle.script.proofs.Sessions.{session_none, session_line, print_line}
use Rattle.script.proofs.transcript.Script+Keys.carry_out_lines.Goals as goal

pub loop-line-init : goal.loop-line-init
loop-line-init c h =
    let all : lines_left c.into_iter-line-iterator.result ≡ lines c.args.text.now
    = ap lines_left c.into_iter-line-iterator.ensures.into_iter_gives ∙ ap lines c.new-line-items.ensures in
    ([], begun 0, all, session_none, h, ap (λ ls. string_bytes c.args.self.now.out ++ printed (fresh 0) ls) all)

pub loop-line-preserved : goal.loop-line-preserved
loop-line-preserved c h =
    let inv = c.loop-line.invariant h in
    let line = c.in-Some.line.now in
    let front = c.in-Some.ensures.steps.lines in
    let done = c.in_ok-carry_out_line.ensures inv.1 inv.4 in (
      inv.0 ++ (line ∷ []),
      session_read inv.1 (scanned line),
      append_assoc inv.0 (line ∷ []) (lines_left c.next.new.self) ∙ ap (λ x. inv.0 ++ x) (sym front) ∙ inv.2,
      session_line inv.0 inv.1 line inv.3,
      done.1,
      print_line inv.1 line _ _ _ _ _ front done.0 inv.5,
    )

use Rattle.std.proofs.Common.{◌≡◌, ◌+◌, ◌++◌, string_bytes}
use Rattle.std.specs.Iterator.Adapters.{enumerate_source, enumerate_count}
use Rattle.containers.specs.Bounded.{latest}
use Rattle.containers.specs.Queues.{queue, contents}
use Rattle.text.specs.Lines.{lines}
use Rattle.text.specs.Readers.{lines_left}
use Rattle.recents.specs.Recent.{numbers, complaints}
use Rattle.recents.proofs.notes.note_lines.Given as goal

-- what is left of the text leads to what the whole text leads to
abbrev pub invariant-loop-i : goal.invariant-loop-i
invariant-loop-i g l =
    let q = queue g.R.Row.cells l.queue in
    let q₀ = queue g.R.Row.cells l.initial.queue in
    let left = lines_left (enumerate_source l.i-iterator) in
    record {
      capacity : q.capacity ≡ q₀.capacity;
      held : latest q.capacity (contents q ++ numbers left) ≡ latest q₀.capacity (contents q₀ ++ numbers (lines l.text));
      said : string_bytes l.err ++ complaints (enumerate_count l.i-iterator + 1) left ≡ string_bytes l.initial.err ++ complaints 1 (lines l.text);
    }

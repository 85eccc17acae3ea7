use Rattle.std.proofs.Common.{string_bytes, sym, ◌∙◌, arith}
use Rattle.std.specs.Iterator.Adapters.{enumerate_source}
use Rattle.containers.specs.Queues.{queue, contents}
use Rattle.containers.proofs.Rounds.{length_contents_most}
use Rattle.text.specs.Readers.{lines_left}
use Rattle.recents.proofs.Steps.{held_more, said_more, held_all}
use Rattle.recents.proofs.notes.note_lines.Goals as goal

pub loop-i-preserved : goal.loop-i-preserved
loop-i-preserved g c =
    let q = queue g.R.Row.cells c.loop-i.queue in
    let after = queue g.R.Row.cells c.note.new.queue in
    let left = lines_left (enumerate_source c.loop-i.i-iterator) in
    let rest = lines_left (enumerate_source c.next.new.self) in
    let read = c.in-Some.ensures.steps in
    let noted = c.in_ok-note.ensures in
    record {
      capacity = noted.capacity ∙ c.loop-i.invariant.capacity;
      held = held_more q.capacity after.capacity (contents q) (contents after) c.in-Some.line.now left rest noted.capacity noted.held read.0.lines ∙ c.loop-i.invariant.held;
      said =
          said_more (string_bytes c.loop-i.err) (string_bytes c.note.new.err) c.in-Some.i _ _ c.in-Some.line.now left rest read.1 read.2 noted.err read.0.lines
          ∙ c.loop-i.invariant.said;
    }

pub returns-clause-held : goal.returns-clause-held
returns-clause-held g c =
    let q = queue g.R.Row.cells c.loop-i.queue in
    let sized = length_contents_most q in
    sym (held_all q.capacity (contents q) _ (omega arith) c.in-None.ensures.steps.0.lines.0) ∙ c.loop-i.invariant.held

use Rattle.std.proofs.Common.{◌≡◌, ◌++◌, length, string_bytes}
use Rattle.std.specs.List.{flat_map}
use Rattle.containers.specs.Queues.{queue, contents}
use Rattle.recents.specs.Recent.{number_line}
use Rattle.recents.proofs.notes.print_numbers.Given as goal

-- what is printed, and what is left to print
abbrev pub invariant-loop-n : goal.invariant-loop-n
invariant-loop-n g l =
    let q = queue g.R.Row.cells l.queue in
    let q₀ = queue g.R.Row.cells l.initial.queue in
    string_bytes l.out ++ flat_map number_line (contents q) ≡ string_bytes l.initial.out ++ flat_map number_line (contents q₀)

abbrev pub decreases-loop-n : goal.decreases-loop-n
decreases-loop-n g l = length (contents (queue g.R.Row.cells l.queue))

use Rattle.std.proofs.Common.{◌≡◌, ℕ, List, ◌++◌, string_bytes}
use Rattle.model.specs.Tables.{fresh}
use Rattle.text.specs.Lines.{lines}
use Rattle.text.specs.Readers.{lines_left}
use Rattle.script.specs.Sessions.{Session, begun, table_of, IsSession}
use Rattle.script.specs.Steps.{Promised, keys_layout}
use Rattle.script.specs.Transcript.{printed}
use Rattle.script.proofs.transcript.Script+Keys.carry_out_lines.Given as goal

-- The lines that are read came to a session; those that are left lead, from its table, to what the whole text
-- leads to.
abbrev pub invariant-loop-line : goal.invariant-loop-line
invariant-loop-line l =
    Promised (begun 0) (keys_layout l.initial.self.table)
    → (read : List (List ℕ)) × (s : Session)
    × (read ++ lines_left l.line-iterator ≡ lines l.text)
    × IsSession read s
    × Promised s (keys_layout l.self.table)
    × (string_bytes l.self.out ++ printed (table_of s) (lines_left l.line-iterator) ≡ string_bytes l.initial.self.out ++ printed (fresh 0) (lines l.text))

use Rattle.std.proofs.Common.{◌≡◌, ℕ, ◌-◌, ◌++◌, string_bytes}
use Rattle.model.specs.Layouts.{capacity}
use Rattle.model.specs.Sound.{Means}
use Rattle.model.specs.Tables.{Table}
use Rattle.script.specs.Transcript.{blank_pairs, pairs_from, listed}
use Rattle.script.proofs.commands.Script.print_pairs.Given as goal

-- what is left to print leads to what the whole walk prints
abbrev pub invariant-loop-key : goal.invariant-loop-key
invariant-loop-key g l =
    (g.T.SlotMap.layout l.self.table ≡ g.T.SlotMap.layout l.fn.self.table)
    × ((t : Table ℕ) → Means (g.T.SlotMap.layout l.fn.self.table) t
    → string_bytes l.self.out ++ blank_pairs (pairs_from t l.cursor.key) ≡ string_bytes l.fn.self.out ++ listed (pairs_from t 0))

abbrev pub decreases-loop-key : goal.decreases-loop-key
decreases-loop-key g l = capacity (g.T.SlotMap.layout l.initial.self.table) - l.cursor.key

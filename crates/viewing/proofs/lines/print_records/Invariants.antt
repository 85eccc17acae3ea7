use Rattle.std.proofs.Common.{◌≡◌, List, ◌++◌, string_bytes}
use Rattle.std.specs.List.{flat_map}
use Rattle.image.specs.Pieces.{Piece}
use Rattle.image.specs.Walks.{Has}
use Rattle.viewing.specs.Viewed.{line}
use Rattle.viewing.proofs.lines.print_records.Given as goal

-- what is left to print leads to what the whole walk prints
abbrev pub invariant-loop-item : goal.invariant-loop-item
invariant-loop-item l =
    (ps : List Piece) → Has l.fn.records ps
    → (qs : List Piece) × Has l.item-iterator qs × (string_bytes l.out ++ flat_map line qs ≡ string_bytes l.fn.out ++ flat_map line ps)

-- The byte forms of link pairs and voices: their fields in order, each little-endian.
use Rattle.std.specs.Prelude.{ℕ, List, ◌++◌}
use Rattle.std.specs.Int.{w16}
use Rattle.std.proofs.Common.{of_z, to_z}
use Rattle.rows.specs.declared.cell.FreeListEntry.{FreeListEntry}
use Rattle.codes.specs.declared.voice.Voice.{Voice}
use Rattle.codes.specs.Little.{little_bytes, little_at}

-- previous and next, four bytes each
abbrev pub link_bytes : FreeListEntry → List ℕ
link_bytes e = little_bytes 4 e.previous ++ little_bytes 4 e.next

-- and back
abbrev pub link_item : List ℕ → FreeListEntry
link_item string = record { previous = little_at 4 string 0; next = little_at 4 string 4 }

-- first sample and samples left, four bytes each, then the gains, two bytes each in two's complement:
-- `of_z w16` is the 16-bit pattern of a signed number, and `to_z w16` the number of a pattern
abbrev pub voice_bytes : Voice → List ℕ
voice_bytes v =
    little_bytes 4 v.first_sample
    ++ (little_bytes 4 v.samples_left ++ (little_bytes 2 (of_z w16 v.left_gain) ++ little_bytes 2 (of_z w16 v.right_gain)))

-- and back
abbrev pub voice_item : List ℕ → Voice
voice_item string =
    record {
      first_sample = little_at 4 string 0;
      samples_left = little_at 4 string 4;
      left_gain = to_z w16 (little_at 2 string 8);
      right_gain = to_z w16 (little_at 2 string 10);
    }

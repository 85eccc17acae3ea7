-- The records of an image, one after another.
use Rattle.std.specs.Prelude.{ℕ, List, [], ◌∷◌, ◌++◌, map}
use Rattle.image.specs.declared.header.Header.{Header}
use Rattle.image.specs.declared.record.Record.{Record}
use Rattle.image.specs.declared.record.Record.TheVariants as is
use Rattle.image.specs.Format.{Entry, header_bytes, entry_bytes, end_bytes, header_of}

-- an entry by its key and its bytes
abbrev pub entry : ℕ → List ℕ → Entry
entry k bytes = record { key = k; bytes = bytes }

-- a record of an image, wherever its bytes lie in memory
pub data Piece : Type 0 where
  heading : Header → Piece
  value : Entry → Piece
  ending : Piece

abbrev pub piece : Record → Piece
piece (is.Header h) = heading h
piece (is.Value k bytes) = value (entry k bytes.now)
piece is.End = ending

-- its bytes
abbrev pub piece_bytes : Piece → List ℕ
piece_bytes (heading h) = header_bytes h
piece_bytes (value e) = entry_bytes e
piece_bytes ending = end_bytes

-- the records of the image of width w and capacity C of these entries, in order
abbrev pub pieces : ℕ → ℕ → List Entry → List Piece
pieces w C es = heading (header_of w C es) ∷ (map value es ++ (ending ∷ []))

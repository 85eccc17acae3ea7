-- What is printed of an image, or of bytes that are none.
use Rattle.std.specs.Prelude.{ℕ, ◌/◌, ◌%◌, false, List, [], ◌∷◌, ◌++◌, codes, decimal}
use Rattle.std.specs.Fmt.{digit_glyph}
use Rattle.std.specs.List.{flat_map}
use Rattle.refusal.specs.Told.{spelt}
use Rattle.refusal.specs.declared.Refusal.TheVariants.{ImageBroken}
use Rattle.image.specs.Format.{Reading, whole, broken}
use Rattle.image.specs.Pieces.{Piece, heading, value, ending, pieces}

-- a byte in two hexadecimal digits with lower-case letters
abbrev pub two_digits : ℕ → List ℕ
two_digits b = digit_glyph false (b / 16) ∷ (digit_glyph false (b % 16) ∷ [])

-- the line of a record: the sizes that the header says, a key with the bytes of its value, or `ok` for the end
abbrev pub line : Piece → List ℕ
line (heading h) =
    codes "form 1 width " ++ (decimal h.width ++ (codes " capacity " ++ (decimal h.capacity ++ (codes " held " ++ (decimal h.held ++ codes "\n")))))
line (value e) = decimal e.key ++ (codes ": " ++ (flat_map two_digits e.bytes ++ codes "\n"))
line ending = codes "ok\n"

-- a line for each record of an image; or one refusal with the offset at which a rule is broken
abbrev pub viewed : Reading → List ℕ
viewed (whole w C es) = flat_map line (pieces w C es)
viewed (broken n) = spelt (ImageBroken n) ++ codes "\n"

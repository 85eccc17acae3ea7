-- What each refusal is called: its number, and the offset or length that it carries.
use Rattle.std.specs.Prelude.{ℕ, List, [], ◌++◌, Some, None, codes, decimal, Option}
use Rattle.refusal.specs.declared.Refusal.{Refusal}
use Rattle.refusal.specs.declared.Refusal.TheVariants.{KeyPastTable, PlacePastLength, NoSpace, NoCell, NoPlace, PlanTooLarge, BufferTooShort, ImageBroken, OtherShape, TableNotEmpty, AuditFailed, LineNotLegal}

-- the number of each refusal, and what it carries
abbrev pub told : Refusal → ℕ × Option ℕ
told KeyPastTable = (1, None)
told PlacePastLength = (2, None)
told NoSpace = (3, None)
told NoCell = (4, None)
told NoPlace = (5, None)
told PlanTooLarge = (6, None)
told BufferTooShort = (7, None)
told (ImageBroken offset) = (8, Some offset)
told OtherShape = (9, None)
told TableNotEmpty = (10, None)
told AuditFailed = (11, None)
told (LineNotLegal length) = (12, Some length)

-- a number after a blank, if there is one
abbrev pub blank_then : Option ℕ → List ℕ
blank_then None = []
blank_then (Some n) = codes " " ++ decimal n

-- the words that are printed of a refusal: `refused N`, or `refused N M`
abbrev pub spelt : Refusal → List ℕ
spelt r = codes "refused " ++ (decimal (told r).0 ++ blank_then (told r).1)

-- The worked runs of images.
use Rattle.std.proofs.Common.{[], ◌∷◌, length, take, refl, ap, arith}
use Rattle.image.specs.Format.{Legal, Rising, Image, Breaks, no_end, header_of}
use Rattle.runs.specs.Runs.{seven, seven_image}

legal : Legal (header_of 4 3 seven)
legal = record { some = omega arith; width = omega arith; capacity = omega arith; held = omega arith }

rising : Rising (header_of 4 3 seven) 0 seven
rising = (record { rising = omega arith; below = omega arith; whole = refl }, tt)

pub seven_read : Image seven_image 4 3 seven
seven_read = ((legal, rising), refl)

pub seven_cut : Breaks (take 17 seven_image) 16
seven_cut =
    no_end (header_of 4 3 seven) seven (0x53 ∷ []) (record { legal = legal; rising = rising; stand = refl }) refl refl
    (λ rest e. omega (arith, ap length e))

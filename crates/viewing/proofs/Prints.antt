-- Lines that are printed one after another.
use Rattle.std.proofs.Common.{◌≡◌, ℕ, ◌+◌, ◌<◌, List, ◌++◌, length, get_or, take, ap, ◌∙◌, sym}
use Rattle.std.specs.List.{flat_map}
use Rattle.std.proofs.lemmas.List.{take_more, flat_map_more}

-- one more element, after those of a front of the list
pub printed_more : (f : ℕ → List ℕ) (xs out before now : List ℕ) (i : ℕ) → i < length xs → before ≡ out ++ flat_map f (take i xs) → now ≡ before ++ f (get_or xs i 0) → now ≡ out ++ flat_map f (take (i + 1) xs)
printed_more f xs out before now i h done more =
    more ∙ ap (λ x. x ++ f (get_or xs i 0)) done
    ∙ flat_map_more f out (take i xs) (get_or xs i 0)
    ∙ ap (λ ys. out ++ flat_map f ys) (sym (take_more xs i 0 h))

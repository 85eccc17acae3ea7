-- The front of an input tells what is printed of it.
use Rattle.std.proofs.Common.{◌≡◌, ℕ, ◌<◌, ◌≤◌, List, length, take, drop, Some, None, Ok, Err, Option, Result, IfSome, OnOk, subst, ⊎_elim, arith}
use Rattle.std.specs.Option.{option_map}
use Rattle.std.proofs.lemmas.Bool.{cases_lt}
use Rattle.std.proofs.lemmas.List.{length-take, take_all, take-append-drop}
use Rattle.std.specs.Io.KnownBytes.{Appends}
use Rattle.image.specs.Format.{Reading, Reads}
use Rattle.image.proofs.Longest.{read_alike}
use Rattle.viewing.specs.Viewed.{viewed}

front_reads : (n : ℕ) (input : List ℕ) (r : Reading) → 16973575 < n → Reads (take n input) r → Reads input r
front_reads n input r more h =
    ⊎_elim
    (λ (long : n < length input).
    subst (λ xs. Reads xs r) (take-append-drop n input) (read_alike (take n input) (drop n input) r (omega (arith, length-take n input)) h))
    (λ (short : length input ≤ n). subst (λ xs. Reads xs r) (take_all n input short) h)
    (cases_lt n (length input))

-- what is printed of bytes, by what they read as
abbrev pub Viewed : List ℕ → List ℕ → Type 0
Viewed bytes printed = (r : Reading) × Reads bytes r × (printed ≡ viewed r)

-- what is written, of what a limited reader gave
pub front_written : {E : Type 0} (o : Result (Unit {0}) E) (all old new : Option (List ℕ)) (n : ℕ) (front printed : List ℕ) → 16973575 < n
    → IfSome (option_map (take n) all) (λ xs. front ≡ xs) → Viewed front printed → OnOk o (Appends old new printed)
    → OnOk o (IfSome all (λ input. (r : Reading) × Reads input r × Appends old new (viewed r)))
front_written (Ok u) None old new n front printed more read said written = tt
front_written (Ok u) (Some input) old new n front printed more read said written =
    let r = said.0 in
    (r, front_reads n input r more (subst (λ xs. Reads xs r) read said.1), subst (Appends old new) said.2 written)
front_written (Err e) all old new n front printed more read said written = tt

-- The front of an input tells what is printed of it.
use Rattle.std.proofs.Common.{◌≡◌, ℕ, ◌<◌, ◌≤◌, List, length, take, Some, None, Ok, Err, Option, Result, IfSome, OnOk, nat_le, sym, ap, ◌∙◌, subst, ⊎_elim, arith}
use Rattle.std.specs.Option.{option_map}
use Rattle.std.proofs.lemmas.Bool.{cases_lt, cond-false, lt-leb}
use Rattle.std.proofs.lemmas.List.{length-take, take_all}
use Rattle.std.specs.Io.KnownBytes.{Appends}
use Rattle.script.specs.Transcript.{transcript}

pub transcript_front : (n : ℕ) (input : List ℕ) → 65536 < n → transcript (take n input) ≡ transcript input
transcript_front n input more =
    ⊎_elim
    (λ (long : 65536 < length input).
    cond-false (nat_le (length (take n input)) 65536) _ _ (lt-leb (length (take n input)) 65536 (omega (arith, length-take n input)))
    ∙ sym (cond-false (nat_le (length input) 65536) _ _ (lt-leb (length input) 65536 long)))
    (λ (short : length input ≤ 65536). ap transcript (take_all n input (omega arith)))
    (cases_lt 65536 (length input))

-- what is written, of what a limited reader gave
pub front_written : {E : Type 0} (r : Result (Unit {0}) E) (all old new : Option (List ℕ)) (n : ℕ) (front printed : List ℕ) → 65536 < n
    → IfSome (option_map (take n) all) (λ xs. front ≡ xs) → printed ≡ transcript front → OnOk r (Appends old new printed)
    → OnOk r (IfSome all (λ input. Appends old new (transcript input)))
front_written (Ok u) None old new n front printed more read said written = tt
front_written (Ok u) (Some input) old new n front printed more read said written =
    subst (Appends old new) (said ∙ ap transcript read ∙ transcript_front n input more) written
front_written (Err e) all old new n front printed more read said written = tt

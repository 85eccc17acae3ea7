-- Laws of cells and windows, over lists alone.
use Rattle.std.proofs.Common.{◌≡◌, ℕ, zero, suc, ◌+◌, ◌-◌, ◌<◌, ◌≤◌, min, List, [], ◌∷◌, length, get_or, take, drop, set, Ok, Err, refl, ap, ◌∙◌, ⊎_elim, arith}
use lib.Seq.{take-set-lt}
use Rattle.std.specs.List.{slice_get}
use Rattle.std.specs.Result.{result_unwrap_or}
use Rattle.std.proofs.lemmas.List.{get_or-take, get_or-drop, length-take, length-drop, drop-set-add}
use Rattle.std.proofs.lemmas.Bool.{lt-ltb, le-ltb, cases_lt}
use Rattle.std.proofs.lemmas.Option.{slice_get_past, slice_get-get_or}
use Rattle.refusal.specs.declared.Refusal.{Refusal}
use Rattle.refusal.specs.declared.Refusal.TheVariants.{NoPlace}
use Rattle.rows.specs.Cells.{read_at, write_at, window}

-- the answers of reads and writes, within the cells and past them
pub read_within : {T : Type 0} (xs : List T) (i : ℕ) (d : T) → i < length xs → read_at xs i ≡ Ok (get_or xs i d)
read_within xs i d h = rw (slice_get-get_or xs i d h)

pub read_past : {T : Type 0} (xs : List T) (i : ℕ) → length xs ≤ i → read_at xs i ≡ Err NoPlace
read_past xs i h = rw (slice_get_past xs i h)

pub write_within : {T : Type 0} (xs : List T) (i : ℕ) → i < length xs → write_at xs i ≡ Ok tt
write_within xs i h = rw (lt-ltb i (length xs) h)

pub write_past : {T : Type 0} (xs : List T) (i : ℕ) → length xs ≤ i → write_at xs i ≡ Err NoPlace
write_past xs i h = rw (le-ltb i (length xs) h)

-- a read, or something else where it is refused
pub read_or : {T : Type 0} (xs : List T) (i : ℕ) (d : T) → result_unwrap_or (read_at xs i) d ≡ get_or xs i d
read_or [] i d = refl
read_or (x ∷ xs) zero d = refl
read_or (x ∷ xs) (suc i) d = read_or xs i d

-- a read within the cells is not refused
pub read_refused : {T : Type 0} (xs : List T) (i : ℕ) (e : Refusal) → Err e ≡ read_at xs i → i < length xs → ⊥
read_refused [] i e p h = omega arith
read_refused (y ∷ ys) zero e p h = let z : ◌≡◌ {A = ℕ} 0 1 = cc in omega arith
read_refused (y ∷ ys) (suc i) e p h = read_refused ys i e p (omega arith)

pub read_refused_past : {T : Type 0} (xs : List T) (i : ℕ) (e : Refusal) → Err e ≡ read_at xs i → length xs ≤ i
read_refused_past xs i e p =
    ⊎_elim (λ (lt : i < length xs). absurd (read_refused xs i e p lt)) (λ le. le) (cases_lt i (length xs))

pub length_window : {T : Type 0} (from most : ℕ) (xs : List T) → length (window from most xs) ≡ min most (length xs - from)
length_window from most xs = length-take most (drop from xs) ∙ ap (min most) (length-drop from xs)

pub nth_take : {T : Type 0} (n i : ℕ) (xs : List T) → i < n → slice_get (take n xs) i ≡ slice_get xs i
nth_take zero i xs h = absurd (omega arith)
nth_take (suc n) i [] h = refl
nth_take (suc n) zero (x ∷ xs) h = refl
nth_take (suc n) (suc i) (x ∷ xs) h = nth_take n i xs (omega arith)

pub get_d_window : {T : Type 0} (from most i : ℕ) (xs : List T) (d : T) → i < most → get_or (window from most xs) i d ≡ get_or xs (from + i) d
get_d_window from most i xs d h = get_or-take most (drop from xs) i d h ∙ get_or-drop from xs i d

pub set_window : {T : Type 0} (from most i : ℕ) (xs : List T) (v : T) → i < most → window from most (set xs (from + i) v) ≡ set (window from most xs) i v
set_window from most i xs v h = ap (take most) (drop-set-add from xs i v) ∙ take-set-lt most (drop from xs) i v h

-- a place that the window shows lies in the row below
pub window_within : {T : Type 0} (from most i : ℕ) (xs : List T) → i < length (window from most xs) → (i < most) × (from + i < length xs)
window_within from most i xs h = let e = length_window from most xs in (omega arith, omega arith)

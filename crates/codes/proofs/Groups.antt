-- Laws of packed cells, over lists alone.
use Rattle.std.proofs.Common.{◌≡◌, ℕ, ◌+◌, ◌-◌, ◌*◌, ◌/◌, ◌<◌, ◌≤◌, List, ◌++◌, length, get_or, take, drop, set, replicate, Ok, sym, ap, ◌∙◌, ⊎_elim, mul-le-mul_right, add-mul, one-mul, zero-add, div-mul-le_self, arith}
use lib.Seq.{paste}
use Rattle.std.proofs.lemmas.List.FromFn.{length-map-range_with_len, get_or-map-range_with_len}
use Rattle.std.proofs.lemmas.List.Edits.{paste_more, paste_all, length-paste, drop-paste}
use Rattle.std.proofs.lemmas.List.{drop_at, drop-drop, drop-take, get_or-set_same, get_or-set_other, length-replicate, length-set, length-take-le, same_lists, take-append-le, take_at, take-take}
use Rattle.std.proofs.lemmas.Bool.{cases_eq, cases_lt}
use Rattle.rows.specs.Cells.{read_at, window}
use Rattle.rows.proofs.Cells.{read_within}
use Rattle.codes.specs.Packed.{packed, behind}

pub gather_more : (s : List ℕ) (n i b : ℕ) → i < n → length s ≡ n → b ≡ get_or s i 0 → set (paste (replicate n 0) 0 s i) i b ≡ paste (replicate n 0) 0 s (i + 1)
gather_more s n i b h e g =
    let step = paste_more (replicate n 0) 0 s i 0 (simp (length-replicate, zero-add) h) (omega arith) in
    ap (λ b. set (paste (replicate n 0) 0 s i) i b) g
    ∙ ap (λ k. set (paste (replicate n 0) 0 s i) k (get_or s i 0)) (sym (zero-add i))
    ∙ step

-- group i lies within the bytes, and within the whole groups
pub group_within : (n w i : ℕ) → 0 < w → i < n / w → i * w + w ≤ n / w * w
group_within n w i some h =
    let e : (i + 1) * w ≡ i * w + w = add-mul i 1 w ∙ ap (λ k. i * w + k) (one-mul w) in
    let le : (i + 1) * w ≤ n / w * w = mul-le-mul_right w (omega arith) in
    omega arith

pub group_fits : (n w i : ℕ) → 0 < w → i < n / w → i * w + w ≤ n
group_fits n w i some h = let a = group_within n w i some h in let b = div-mul-le_self n w in omega arith

-- two groups do not meet
pub groups_apart : (w i k : ℕ) → i < k → i * w + w ≤ k * w
groups_apart w i k h =
    let e : (i + 1) * w ≡ i * w + w = add-mul i 1 w ∙ ap (λ k. i * w + k) (one-mul w) in
    let le : (i + 1) * w ≤ k * w = mul-le-mul_right w (omega arith) in
    omega arith

-- what a window shows of a list into which a string was pasted
pub paste_here : {T : Type 0} (xs : List T) (at : ℕ) (s : List T) (n : ℕ) → at + n ≤ length xs → length s ≡ n → window at n (paste xs at s n) ≡ s
paste_here xs at s n h e =
    ap (λ ys. take n (drop at ys)) (paste_all xs at s n (sym e))
    ∙ ap (take n) (drop_at (take at xs) (s ++ drop (at + n) xs) at (length-take-le at xs (omega arith)))
    ∙ take_at s (drop (at + n) xs) n e

pub paste_behind : {T : Type 0} (xs : List T) (at : ℕ) (s : List T) (n f : ℕ) → at + n ≤ length xs → length s ≡ n → at + n ≤ f → drop f (paste xs at s n) ≡ drop f xs
paste_behind xs at s n f h e le =
    let split : f ≡ at + n + (f - (at + n)) = omega arith in
    ap (λ k. drop k (paste xs at s n)) split
    ∙ sym (drop-drop (f - (at + n)) (at + n) (paste xs at s n))
    ∙ ap (drop (f - (at + n))) (drop-paste xs at s n (omega arith) (omega arith))
    ∙ drop-drop (f - (at + n)) (at + n) xs
    ∙ ap (λ k. drop k xs) (sym split)

pub paste_before : {T : Type 0} (xs : List T) (at : ℕ) (s : List T) (n f m : ℕ) → at + n ≤ length xs → length s ≡ n → f + m ≤ at → window f m (paste xs at s n) ≡ window f m xs
paste_before xs at s n f m h e le =
    let whole = length-take-le at xs (omega arith) in
    sym (drop-take f m (paste xs at s n))
    ∙ ap (drop f)
    (
    ap (take (f + m)) (paste_all xs at s n (sym e))
    ∙ take-append-le (f + m) (take at xs) (s ++ drop (at + n) xs) (omega arith)
    ∙ take-take (f + m) at xs le
    )
    ∙ drop-take f m xs

module _ {K : Type 0} (w : ℕ) (item : List ℕ → K) (some : 0 < w) (xs : List ℕ) where
  pub length_packed : length (packed w item xs) ≡ length xs / w
  length_packed = length-map-range_with_len (λ i. item (window (i * w) w xs)) 0 (length xs / w)

  pub get_d_packed : (i : ℕ) (d : K) → i < length xs / w → get_or (packed w item xs) i d ≡ item (window (i * w) w xs)
  get_d_packed i d h = get_or-map-range_with_len (λ i. item (window (i * w) w xs)) 0 (length xs / w) i i d h (zero-add i)

  pub packed_read : (i : ℕ) → i < length xs / w → Ok (item (window (i * w) w xs)) ≡ read_at (packed w item xs) i
  packed_read i h =
      let d = item (window (i * w) w xs) in
      sym (read_within (packed w item xs) i d (rw length_packed h) ∙ ap Ok (get_d_packed i d h))

module _ {K : Type 0} (w : ℕ) (item : List ℕ → K) (some : 0 < w) (xs : List ℕ) (p : ℕ) (s : List ℕ) (in-range : p < length xs / w) (sized : length s ≡ w) where
  length_pasted : length (paste xs (p * w) s w) ≡ length xs
  length_pasted = length-paste xs (p * w) s w (group_fits (length xs) w p some in-range) (omega arith)

  -- any other group is as it was
  other_group : (k : ℕ) → (k ≡ p → ⊥) → window (k * w) w (paste xs (p * w) s w) ≡ window (k * w) w xs
  other_group k apart =
      let fits = group_fits (length xs) w p some in-range in
      ⊎_elim
      (λ before. paste_before xs (p * w) s w (k * w) w fits sized (groups_apart w k p before))
      (λ after. ap (take w) (paste_behind xs (p * w) s w (k * w) fits sized (groups_apart w p k (omega arith))))
      (cases_lt k p)

  pub packed_write : packed w item (paste xs (p * w) s w) ≡ set (packed w item xs) p (item s)
  packed_write =
      let ys = paste xs (p * w) s w in
      let counts : length ys / w ≡ length xs / w = ap (λ n. n / w) length_pasted in
      same_lists (packed w item ys) (set (packed w item xs) p (item s))
      (length_packed w item some ys ∙ counts ∙ sym (length_packed w item some xs) ∙ sym (length-set (packed w item xs) p (item s)))
      (λ k d h.
      let lt : k < length ys / w = omega (arith, length_packed w item some ys) in
      get_d_packed w item some ys k d lt
      ∙ ⊎_elim
      (λ (same : k ≡ p).
      ap item (ap (λ i. window (i * w) w ys) same ∙ paste_here xs (p * w) s w (group_fits (length xs) w p some in-range) sized)
      ∙ sym (get_or-set_same (packed w item xs) p (item s) d (rw (length_packed w item some xs) in-range))
      ∙ ap (λ i. get_or (set (packed w item xs) p (item s)) i d) (sym same))
      (λ (apart : k ≡ p → ⊥).
      ap item (other_group k apart)
      ∙ sym (get_d_packed w item some xs k d (omega arith))
      ∙ sym (get_or-set_other (packed w item xs) p k (item s) d apart))
      (cases_eq k p))

  pub behind_write : {O : Type 0} (o q : O) → q ≡ o → behind q w (paste xs (p * w) s w) ≡ behind o w xs
  behind_write o q e =
      let ys = paste xs (p * w) s w in
      let kept = ap (λ n. drop (n / w * w) ys) length_pasted ∙ paste_behind xs (p * w) s w (length xs / w * w) (group_fits (length xs) w p some in-range) sized (group_within (length xs) w p some in-range) in
      ap (λ r. (r, drop (length ys / w * w) ys)) e ∙ ap (λ bs. (o, bs)) kept

pub behind_same : {O : Type 0} (w : ℕ) (o q : O) (xs ys : List ℕ) → q ≡ o → ys ≡ xs → behind q w ys ≡ behind o w xs
behind_same w o q xs ys eo ex = cc

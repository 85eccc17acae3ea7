-- Laws of the ring and of a queue's contents, over numbers and lists alone.
use Rattle.std.proofs.Common.{◌≡◌, ℕ, zero, suc, ◌+◌, ◌-◌, ◌%◌, ◌<◌, ◌≤◌, List, [], ◌∷◌, ◌++◌, length, drop, set, None, Some, Option, sym, refl, ap, ◌∙◌, ⊎_elim, add-zero, mod-lt, mod-eq_of_lt, zero-add, arith}
use native.Mathlib.Nat.{mod-eq-sub-mod, mod-add-mod}
use Rattle.std.proofs.iter.runs.Lists.{nth_drop, nth_left, nth_seam}
use Rattle.std.proofs.lemmas.List.{length-append, length-drop, length-set, length_push}
use Rattle.std.proofs.lemmas.Bool.{cases_eq, cases_lt}
use Rattle.std.specs.List.{slice_get, range_with_len, flat_map}
use Rattle.std.specs.Option.{option_to_list}
use Rattle.containers.specs.Queues.{QueueState, Backed, place_of, contents, pushed, popped}

-- once round the ring at most
pub wrap_below : (x c : ℕ) → x < c → x % c ≡ x
wrap_below x c h = mod-eq_of_lt h

pub wrap_past : (x c : ℕ) → c ≤ x → x < c + c → x % c ≡ x - c
wrap_past x c le lt = mod-eq-sub-mod le ∙ mod-eq_of_lt (omega arith)

-- two lists with the same elements at each place are the same
pub same_nth : {T : Type 0} (xs ys : List T) → length xs ≡ length ys → ((k : ℕ) → k < length xs → slice_get xs k ≡ slice_get ys k) → xs ≡ ys
same_nth [] [] e h = refl
same_nth [] (y ∷ ys) e h = absurd (omega arith)
same_nth (x ∷ xs) [] e h = absurd (omega arith)
same_nth (x ∷ xs) (y ∷ ys) e h =
    let first : Some x ≡ Some y = h 0 (omega arith) in
    let rest : xs ≡ ys = same_nth xs ys (omega arith) (λ k lt. h (suc k) (omega arith)) in
    cc

pub nth_some : {T : Type 0} (xs : List T) (i : ℕ) → i < length xs → (x : T) × (slice_get xs i ≡ Some x)
nth_some [] i h = absurd (omega arith)
nth_some (x ∷ xs) zero h = (x, refl)
nth_some (x ∷ xs) (suc i) h = nth_some xs i (omega arith)

pub nth_set_same : {T : Type 0} (xs : List T) (i : ℕ) (v : T) → i < length xs → slice_get (set xs i v) i ≡ Some v
nth_set_same [] i v h = absurd (omega arith)
nth_set_same (x ∷ xs) zero v h = refl
nth_set_same (x ∷ xs) (suc i) v h = nth_set_same xs i v (omega arith)

pub nth_set_other : {T : Type 0} (xs : List T) (i k : ℕ) (v : T) → (k ≡ i → ⊥) → slice_get (set xs i v) k ≡ slice_get xs k
nth_set_other [] i k v apart = refl
nth_set_other (x ∷ xs) zero zero v apart = absurd (apart refl)
nth_set_other (x ∷ xs) zero (suc k) v apart = refl
nth_set_other (x ∷ xs) (suc i) zero v apart = refl
nth_set_other (x ∷ xs) (suc i) (suc k) v apart = nth_set_other xs i k v (λ e. apart (ap suc e))

length_option : {T : Type 0} (o : Option T) → length (option_to_list o) ≤ 1
length_option None = omega arith
length_option (Some x) = omega arith

-- a list picked place by place, where each place has something
module _ {T : Type 0} (f : ℕ → Option T) where
  abbrev picked : ℕ → ℕ → List T
  picked a n = flat_map (λ i. option_to_list (f i)) (range_with_len a n)

  pick_first : (a n : ℕ) (x : T) → f a ≡ Some x → picked a (suc n) ≡ x ∷ picked (a + 1) n
  pick_first a n x e = ap (λ o. option_to_list o ++ picked (a + 1) n) e

  length_picked_most : (a n : ℕ) → length (picked a n) ≤ n
  length_picked_most a zero = omega arith
  length_picked_most a (suc n) =
      omega (arith, length-append (option_to_list (f a)) (picked (a + 1) n), length_option (f a), length_picked_most (a + 1) n)

  pub length_picked : (a n : ℕ) → ((i : ℕ) → a ≤ i → i < a + n → (x : T) × (f i ≡ Some x)) → length (picked a n) ≡ n
  length_picked a zero h = refl
  length_picked a (suc n) h =
      let it = h a (omega arith) (omega arith) in
      ap length (pick_first a n it.0 it.1) ∙ ap suc (length_picked (a + 1) n (λ i le lt. h i (omega arith) (omega arith)))

  pub nth_picked : (a n k : ℕ) → ((i : ℕ) → a ≤ i → i < a + n → (x : T) × (f i ≡ Some x)) → k < n → slice_get (picked a n) k ≡ f (a + k)
  nth_picked a zero k h lt = absurd (omega arith)
  nth_picked a (suc n) zero h lt =
      let it = h a (omega arith) (omega arith) in
      ap (λ xs. slice_get xs 0) (pick_first a n it.0 it.1) ∙ sym it.1 ∙ ap f (sym (add-zero a))
  nth_picked a (suc n) (suc k) h lt =
      let it = h a (omega arith) (omega arith) in
      ap (λ xs. slice_get xs (suc k)) (pick_first a n it.0 it.1)
      ∙ nth_picked (a + 1) n k (λ i le l. h i (omega arith) (omega arith)) (omega arith)
      ∙ ap f (omega arith)

-- a queue holds at most what its length says
pub length_contents_most : {T : Type 0} (q : QueueState T) → length (contents q) ≤ q.len
length_contents_most q = length_picked_most (λ i. slice_get q.cells (place_of q i)) 0 q.len

module _ {T : Type 0} (q : QueueState T) (within : q.len ≤ q.capacity) (backed : Backed q) where
  held : (i : ℕ) → 0 ≤ i → i < 0 + q.len → (x : T) × (slice_get q.cells (place_of q i) ≡ Some x)
  held i le lt =
      let some : 0 < q.capacity = omega arith in
      let below = mod-lt (q.start + q.capacity - q.len + i) some in
      nth_some q.cells (place_of q i) (omega arith)

  pub length_contents : length (contents q) ≡ q.len
  length_contents = length_picked (λ i. slice_get q.cells (place_of q i)) 0 q.len held

  pub nth_contents : (i : ℕ) → i < q.len → slice_get (contents q) i ≡ slice_get q.cells (place_of q i)
  nth_contents i h =
      nth_picked (λ i. slice_get q.cells (place_of q i)) 0 q.len i held h ∙ ap (λ k. slice_get q.cells (place_of q k)) (zero-add i)

-- after a push the elements lie where they lay, and the new one at the old start
module _ (s c n : ℕ) (begins : s ≤ c - 1) (room : n < c) where
  pub place_pushed : (i : ℕ) → ((s + 1) % c + c - (n + 1) + i) % c ≡ (s + c - n + i) % c
  place_pushed i =
      let around : (s + 1) % c + c - (n + 1) + i ≡ (s + 1) % c + (c - (n + 1) + i) = omega arith in
      let onward : s + 1 + (c - (n + 1) + i) ≡ s + c - n + i = omega arith in
      ap (λ x. x % c) around ∙ mod-add-mod (s + 1) c (c - (n + 1) + i) ∙ ap (λ x. x % c) onward

  pub place_newest : (s + c - n + n) % c ≡ s
  place_newest =
      let past = wrap_past (s + c - n + n) c (omega arith) (omega arith) in
      omega arith

  pub place_apart : (i : ℕ) → i < n → (s + c - n + i) % c ≡ s → ⊥
  place_apart i lt e =
      ⊎_elim
      (λ (below : s + c - n + i < c). omega (arith, wrap_below (s + c - n + i) c below))
      (λ (past : c ≤ s + c - n + i). omega (arith, wrap_past (s + c - n + i) c past (omega arith)))
      (cases_lt (s + c - n + i) c)

module _ {T : Type 0} (q : QueueState T) (begins : q.start ≤ q.capacity - 1) (within : q.len ≤ q.capacity) (backed : Backed q) where
  pub pushed_backed : (v : T) → Backed (pushed q v)
  pushed_backed v = simp length-set backed

  pub contents_pushed : (v : T) → q.len < q.capacity → contents (pushed q v) ≡ contents q ++ (v ∷ [])
  contents_pushed v room =
      let new = pushed q v in
      let old-length = length_contents q within backed in
      let new-length = length_contents new (omega arith) (pushed_backed v) in
      let moved : (k : ℕ) → slice_get new.cells (place_of new k) ≡ slice_get new.cells (place_of q k)
      = λ k. ap (slice_get new.cells) (place_pushed q.start q.capacity q.len begins room k) in
      same_nth (contents new) (contents q ++ (v ∷ []))
      (new-length ∙ sym (length_push (contents q) v ∙ ap (λ n. n + 1) old-length))
      (λ k h.
      nth_contents new (omega arith) (pushed_backed v) k (omega arith)
      ∙ moved k
      ∙ ⊎_elim
      (λ (newest : k ≡ q.len).
      ap (λ i. slice_get new.cells (place_of q i)) newest
      ∙ ap (slice_get new.cells) (place_newest q.start q.capacity q.len begins room)
      ∙ nth_set_same q.cells q.start v (omega arith)
      ∙ sym (nth_seam (contents q) v)
      ∙ ap (slice_get (contents q ++ (v ∷ []))) (old-length ∙ sym newest))
      (λ (older : k ≡ q.len → ⊥).
      let lt : k < q.len = omega arith in
      nth_set_other q.cells q.start (place_of q k) v (place_apart q.start q.capacity q.len begins room k lt)
      ∙ sym (nth_contents q within backed k lt)
      ∙ sym (nth_left (contents q) (v ∷ []) k (omega arith)))
      (cases_eq k q.len))

  pub contents_popped : contents (popped q) ≡ drop 1 (contents q)
  contents_popped =
      let new = popped q in
      let old-length = length_contents q within backed in
      let new-length = length_contents new (omega arith) backed in
      same_nth (contents new) (drop 1 (contents q))
      (new-length ∙ sym (length-drop 1 (contents q) ∙ ap (λ n. n - 1) old-length))
      (λ k h.
      let lt : 1 + k < q.len = omega arith in
      let onward : q.start + q.capacity - (q.len - 1) + k ≡ q.start + q.capacity - q.len + (1 + k) = omega arith in
      nth_contents new (omega arith) backed k (omega arith)
      ∙ ap (λ x. slice_get q.cells (x % q.capacity)) onward
      ∙ sym (nth_contents q within backed (1 + k) lt)
      ∙ sym (nth_drop 1 (contents q) k))

-- The cells of a fresh table mean the fresh table.
use Rattle.std.proofs.Common.{◌≡◌, ℕ, zero, suc, ◌+◌, ◌-◌, ◌%◌, ◌<◌, ◌≤◌, eqb, ltb, List, length, get_or, drop, set, Some, sym, refl, ap, ◌∙◌, subst, ⊎_elim, mod-eq_of_lt, arith, length-set}
use native.Mathlib.Nat.{mod_self}
use Rattle.std.specs.List.{slice_get, range_with_len, AllByRecursion}
use Rattle.std.proofs.lemmas.List.FromFn.{length-range_with_len, get_or-range_with_len}
use Rattle.std.proofs.lemmas.List.{get_or-set_same, get_or-set_other, drop-set-lt}
use Rattle.std.proofs.lemmas.Option.{slice_get-get_or}
use Rattle.std.proofs.lemmas.Bool.{cases_eq, ne_eqb, lt-ltb, le-ltb, cond-true, cond-false}
use Rattle.rows.specs.declared.cell.FreeListEntry.{FreeListEntry}
use Rattle.containers.specs.Queues.{QueueState, contents}
use Rattle.containers.proofs.Rounds.{same_nth, length_contents, nth_contents}
use Rattle.model.specs.Counts.{sum_to, same, count}
use Rattle.model.specs.Layouts.{Layout, SameBeyond, nil, unlinked, slot_at, link_at}
use Rattle.model.specs.Tables.{fresh}
use Rattle.model.specs.Sound.{Linked, holds, Means}
use Rattle.model.specs.Fresh.{written, key_of, key_before, fresh_link, bare, fresh_layout, slots_to, least}
use Rattle.model.proofs.Sums.{same_yes, same_no, sum_alike, sum_zero}
use Rattle.model.proofs.Refines.{holds_no, cell_none}

pub written_length : {X : Type 0} (f : ℕ → X) (n : ℕ) (xs : List X) → length (written f n xs) ≡ length xs
written_length f zero xs = refl
written_length f (suc n) xs = length-set (written f n xs) n (f n) ∙ written_length f n xs

pub written_at : {X : Type 0} (f : ℕ → X) (n : ℕ) (xs : List X) (k : ℕ) (d : X) → k < n → k < length xs
    → get_or (written f n xs) k d ≡ f k
written_at f zero xs k d l b = absurd (omega arith)
written_at f (suc n) xs k d l b =
    ⊎_elim
    (λ (e : k ≡ n).
    ap (λ j. get_or (set (written f n xs) n (f n)) j d) e
    ∙ get_or-set_same (written f n xs) n (f n) d (omega (arith, written_length f n xs))
    ∙ ap f (sym e))
    (λ (e : k ≡ n → ⊥). get_or-set_other (written f n xs) n k (f n) d e ∙ written_at f n xs k d (omega arith) b)
    (cases_eq k n)

-- places from n on are as before
pub written_past : {X : Type 0} (f : ℕ → X) (n : ℕ) (xs : List X) (k : ℕ) (d : X) → n ≤ k
    → get_or (written f n xs) k d ≡ get_or xs k d
written_past f zero xs k d l = refl
written_past f (suc n) xs k d l =
    get_or-set_other (written f n xs) n k (f n) d (omega arith) ∙ written_past f n xs k d (omega arith)

pub written_beyond : {X : Type 0} (f : ℕ → X) (C n : ℕ) (xs : List X) → n ≤ C → drop C (written f n xs) ≡ drop C xs
written_beyond f C zero xs b = refl
written_beyond f C (suc n) xs b = drop-set-lt C (written f n xs) n (f n) (omega arith) ∙ written_beyond f C n xs (omega arith)

-- no cell at or past the capacity is written
pub fresh_beyond : {V : Type 0} (C : ℕ) (xs : List ℕ) (ls : List FreeListEntry) (vs : List V) (qs : List ℕ) (l : Layout V)
    → l ≡ fresh_layout C xs ls vs qs → SameBeyond (bare C xs ls vs qs) l
fresh_beyond C xs ls vs qs l e =
    subst (SameBeyond (bare C xs ls vs qs)) (sym e)
    (written_beyond (λ _. nil) C C xs (omega arith), written_beyond (fresh_link C) C C ls (omega arith), refl, written_beyond (λ k. k) C C qs (omega arith))

count_before : (k a n : ℕ) → k < a → count k (range_with_len a n) ≡ 0
count_before k a zero l = refl
count_before k a (suc n) l = omega (arith, same_no k a (omega arith), count_before k (a + 1) n (omega arith))

pub count_counting : (k a n : ℕ) → a ≤ k → k < a + n → count k (range_with_len a n) ≡ 1
count_counting k a zero l b = absurd (omega arith)
count_counting k a (suc n) l b =
    ⊎_elim
    (λ (e : k ≡ a). omega (arith, same_yes k a e, count_before k (a + 1) n (omega arith)))
    (λ (e : k ≡ a → ⊥). omega (arith, same_no k a e, count_counting k (a + 1) n (omega arith) (omega arith)))
    (cases_eq k a)

all_counting : (C a n : ℕ) → a + n ≤ C → AllByRecursion (λ s. s < C) (range_with_len a n)
all_counting C a zero l = tt
all_counting C a (suc n) l = (omega arith, all_counting C (a + 1) n (omega arith))

linked_up : (ls : List FreeListEntry) (C a n : ℕ) → a + n ≡ C → ((k : ℕ) → k < C → link_at ls k ≡ fresh_link C k)
    → Linked ls C (key_before a) (key_of C a) (range_with_len a n)
linked_up ls C a zero e h = cond-false (ltb a C) a nil (le-ltb a C (omega arith))
linked_up ls C a (suc n) e h =
    let here = h a (omega arith) in
    let r : Linked ls C (key_before (a + 1)) (key_of C (a + 1)) (range_with_len (a + 1) n) = linked_up ls C (a + 1) n (omega arith) h in
    let before : key_before (a + 1) ≡ a =
    let p : a + 1 - 1 ≡ a = omega arith in
    cond-false (eqb (a + 1) 0) nil (a + 1 - 1) (ne_eqb (a + 1) 0 (omega arith)) ∙ p in (
      cond-true (ltb a C) a nil (lt-ltb a C (omega arith)),
      omega arith,
      ap (λ q. q.previous) here,
      subst (λ q. Linked ls C a q (range_with_len (a + 1) n)) (sym (ap (λ q. q.next) here))
          (subst (λ q. Linked ls C q (key_of C (a + 1)) (range_with_len (a + 1) n)) before r),
    )

-- a queue of all slots in order
slots_up : (q : QueueState ℕ) → q.start ≡ 0 → q.len ≡ q.capacity → q.capacity ≤ length q.cells → ((k : ℕ) → k < q.capacity → slot_at q.cells k ≡ k)
    → contents q ≡ range_with_len 0 q.capacity
slots_up q s0 full backed up =
    let sized = length_contents q (omega arith) backed in
    same_nth (contents q) (range_with_len 0 q.capacity) (sized ∙ full ∙ sym (length-range_with_len 0 q.capacity))
    (λ k h.
    let b : k < q.capacity = omega arith in
    let at : q.start + q.capacity - q.len + k ≡ k = omega arith in
    nth_contents q (omega arith) backed k (omega arith)
    ∙ ap (λ x. slice_get q.cells (x % q.capacity)) at
    ∙ ap (slice_get q.cells) (mod-eq_of_lt b)
    ∙ slice_get-get_or q.cells k nil (omega arith)
    ∙ ap Some (up k b)
    ∙ sym (slice_get-get_or (range_with_len 0 q.capacity) k 0 (omega (arith, length-range_with_len 0 q.capacity)) ∙ ap Some (get_or-range_with_len 0 q.capacity k 0 b ∙ omega arith)))

pub fresh_means : {V : Type 0} (C : ℕ) (xs : List ℕ) (ls : List FreeListEntry) (vs : List V) (qs : List ℕ)
    → C ≤ 65535 → C ≤ length xs → C ≤ length ls → C ≤ length vs → C ≤ length qs
    → Means (fresh_layout C xs ls vs qs) (fresh C)
fresh_means {V} C xs ls vs qs small fx fl fv fq =
    let ys = written (λ _. nil) C xs in
    let ms = written (fresh_link C) C ls in
    let rs = written (λ k. k) C qs in
    let q : QueueState ℕ = record { capacity = C; start = 0; len = C; cells = rs } in
    let empty : (k : ℕ) → k < C → slot_at ys k ≡ nil = λ k b. written_at (λ _. nil) C xs k nil b (omega arith) in
    let up : (k : ℕ) → k < C → slot_at rs k ≡ k = λ k b. written_at (λ k. k) C qs k nil b (omega arith) in
    let linked : (k : ℕ) → k < C → link_at ms k ≡ fresh_link C k =
    λ k b. written_at (fresh_link C) C ls k unlinked b (omega arith) in
    let behind : C ≤ length rs = omega (arith, fq, written_length (λ k. k) C qs) in
    let line : contents q ≡ range_with_len 0 C = slots_up q refl refl behind up in
    record {
      size = refl;
      small = small;
      indexes = omega (arith, fx, written_length (λ _. nil) C xs);
      linked = omega (arith, fl, written_length (fresh_link C) C ls);
      stores = fv;
      backed = behind;
      begins = omega arith;
      within = omega arith;
      free = linked_up ms C 0 C (omega arith) linked;
      keys = λ k b. count_counting k 0 C (omega arith) (omega arith) ∙ sym (same_yes (slot_at ys k) nil (empty k b));
      loose = λ k b e. absurd (e (empty k b));
      slotted = λ k b e. absurd (e (empty k b));
      queued = subst (AllByRecursion (λ s. s < C)) (sym line) (all_counting C 0 C (omega arith));
      shared = λ s b.
          let none : sum_to (λ k. same s (slot_at ys k)) C ≡ 0 =
          sum_alike (λ k. same s (slot_at ys k)) (λ _. 0) C
          (λ k bk. ap (same s) (empty k bk) ∙ same_no s nil (omega arith))
          ∙ sum_zero C in
          omega (arith, none, ap (count s) line, count_counting s 0 C (omega arith) (omega arith));
      counted = sym (sum_alike (holds ys) (λ _. 0) C (λ k bk. holds_no ys k (empty k bk)) ∙ sum_zero C);
      valued = λ k b. sym (cell_none ys vs k (empty k b));
    }

pub slots_all : (C : ℕ) (cells : List ℕ) → slots_to C C cells ≡ record { capacity = C; start = 0; len = C; cells = written (λ k. k) C cells }
slots_all C cells = ap (λ s. record { capacity = C; start = s; len = C; cells = written (λ k. k) C cells }) (mod_self C)

-- cells written so, part by part, are those of a fresh table
pub fresh_laid : {V : Type 0} (n C h m : ℕ) (xs xs₁ ys : List ℕ) (ls ls₁ ms : List FreeListEntry) (vs ws : List V) (qs qs₁ qs₂ : List ℕ) (q : QueueState ℕ)
    → n ≡ C → xs₁ ≡ xs → ys ≡ written (λ _. nil) n xs₁ → ls₁ ≡ ls → ms ≡ written (fresh_link n) n ls₁ → ws ≡ vs → h ≡ key_of n 0
    → m ≡ n → qs₂ ≡ qs₁ → qs₁ ≡ qs → q ≡ slots_to m m qs₂
    → ◌≡◌ {A = Layout V} (record { head = h; len = 0; index = ys; links = ms; values = ws; slots = q }) (fresh_layout C xs ls vs qs)
fresh_laid {V} n C h m xs xs₁ ys ls ls₁ ms vs ws qs qs₁ qs₂ q en ex ey el em ew eh emn e2 e1 eq =
    let index : ys ≡ written (λ _. nil) C xs = ey ∙ ap (λ k. written (λ _. nil) k xs₁) en ∙ ap (written (λ _. nil) C) ex in
    let links : ms ≡ written (fresh_link C) C ls = em ∙ ap (λ k. written (fresh_link k) k ls₁) en ∙ ap (written (fresh_link C) C) el in
    let head : h ≡ key_of C 0 = eh ∙ ap (λ k. key_of k 0) en in
    let slots : q ≡ record { capacity = C; start = 0; len = C; cells = written (λ k. k) C qs }
    = eq ∙ ap (λ k. slots_to k k qs₂) (emn ∙ en) ∙ ap (slots_to C C) (e2 ∙ e1) ∙ slots_all C qs in
    λ i. record { head = head i; len = 0; index = index i; links = links i; values = ew i; slots = slots i }

-- what init makes means the fresh table
pub fresh_least : {V : Type 0} (asked : ℕ) (xs : List ℕ) (ls : List FreeListEntry) (vs : List V) (qs : List ℕ) (l : Layout V)
    → l ≡ fresh_layout (least asked (length xs) (length ls) (length vs) (length qs)) xs ls vs qs
    → Means l (fresh (least asked (length xs) (length ls) (length vs) (length qs)))
fresh_least asked xs ls vs qs l e =
    let C = least asked (length xs) (length ls) (length vs) (length qs) in
    subst (λ n. Means n (fresh C)) (sym e) (fresh_means C xs ls vs qs (omega arith) (omega arith) (omega arith) (omega arith) (omega arith))

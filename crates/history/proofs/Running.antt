-- A list of calls made one after another, by the cells.
use Rattle.std.proofs.Common.{◌≡◌, ℕ, ◌+◌, ◌<◌, ◌≤◌, Bool, true, false, cond, List, [], ◌∷◌, ◌++◌, length, get_or, take, drop, set, is_ok, Some, None, Ok, Err, Option, Result, sym, refl, ap, ◌∙◌, subst, append_assoc, arith}
use Rattle.std.specs.List.{AllByRecursion}
use Rattle.std.proofs.lemmas.List.{take_more, drop_more, set_at, take_at, length-take}
use Rattle.refusal.specs.declared.Refusal.{Refusal}
use Rattle.model.specs.Checks.{insert_cells, insert_at_cells, stored_at, slot_of, remove_cells, get_cells, when_given}
use Rattle.model.specs.Layouts.{Layout, capacity, SameBeyond}
use Rattle.history.specs.declared.calls.Call.{Call}
use Rattle.history.specs.declared.calls.Call.TheVariants.{Insert, InsertAt, Remove, Replace, Get, Contains, NextFreeKey, Len, Capacity, IsEmpty, IsFull, Step}
use Rattle.history.specs.declared.calls.Answer.{Answer}
use Rattle.history.specs.declared.calls.Answer.TheVariants.{Done}
use Rattle.history.specs.Calls.{cells_answer, cells_after, cells_answers, cells_after_all}
use Rattle.history.specs.Histories.{Event, Idle}
use Rattle.history.specs.Promise.{Reached, paired}
use Rattle.history.proofs.Made.{reached_all}

-- no call changes the capacity
given_size : {V A : Type 0} (r : Result (Option A) Refusal) (m l : Layout V) → capacity m ≡ capacity l → capacity (when_given r m l) ≡ capacity l
given_size (Ok (Some x)) m l e = e
given_size (Ok None) m l e = refl
given_size (Err d) m l e = refl

done_size : {V : Type 0} (b : Bool) (m l : Layout V) → capacity m ≡ capacity l → capacity (cond b m l) ≡ capacity l
done_size true m l e = e
done_size false m l e = refl

stored_size : {V : Type 0} (l : Layout V) (k : ℕ) (v : V) (r : Result (Option ℕ) Refusal) → capacity (stored_at l k v r) ≡ capacity l
stored_size l k v (Ok None) = refl
stored_size l k v (Ok (Some s)) = refl
stored_size l k v (Err e) = refl

pub call_size : {V : Type 0} (l : Layout V) (c : Call V) → capacity (cells_after l c) ≡ capacity l
call_size l (Insert v) = given_size (insert_cells l) _ l refl
call_size l (InsertAt k v) = done_size (is_ok (insert_at_cells l k)) _ l (stored_size l k v (slot_of l k))
call_size l (Remove k) = given_size (remove_cells l k) _ l refl
call_size l (Replace k v) = given_size (get_cells l k) _ l refl
call_size l (Get k) = refl
call_size l (Contains k) = refl
call_size l NextFreeKey = refl
call_size l Len = refl
call_size l Capacity = refl
call_size l IsEmpty = refl
call_size l IsFull = refl
call_size l (Step p) = refl

pub beyond_more : {V : Type 0} (l m n : Layout V) → capacity m ≡ capacity l → SameBeyond l m → SameBeyond m n → SameBeyond l n
beyond_more l m n e p q =
    let r : SameBeyond m n → (drop (capacity l) n.index ≡ drop (capacity l) m.index) × (drop (capacity l) n.links ≡ drop (capacity l) m.links) × (drop (capacity l) n.values ≡ drop (capacity l) m.values) × (drop (capacity l) n.slots.cells ≡ drop (capacity l) m.slots.cells)
    = subst (λ C. (SameBeyond m n → (drop C n.index ≡ drop C m.index) × (drop C n.links ≡ drop C m.links) × (drop C n.values ≡ drop C m.values) × (drop C n.slots.cells ≡ drop C m.slots.cells))) e (λ x. x) in
    let s = r q in (s.0 ∙ p.0, s.1 ∙ p.1, s.2 ∙ p.2, s.3 ∙ p.3)

-- one call more
answers_more : {V : Type 0} (l : Layout V) (cs : List (Call V)) (c : Call V) → cells_answers l (cs ++ (c ∷ [])) ≡ cells_answers l cs ++ (cells_answer (cells_after_all l cs) c ∷ [])
answers_more l [] c = refl
answers_more l (d ∷ cs) c = ap (λ xs. cells_answer l d ∷ xs) (answers_more (cells_after l d) cs c)

after_more : {V : Type 0} (l : Layout V) (cs : List (Call V)) (c : Call V) → cells_after_all l (cs ++ (c ∷ [])) ≡ cells_after (cells_after_all l cs) c
after_more l [] c = refl
after_more l (d ∷ cs) c = after_more (cells_after l d) cs c

pub length_answers : {V : Type 0} (l : Layout V) (cs : List (Call V)) → length (cells_answers l cs) ≡ length cs
length_answers l [] = refl
length_answers l (c ∷ cs) = let r = length_answers (cells_after l c) cs in omega (arith, r)

-- a run as far as i, and one call more
pub run_more : {V : Type 0} (o l n : Layout V) (cs : List (Call V)) (xs ys zs : List (Result (Answer V) Refusal)) (i : ℕ) (c : Call V) (a : Result (Answer V) Refusal)
    → i < length cs → i < length xs → c ≡ get_or cs i c → a ≡ cells_answer l c → n ≡ cells_after l c → zs ≡ set ys i a
    → l ≡ cells_after_all o (take i cs) → ys ≡ cells_answers o (take i cs) ++ drop i xs
    → (n ≡ cells_after_all o (take (i + 1) cs)) × (zs ≡ cells_answers o (take (i + 1) cs) ++ drop (i + 1) xs)
run_more o l n cs xs ys zs i c a bc bx ec ea en ez il iy =
    let t : take (i + 1) cs ≡ take i cs ++ (c ∷ []) = take_more cs i c bc ∙ ap (λ d. take i cs ++ (d ∷ [])) (sym ec) in
    let answer : a ≡ cells_answer (cells_after_all o (take i cs)) c = ea ∙ ap (λ m. cells_answer m c) il in
    let sized : length (cells_answers o (take i cs)) ≡ i = length_answers o (take i cs) ∙ length-take i cs ∙ omega arith in
    let old = get_or xs i (Ok Done) in (
      en ∙ ap (λ m. cells_after m c) il ∙ sym (after_more o (take i cs) c) ∙ ap (cells_after_all o) (sym t),
      ez
          ∙ ap (λ q. set q i a) (iy ∙ ap (λ q. cells_answers o (take i cs) ++ q) (drop_more xs i (Ok Done) bx))
          ∙ set_at (cells_answers o (take i cs)) old (drop (i + 1) xs) a i sized
          ∙ sym (append_assoc (cells_answers o (take i cs)) (a ∷ []) (drop (i + 1) xs))
          ∙ ap (λ q. (cells_answers o (take i cs) ++ (q ∷ [])) ++ drop (i + 1) xs) answer
          ∙ ap (λ q. q ++ drop (i + 1) xs) (sym (answers_more o (take i cs) c) ∙ ap (cells_answers o) (sym t)),
    )

-- the answers to the first n calls
first_answers : {V : Type 0} (o : Layout V) (cs : List (Call V)) (xs ys : List (Result (Answer V) Refusal)) (n : ℕ)
    → n ≤ length cs → ys ≡ cells_answers o (take n cs) ++ drop n xs → take n ys ≡ cells_answers o (take n cs)
first_answers o cs xs ys n b ey =
    let sized : length (cells_answers o (take n cs)) ≡ n = length_answers o (take n cs) ∙ length-take n cs ∙ omega arith in
    ap (take n) ey ∙ take_at (cells_answers o (take n cs)) (drop n xs) n sized

-- no call of the list changes anything
abbrev pub Quiet : {V : Type 0} → Layout V → List (Call V) → Type 0
Quiet o cs = AllByRecursion Idle (paired cs (cells_answers o cs))

quiet_more : {V : Type 0} (o : Layout V) (cs : List (Call V)) (c : Call V)
    → Quiet o (cs ++ (c ∷ [])) → Quiet o cs × Idle (record { call = c; answer = cells_answer (cells_after_all o cs) c })
quiet_more o [] c h = (tt, h.0)
quiet_more o (d ∷ cs) c h = let r = quiet_more (cells_after o d) cs c h.1 in ((h.0, r.0), r.1)

pub run_quiet : {V : Type 0} (o l : Layout V) (cs : List (Call V)) (i : ℕ) (c : Call V) (a : Result (Answer V) Refusal)
    → i < length cs → c ≡ get_or cs i c → l ≡ cells_after_all o (take i cs) → a ≡ cells_answer l c
    → Quiet o (take (i + 1) cs) → Quiet o (take i cs) × Idle (record { call = c; answer = a })
run_quiet {V} o l cs i c a bc ec el ea h =
    let t : take (i + 1) cs ≡ take i cs ++ (c ∷ []) = take_more cs i c bc ∙ ap (λ d. take i cs ++ (d ∷ [])) (sym ec) in
    let r = quiet_more o (take i cs) c (subst (Quiet o) t h) in
    let e : cells_answer (cells_after_all o (take i cs)) c ≡ a = ap (λ m. cells_answer m c) (sym el) ∙ sym ea in
    (r.0, subst (λ q. Idle {V = V} (record { call = c; answer = q })) e r.1)

pub run_idle : {V : Type 0} (o : Layout V) (cs : List (Call V)) (xs ys : List (Result (Answer V) Refusal)) (n : ℕ)
    → n ≤ length cs → ys ≡ cells_answers o (take n cs) ++ drop n xs → AllByRecursion Idle (paired (take n cs) (take n ys)) → Quiet o (take n cs)
run_idle {V} o cs xs ys n b ey h = subst (λ q. AllByRecursion Idle (paired {V = V} (take n cs) q)) (first_answers o cs xs ys n b ey) h

-- so the promise is carried on
pub run_reached : {V : Type 0} (o l : Layout V) (cs : List (Call V)) (xs ys : List (Result (Answer V) Refusal)) (n C : ℕ) (h : List (Event V))
    → n ≤ length cs → l ≡ cells_after_all o (take n cs) → ys ≡ cells_answers o (take n cs) ++ drop n xs
    → Reached C h o → Reached C (h ++ paired (take n cs) (take n ys)) l
run_reached o l cs xs ys n C h b el ey r =
    let first = first_answers o cs xs ys n b ey in
    subst (λ m. Reached C (h ++ paired (take n cs) (take n ys)) m) (sym el)
    (subst (λ q. Reached C (h ++ paired (take n cs) q) (cells_after_all o (take n cs))) (sym first) (reached_all C h o (take n cs) r))

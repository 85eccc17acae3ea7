-- What is promised of a table holds after every list of calls.
use Rattle.std.proofs.Common.{◌≡◌, ℕ, ◌<◌, ◌≢◌, List, [], ◌∷◌, ◌++◌, Some, Ok, Result, sym, refl, ap, ◌∙◌, subst, arith}
use Rattle.std.proofs.lemmas.List.{map-append}
use Rattle.std.proofs.lemmas.Bool.{lt-ltb, cond-true}
use Rattle.refusal.specs.declared.Refusal.{Refusal}
use Rattle.model.specs.Counts.{count}
use Rattle.model.specs.Layouts.{Layout, capacity, nil, slot_at}
use Rattle.model.specs.Sound.{Means, Follows}
use Rattle.model.proofs.Sounds.{sound_of}
use Rattle.model.specs.Tables.{Table, fresh}
use Rattle.model.proofs.Refines.{cell_none, cell_some}
use Rattle.model.proofs.Passes.{value_there}
use Rattle.model.proofs.Calls.{get_answers}
use Rattle.history.specs.declared.calls.Call.{Call}
use Rattle.history.specs.declared.calls.Call.TheVariants.{Insert}
use Rattle.history.specs.declared.calls.Answer.{Answer}
use Rattle.history.specs.Calls.{answer_to, after, answers_to, after_all}
use Rattle.history.specs.Histories.{Event, Holds, LastWrote, HandsOut}
use Rattle.history.specs.Promise.{calls, answers, Reached}
use Rattle.history.proofs.Keys.{KeyTold, told_holds, wrote_one}
use Rattle.history.proofs.Told.{Told, told_all}
use Rattle.history.proofs.Hands.{hands_out}

pub answers_push : {V : Type 0} (t : Table V) (cs : List (Call V)) (c : Call V)
    → answers_to t (cs ++ c ∷ []) ≡ answers_to t cs ++ answer_to (after_all t cs) c ∷ []
answers_push t [] c = refl
answers_push t (d ∷ cs) c = ap (λ q. answer_to t d ∷ q) (answers_push (after t d) cs c)

pub after_push : {V : Type 0} (t : Table V) (cs : List (Call V)) (c : Call V) → after_all t (cs ++ c ∷ []) ≡ after (after_all t cs) c
after_push t [] c = refl
after_push t (d ∷ cs) c = after_push (after t d) cs c

-- the events before one, and that one, answered as the table does where all events did
answered_before : {V : Type 0} (t : Table V) (b : List (Event V)) (e : Event V) (l : List (Event V))
    → answers (b ++ e ∷ l) ≡ answers_to t (calls (b ++ e ∷ l))
    → (answers b ≡ answers_to t (calls b)) × (e.answer ≡ answer_to (after_all t (calls b)) e.call)
answered_before t [] e l p = let q : e.answer ≡ answer_to t e.call = cc in (refl, q)
answered_before t (x ∷ b) e l p =
    let here : x.answer ≡ answer_to t x.call = cc in
    let rest : answers (b ++ e ∷ l) ≡ answers_to (after t x.call) (calls (b ++ e ∷ l)) = cc in
    let r = answered_before (after t x.call) b e l rest in
    let all : answers (x ∷ b) ≡ answers_to t (calls (x ∷ b)) = cc in
    (all, r.1)

-- each insert of a history
hands_each : {V : Type 0} (C : ℕ) (h : List (Event V)) → answers h ≡ answers_to (fresh C) (calls h)
    → (b l : List (Event V)) (e : Event V) (v : V) → h ≡ b ++ e ∷ l → e.call ≡ Insert v → HandsOut C b e.answer
hands_each C h p b l e v split call =
    let r = answered_before (fresh C) b e l (subst (λ g. answers g ≡ answers_to (fresh C) (calls g)) split p) in
    let t = after_all (fresh C) (calls b) in
    subst (HandsOut C b) (sym (r.1 ∙ ap (answer_to t) call)) (hands_out C b t (told_all C b r.0))

module _ {V : Type 0} (C : ℕ) (h : List (Event V)) (l : Layout V) (t : Table V) (told : Told C h t) (m : Means l t) where
  within : (k : ℕ) → k < C → k < capacity l
  within k b = omega (arith, told.size, m.size)

  nil_vacant : (k : ℕ) → k < C → Holds k h → slot_at l.index k ≢ nil
  nil_vacant k b holds e =
      let some = told_holds C h k (t.held k) (count k t.free) (told.keys k) holds in
      let none = m.valued k (within k b) ∙ cell_none l.index l.values k e in
      let z : ◌≡◌ {A = ℕ} 0 1 = cc (some.1, none) in
      omega arith

  slot_holds : (k : ℕ) → k < C → slot_at l.index k ≢ nil → Holds k h
  slot_holds k b e = (subst (λ o. KeyTold C h k o (count k t.free)) (value_there l t m k (within k b) e).2 (told.keys k)).0

  holds_value : (k : ℕ) (v : V) → k < C → Holds k h → LastWrote k v h → t.held k ≡ Some v
  holds_value k v b holds wrote =
      let some = told_holds C h k (t.held k) (count k t.free) (told.keys k) holds in
      some.1 ∙ ap Some (wrote_one k some.0 v h some.2 wrote)

pub reached_from : {V : Type 0} (C : ℕ) (h : List (Event V)) (l : Layout V)
    → answers h ≡ answers_to (fresh C) (calls h) → Means l (after_all (fresh C) (calls h)) → Reached C h l
reached_from C h l p m =
    let t = after_all (fresh C) (calls h) in
    let told = told_all C h p in
    record {
      size = sym m.size ∙ told.size;
      answered = p;
      stands = (t.free, sound_of l t m);
      means = m;
      holding = nil_vacant C h l t told m;
      held = slot_holds C h l t told m;
      wrote = λ k b holds. let some = told_holds C h k (t.held k) (count k t.free) (told.keys k) holds in (some.0, some.2);
      values = λ k v b holds wrote.
          let is = holds_value C h l t told m k v b holds wrote in (
            sym (cell_some l.index l.values k (nil_vacant C h l t told m k b holds)) ∙ sym (m.valued k (within C h l t told m k b)) ∙ is,
            get_answers l t m k ∙ cond-true _ _ _ (lt-ltb k t.capacity (omega (arith, told.size))) ∙ ap Ok is,
          );
      keys = hands_each C h p;
    }

pub reached_fresh : {V : Type 0} (C : ℕ) (l : Layout V) → Means l (fresh C) → Reached C [] l
reached_fresh C l m = reached_from C [] l refl m

pub reached_more : {V : Type 0} (C : ℕ) (h : List (Event V)) (l l' : Layout V) (c : Call V) (a : Result (Answer V) Refusal)
    → Reached C h l → Follows l a l' (λ t. answer_to t c) (λ t. after t c)
    → Reached C (h ++ ((record { call = c; answer = a }) ∷ [])) l'
reached_more {V} C h l l' c a r follows =
    let e : Event V = record { call = c; answer = a } in
    let t = after_all (fresh C) (calls h) in
    let f = follows t r.means in
    let all : calls (h ++ e ∷ []) ≡ calls h ++ c ∷ [] = map-append (λ x. x.call) h (e ∷ []) in
    reached_from C (h ++ e ∷ []) l'
    (map-append (λ x. x.answer) h (e ∷ [])
    ∙ ap (λ xs. xs ++ a ∷ []) r.answered
    ∙ ap (λ x. answers_to (fresh C) (calls h) ++ x ∷ []) f.0
    ∙ sym (answers_push (fresh C) (calls h) c)
    ∙ ap (answers_to (fresh C)) (sym all))
    (subst (Means l') (sym (ap (after_all (fresh C)) all ∙ after_push (fresh C) (calls h) c)) f.1)

-- Calls of a queue of numbers by their meaning: a list of at most c elements, from the oldest.
use Rattle.std.specs.Prelude.{ℕ, Bool, true, false, cond, List, [], ◌∷◌, ◌++◌, drop, is_ok, Ok, Result}
use Rattle.std.specs.List.{slice_get}
use Rattle.std.specs.Option.{ok_or}
use Rattle.refusal.specs.declared.Refusal.{Refusal}
use Rattle.refusal.specs.declared.Refusal.TheVariants.{PlacePastLength}
use Rattle.containers.specs.Bounded.{append_answer, appended, displaced, latest}
use Rattle.containers.specs.Queues.{QueueState, pushed, popped, overflowed, push_answer, oldest_answer, overflow_answer, get_answer}
use Rattle.history.specs.Calls.{answer_of}
use Rattle.history.specs.declared.calls.Answer.{Answer}
use Rattle.history.specs.declared.calls.Answer.TheVariants.{Done, Value, Number}
use Rattle.runs.specs.declared.calls.QueueCall.{QueueCall}
use Rattle.runs.specs.declared.calls.QueueCall.TheVariants.{Push, PushWithOverflow, Pop, Peek, Get}

-- calls that show an element, or let it go
abbrev pub only_reads : QueueCall → Bool
only_reads (Push v) = false
only_reads (PushWithOverflow v) = false
only_reads Pop = true
only_reads Peek = true
only_reads (Get i) = true

-- what a call answers, and what the list is then
abbrev pub answer_to : ℕ → List ℕ → QueueCall → Result (Answer ℕ) Refusal
answer_to c xs (Push v) = answer_of (λ _. Done) (append_answer c xs)
answer_to c xs (PushWithOverflow v) = answer_of Value (displaced c xs)
answer_to c xs Pop = Ok (Value (slice_get xs 0))
answer_to c xs Peek = Ok (Value (slice_get xs 0))
answer_to c xs (Get i) = answer_of Number (ok_or (slice_get xs i) PlacePastLength)

abbrev pub held_after : ℕ → List ℕ → QueueCall → List ℕ
held_after c xs (Push v) = appended c v xs
held_after c xs (PushWithOverflow v) = latest c (xs ++ (v ∷ []))
held_after c xs Pop = drop 1 xs
held_after c xs Peek = xs
held_after c xs (Get i) = xs

-- the same by the cells, whatever they are
abbrev pub cells_answer : QueueState ℕ → QueueCall → Result (Answer ℕ) Refusal
cells_answer q (Push v) = answer_of (λ _. Done) (push_answer q)
cells_answer q (PushWithOverflow v) = answer_of Value (overflow_answer q)
cells_answer q Pop = answer_of Value (oldest_answer q)
cells_answer q Peek = answer_of Value (oldest_answer q)
cells_answer q (Get i) = answer_of Number (get_answer q i)

abbrev pub cells_after : QueueState ℕ → QueueCall → QueueState ℕ
cells_after q (Push v) = cond (is_ok (push_answer q)) (pushed q v) q
cells_after q (PushWithOverflow v) = cond (is_ok (overflow_answer q)) (overflowed q v) q
cells_after q Pop = cond (is_ok (oldest_answer q)) (popped q) q
cells_after q Peek = q
cells_after q (Get i) = q

-- the answers to calls made one after another
abbrev pub answers_to : ℕ → List ℕ → List QueueCall → List (Result (Answer ℕ) Refusal)
answers_to c xs [] = []
answers_to c xs (call ∷ calls) = answer_to c xs call ∷ answers_to c (held_after c xs call) calls

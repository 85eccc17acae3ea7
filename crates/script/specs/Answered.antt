-- What a script prints for the calls of its tables, told by the lines before each.
use Rattle.std.specs.Prelude.{◌≡◌, ℕ, ◌<◌, ◌≤◌, List, [], ◌∷◌, ◌++◌, length, Some, Ok, Result}
use Rattle.refusal.specs.declared.Refusal.{Refusal}
use Rattle.model.specs.Tables.{fresh}
use Rattle.history.specs.Calls.{answer_to}
use Rattle.history.specs.Histories.{Holds, LastWrote, HandsOut}
use Rattle.history.specs.declared.calls.Answer.{Answer}
use Rattle.history.specs.declared.calls.Answer.TheVariants.{Value}
use Rattle.history.specs.declared.calls.Call.{Call}
use Rattle.history.specs.declared.calls.Call.TheVariants.{Insert, Get}
use Rattle.text.specs.Lines.{lines}
use Rattle.script.specs.Sessions.{Session, table_of, call_in, IsSession}
use Rattle.script.specs.Transcript.{call_said, printed}

-- What `out` says of the call c, which a table gets in the session s, after the lines `before` of a script: first
-- comes what is printed of these lines, then a line with the answer, then more.
pub record AnswersCall (before : List (List ℕ)) (s : Session) (c : Call ℕ) (out : List ℕ) : Type 0 where
  pub answer : Result (Answer ℕ) Refusal
  pub more : List ℕ
  pub said : out ≡ printed (fresh 0) before ++ ((call_said answer ++ (10 ∷ [])) ++ more)
  -- it is that of the table by its meaning, after the calls of the session
  pub table : answer ≡ answer_to (table_of s) c
  -- an insert gets the vacant key that was emptied latest, or else the smallest that was never emptied, and none
  -- exactly when every key holds a value
  pub keys : (v : ℕ) → c ≡ Insert v → HandsOut s.capacity s.history answer
  -- a get of a key that holds a value answers what was written there last
  pub values : (k v : ℕ) → c ≡ Get k → k < s.capacity → Holds k s.history → LastWrote k v s.history → answer ≡ Ok (Value (Some v))

-- Of each line of an input that is a call: the lines before it come to one session, and `out` says what is answered
-- to the call in this session.
abbrev pub AnswersCalls : List ℕ → List ℕ → Type 0
AnswersCalls input out =
    (before later : List (List ℕ)) (line : List ℕ) (c : Call ℕ)
    → length input ≤ 65536 → lines input ≡ before ++ (line ∷ later) → call_in line ≡ Some c
    → (s : Session) × IsSession before s × ((other : Session) → IsSession before other → other ≡ s) × AnswersCall before s c out

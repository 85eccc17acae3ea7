-- What is printed of a line that is a call.
use Rattle.std.proofs.Common.{◌≡◌, ℕ, ◌<◌, List, [], ◌∷◌, ◌++◌, length, None, Some, Ok, Err, Option, nat_lt, sym, refl, ap, ◌∙◌, subst, append-nil, append_assoc, arith}
use Rattle.std.specs.Option.{ok_or, option_and_then}
use Rattle.std.proofs.lemmas.Bool.{le-leb, lt-ltb, cond-true}
use Rattle.refusal.specs.declared.Refusal.TheVariants.{KeyPastTable}
use Rattle.model.specs.Counts.{count}
use Rattle.model.specs.Tables.{Table, fresh}
use Rattle.history.specs.Calls.{answer_of, answer_to, answers_to, after_all}
use Rattle.history.specs.Histories.{Event, Holds, LastWrote, HandsOut}
use Rattle.history.specs.Promise.{calls, answers}
use Rattle.history.specs.declared.calls.Answer.TheVariants.{Value}
use Rattle.history.specs.declared.calls.Call.{Call}
use Rattle.history.specs.declared.calls.Call.TheVariants as call
use Rattle.history.proofs.Keys.{told_holds, wrote_one}
use Rattle.history.proofs.Told.{told_all}
use Rattle.history.proofs.Hands.{hands_out}
use Rattle.scanner.specs.Commands.{command_of}
use Rattle.scanner.specs.Legal.{scanned, shared}
use Rattle.scanner.specs.declared.command.Command.{Command}
use Rattle.scanner.specs.declared.command.Command.TheVariants.{Make, Insert, InsertAt, Remove, Get, Replace, NextFreeKey, Len, List as Listing}
use Rattle.script.specs.Answered.{AnswersCall, AnswersCalls}
use Rattle.script.specs.Sessions.{Session, begun, table_of, call_of, session_read, call_in, IsSession}
use Rattle.script.specs.Transcript.{call_said, said_by, line_said, line_after, printed, transcript}
use Rattle.script.proofs.Sessions.{table_read, session_none, session_line}
use Rattle.script.proofs.Unique.{one_session}

-- a command that is a call prints its answer
said_call : (t : Table ℕ) (d : Command) (c : Call ℕ) → call_of d ≡ Some c → said_by t d ≡ call_said (answer_to t c)
said_call t (Make C) c e = cc
said_call t (Insert v) c e = let q : call.Insert v ≡ c = cc in ap (λ x. call_said (answer_to t x)) q
said_call t (InsertAt k v) c e = let q : call.InsertAt k v ≡ c = cc in ap (λ x. call_said (answer_to t x)) q
said_call t (Remove k) c e = let q : call.Remove k ≡ c = cc in ap (λ x. call_said (answer_to t x)) q
said_call t (Get k) c e = let q : call.Get k ≡ c = cc in ap (λ x. call_said (answer_to t x)) q
said_call t (Replace k v) c e = let q : call.Replace k v ≡ c = cc in ap (λ x. call_said (answer_to t x)) q
said_call t NextFreeKey c e = let q : call.NextFreeKey ≡ c = cc in ap (λ x. call_said (answer_to t x)) q
said_call t Len c e = let q : call.Len ≡ c = cc in ap (λ x. call_said (answer_to t x)) q
said_call t Listing c e = cc

said_read : (t : Table ℕ) (line : List ℕ) (o : Option Command) (c : Call ℕ) → option_and_then call_of o ≡ Some c
    → line_said t (ok_or o (shared line)) ≡ call_said (answer_to t c)
said_read t line None c e = cc
said_read t line (Some d) c e = said_call t d c e

-- The lines ls, which come after those of a session, come to a session; and the lines after them are printed of its
-- table.
reach : (read ls : List (List ℕ)) (s : Session) → IsSession read s
    → (r : Session) × IsSession (read ++ ls) r × ((later : List (List ℕ)) → printed (table_of s) (ls ++ later) ≡ printed (table_of s) ls ++ printed (table_of r) later)
reach read [] s is = (s, subst (λ x. IsSession x s) (sym (append-nil read)) is, λ later. refl)
reach read (line ∷ ls) s is =
    let t = session_read s (scanned line) in
    let r = reach (read ++ (line ∷ [])) ls t (session_line read s line is) in
    let said = line_said (table_of s) (scanned line) ++ (10 ∷ []) in (
      r.0,
      subst (λ x. IsSession x r.0) (append_assoc read (line ∷ []) ls) r.1,
      λ later.
          ap (λ u. said ++ printed u (ls ++ later)) (table_read s (scanned line))
          ∙ ap (λ x. said ++ x) (r.2 later)
          ∙ sym (append_assoc said (printed (table_of t) ls) (printed (table_of r.0) later))
          ∙ ap (λ u. (said ++ printed u ls) ++ printed (table_of r.0) later) (sym (table_read s (scanned line))),
    )

-- what a get answers of a key that holds, by the calls and their answers
get_last : (C : ℕ) (h : List (Event ℕ)) (k v : ℕ) → answers h ≡ answers_to (fresh C) (calls h) → k < C → Holds k h → LastWrote k v h
    → answer_to (after_all (fresh C) (calls h)) (call.Get k) ≡ Ok (Value (Some v))
get_last C h k v answered below holds wrote =
    let t = after_all (fresh C) (calls h) in
    let told = told_all C h answered in
    let some = told_holds C h k (t.held k) (count k t.free) (told.keys k) holds in
    ap (answer_of Value) (cond-true (nat_lt k t.capacity) (Ok (t.held k)) (Err KeyPastTable) (lt-ltb k t.capacity (omega (arith, told.size))))
    ∙ ap (λ o. Ok (Value o)) (some.1 ∙ ap Some (wrote_one k some.0 v h some.2 wrote))

answers_call : (before later : List (List ℕ)) (line : List ℕ) (c : Call ℕ) (s : Session) (out : List ℕ) → IsSession before s → call_in line ≡ Some c
    → out ≡ printed (fresh 0) before ++ printed (table_of s) (line ∷ later) → AnswersCall before s c out
answers_call before later line c s out is is_call e =
    let t = table_of s in
    record {
      answer = answer_to t c;
      more = printed (line_after t (scanned line)) later;
      said = e ∙ ap (λ q. printed (fresh 0) before ++ ((q ++ (10 ∷ [])) ++ printed (line_after t (scanned line)) later)) (said_read t line (command_of line) c is_call);
      table = refl;
      keys = λ v insert. subst (HandsOut s.capacity s.history) (sym (ap (answer_to t) insert)) (hands_out s.capacity s.history t (told_all s.capacity s.history is.answered));
      values = λ k v get below holds wrote. ap (answer_to t) get ∙ get_last s.capacity s.history k v is.answered below holds wrote;
    }

pub answers_calls : (input : List ℕ) → AnswersCalls input (transcript input)
answers_calls input before later line c short e is_call =
    let r = reach [] before (begun 0) session_none in
    let whole : transcript input ≡ printed (fresh 0) before ++ printed (table_of r.0) (line ∷ later)
    = cond-true _ _ _ (le-leb (length input) 65536 short) ∙ ap (printed (fresh 0)) e ∙ r.2 (line ∷ later) in
    (r.0, r.1, λ other is. one_session before other r.0 is r.1, answers_call before later line c r.0 (transcript input) r.1 is_call whole)

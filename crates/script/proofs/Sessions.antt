-- The session after a line, and the table that it leads to.
use Rattle.std.proofs.Common.{◌≡◌, ℕ, Bool, true, false, cond, List, [], ◌∷◌, ◌++◌, Some, None, Ok, Err, Option, Result, nat_le, sym, refl, ap, ◌∙◌, append-nil, append_assoc, inl, inr, ⊎_elim, arith}
use Rattle.std.specs.Option.{ok_or, option_and_then, option_to_list}
use Rattle.std.proofs.lemmas.Bool.{leb-true, leb-false}
use Rattle.std.proofs.lemmas.Grind.{flat_map-append}
use Rattle.std.proofs.lemmas.List.{map-append}
use Rattle.model.specs.Tables.{fresh}
use Rattle.history.specs.Calls.{answer_to, after, answers_to, after_all}
use Rattle.history.specs.Histories.{Event}
use Rattle.history.specs.Promise.{calls}
use Rattle.history.specs.declared.calls.Call.{Call}
use Rattle.history.specs.declared.calls.Call.TheVariants as call
use Rattle.history.proofs.Reached.{answers_push, after_push}
use Rattle.scanner.specs.Commands.{command_of}
use Rattle.scanner.specs.Legal.{scanned, shared}
use Rattle.scanner.specs.declared.command.Command.{Command}
use Rattle.scanner.specs.declared.command.Command.TheVariants.{Make, Insert, InsertAt, Remove, Get, Replace, NextFreeKey, Len, List as Listing}
use Rattle.script.specs.Sessions.{Session, begun, table_of, with_call, call_of, session_after, session_read, Makes, NoneMakes, call_in, calls_in, SinceMade, IsSession}
use Rattle.script.specs.Transcript.{table_after, line_said, line_after, printed}

-- the event of a call
abbrev event : Session → Call ℕ → Event ℕ
event s c = record { call = c; answer = answer_to (table_of s) c }

calls_with : (s : Session) (c : Call ℕ) → calls (with_call s c).history ≡ calls s.history ++ (c ∷ [])
calls_with s c = map-append (λ e. e.call) s.history (event s c ∷ [])

table_with : (s : Session) (c : Call ℕ) → after (table_of s) c ≡ table_of (with_call s c)
table_with s c = sym (ap (after_all (fresh s.capacity)) (calls_with s c) ∙ after_push (fresh s.capacity) (calls s.history) c)

-- a session goes on as its table does
table_command : (s : Session) (c : Command) → table_after (table_of s) c ≡ table_of (session_after s c)
table_command s (Make C) = elim (nat_le C 64) as (λ b. cond b (fresh C) (table_of s) ≡ table_of (cond b (begun C) s)) [ true ↦ refl | false ↦ refl ]
table_command s (Insert v) = table_with s (call.Insert v)
table_command s (InsertAt k v) = table_with s (call.InsertAt k v)
table_command s (Remove k) = table_with s (call.Remove k)
table_command s (Get k) = table_with s (call.Get k)
table_command s (Replace k v) = table_with s (call.Replace k v)
table_command s NextFreeKey = table_with s call.NextFreeKey
table_command s Len = table_with s call.Len
table_command s Listing = refl

pub table_read : (s : Session) (read : Result Command ℕ) → line_after (table_of s) read ≡ table_of (session_read s read)
table_read s (Ok c) = table_command s c
table_read s (Err n) = refl

-- before the first line
pub session_none : IsSession [] (begun 0)
session_none = record { rest = []; since = (tt, inl (refl, refl)); called = refl; answered = refl }

-- one line more
none_push : (ls : List (List ℕ)) (line : List ℕ) → NoneMakes ls → ((C : ℕ) → Makes line C → ⊥) → NoneMakes (ls ++ (line ∷ []))
none_push [] line none other = (other, tt)
none_push (l ∷ ls) line none other = (none.0, none_push ls line none.1 other)

calls_push : (ls : List (List ℕ)) (line : List ℕ) → calls_in (ls ++ (line ∷ [])) ≡ calls_in ls ++ option_to_list (call_in line)
calls_push ls line = flat_map-append (λ l. option_to_list (call_in l)) ls (line ∷ []) ∙ ap (λ cs. calls_in ls ++ cs) (append-nil (option_to_list (call_in line)))

module _ (ls : List (List ℕ)) (s : Session) (line : List ℕ) (is : IsSession ls s) where
  since_push : ((C : ℕ) → Makes line C → ⊥) → SinceMade (ls ++ (line ∷ [])) s.capacity (is.rest ++ (line ∷ []))
  since_push other = (
    none_push is.rest line is.since.0 other,
    ⊎_elim
        (λ (e : (is.rest ≡ ls) × (s.capacity ≡ 0)). inl (ap (λ x. x ++ (line ∷ [])) e.0, e.1))
        (λ (e : (earlier : List (List ℕ)) × (l : List ℕ) × (ls ≡ earlier ++ (l ∷ is.rest)) × Makes l s.capacity).
        inr (e.0, e.1, ap (λ x. x ++ (line ∷ [])) e.2 ∙ append_assoc e.0 (e.1 ∷ is.rest) (line ∷ []), e.3))
        is.since.1,
  )

  -- that is no call
  idle : call_in line ≡ None → ((C : ℕ) → Makes line C → ⊥) → IsSession (ls ++ (line ∷ [])) s
  idle none other = record {
    rest = is.rest ++ (line ∷ []);
    since = since_push other;
    called = is.called ∙ sym (append-nil (calls_in is.rest)) ∙ sym (calls_push is.rest line ∙ ap (λ o. calls_in is.rest ++ option_to_list o) none);
    answered = is.answered;
  }

  -- that is a call
  one_call : (c : Call ℕ) → call_in line ≡ Some c → ((C : ℕ) → Makes line C → ⊥) → IsSession (ls ++ (line ∷ [])) (with_call s c)
  one_call c some other = record {
    rest = is.rest ++ (line ∷ []);
    since = since_push other;
    called = calls_with s c ∙ ap (λ cs. cs ++ (c ∷ [])) is.called ∙ sym (calls_push is.rest line ∙ ap (λ o. calls_in is.rest ++ option_to_list o) some);
    answered = map-append (λ e. e.answer) s.history (event s c ∷ [])
        ∙ ap (λ xs. xs ++ (answer_to (table_of s) c ∷ [])) is.answered
        ∙ sym (ap (answers_to (fresh s.capacity)) (calls_with s c) ∙ answers_push (fresh s.capacity) (calls s.history) c);
  }

  -- that is an accepted m
  made : (C : ℕ) → Makes line C → IsSession (ls ++ (line ∷ [])) (begun C)
  made C makes = record { rest = []; since = (tt, inr (ls, line, refl, makes)); called = refl; answered = refl }

  -- that is an m, accepted or not
  make_step : (C : ℕ) → command_of line ≡ Some (Make C) → (b : Bool) → nat_le C 64 ≡ b → IsSession (ls ++ (line ∷ [])) (cond b (begun C) s)
  make_step C e true few = made C (e, leb-true C 64 few)
  make_step C e false few =
      idle (ap (option_and_then call_of) e)
      (λ D m. let same : Some (Make C) ≡ Some (Make D) = sym e ∙ m.0 in let q : C ≡ D = cc in omega (arith, m.1, leb-false C 64 few))

  call_step : (d : Command) (c : Call ℕ) → command_of line ≡ Some d → call_of d ≡ Some c → IsSession (ls ++ (line ∷ [])) (with_call s c)
  call_step d c e is_call =
      one_call c (ap (option_and_then call_of) e ∙ is_call)
      (λ C m. let same : Some d ≡ Some (Make C) = sym e ∙ m.0 in let q : d ≡ Make C = cc in let none : None ≡ Some c = ap call_of (sym q) ∙ is_call in cc)

  command_step : (d : Command) → command_of line ≡ Some d → IsSession (ls ++ (line ∷ [])) (session_after s d)
  command_step (Make C) e = make_step C e (nat_le C 64) refl
  command_step (Insert v) e = call_step (Insert v) (call.Insert v) e refl
  command_step (InsertAt k v) e = call_step (InsertAt k v) (call.InsertAt k v) e refl
  command_step (Remove k) e = call_step (Remove k) (call.Remove k) e refl
  command_step (Get k) e = call_step (Get k) (call.Get k) e refl
  command_step (Replace k v) e = call_step (Replace k v) (call.Replace k v) e refl
  command_step NextFreeKey e = call_step NextFreeKey call.NextFreeKey e refl
  command_step Len e = call_step Len call.Len e refl
  command_step Listing e = idle (ap (option_and_then call_of) e) (λ C m. cc)

  line_step : (o : Option Command) → command_of line ≡ o → IsSession (ls ++ (line ∷ [])) (session_read s (ok_or o (shared line)))
  line_step None e = idle (ap (option_and_then call_of) e) (λ C m. cc)
  line_step (Some d) e = command_step d e

-- the session after one line more
pub session_line : (ls : List (List ℕ)) (s : Session) (line : List ℕ) → IsSession ls s → IsSession (ls ++ (line ∷ [])) (session_read s (scanned line))
session_line ls s line is = line_step ls s line is (command_of line) refl

-- one line more is printed
pub print_line : (s : Session) (line : List ℕ) (left later : List (List ℕ)) (before now start : List ℕ) → left ≡ line ∷ later
    → now ≡ before ++ (line_said (table_of s) (scanned line) ++ (10 ∷ [])) → before ++ printed (table_of s) left ≡ start
    → now ++ printed (table_of (session_read s (scanned line))) later ≡ start
print_line s line left later before now start front one whole =
    ap (λ q. q ++ printed (table_of (session_read s (scanned line))) later) one
    ∙ append_assoc before (line_said (table_of s) (scanned line) ++ (10 ∷ [])) (printed (table_of (session_read s (scanned line))) later)
    ∙ ap (λ t. before ++ ((line_said (table_of s) (scanned line) ++ (10 ∷ [])) ++ printed t later)) (sym (table_read s (scanned line)))
    ∙ ap (λ ls. before ++ printed (table_of s) ls) (sym front)
    ∙ whole

-- One line more, and one number less, over lists alone.
use Rattle.std.proofs.Common.{◌≡◌, ℕ, ◌+◌, ◌≤◌, List, [], ◌∷◌, ◌++◌, length, sym, ap, ◌∙◌}
use Rattle.std.proofs.lemmas.List.{append_assoc, append-nil}
use Rattle.std.specs.Option.{option_to_list}
use Rattle.containers.specs.Bounded.{latest}
use Rattle.containers.proofs.Latest.{latest_all, latest_latest}
use Rattle.text.specs.Numbers.{number_of}
use Rattle.recents.specs.Recent.{numbers, complained, complaints}

-- a queue that took the number of one line leads where it led with the line before it
pub held_more : (c c' : ℕ) (held held' : List ℕ) (line : List ℕ) (left rest : List (List ℕ)) → c' ≡ c → held' ≡ latest c (held ++ option_to_list (number_of line)) → left ≡ line ∷ rest
    → latest c' (held' ++ numbers rest) ≡ latest c (held ++ numbers left)
held_more c c' held held' line left rest same e read =
    ap (λ n. latest n (held' ++ numbers rest)) same
    ∙ ap (λ xs. latest c (xs ++ numbers rest)) e
    ∙ latest_latest c (held ++ option_to_list (number_of line)) (numbers rest)
    ∙ ap (latest c) (append_assoc held (option_to_list (number_of line)) (numbers rest))
    ∙ ap (λ ls. latest c (held ++ numbers ls)) (sym read)

-- so does what is said, where the line is the one at n, counted from 0
pub said_more : (err err' : List ℕ) (i n n' : ℕ) (line : List ℕ) (left rest : List (List ℕ)) → i ≡ n → n' ≡ n + 1 → err' ≡ err ++ complained (i + 1) line → left ≡ line ∷ rest
    → err' ++ complaints (n' + 1) rest ≡ err ++ complaints (n + 1) left
said_more err err' i n n' line left rest at next e read =
    ap (λ k. err' ++ complaints (k + 1) rest) next
    ∙ ap (λ xs. xs ++ complaints (n + 1 + 1) rest) (e ∙ ap (λ k. err ++ complained (k + 1) line) at)
    ∙ append_assoc err (complained (n + 1) line) (complaints (n + 1 + 1) rest)
    ∙ ap (λ ls. err ++ complaints (n + 1) ls) (sym read)

pub held_all : (c : ℕ) (held : List ℕ) (ls : List (List ℕ)) → length held ≤ c → ls ≡ [] → latest c (held ++ numbers ls) ≡ held
held_all c held ls few e = ap (λ xs. latest c (held ++ numbers xs)) e ∙ ap (latest c) (append-nil held) ∙ latest_all c held few

-- What holds after every list of calls.
use Rattle.std.specs.Prelude.{◌≡◌, ℕ, List}
use Rattle.model.specs.Layouts.{Layout}
use Rattle.model.specs.Sound.{Means}
use Rattle.model.specs.Tables.{fresh}
use Rattle.history.specs.declared.calls.Call.{Call}
use Rattle.history.specs.Calls.{answers_to, after_all, cells_answer}
use Rattle.history.specs.Histories.{Event}
use Rattle.history.specs.Promise.{calls, answers, Reached}

-- Where each call answered as the table does, and the cells mean the table after these calls, the promise holds.
abbrev pub HistoriesTell : Type 0 → Type 0
HistoriesTell V =
    (C : ℕ) (h : List (Event V)) (l : Layout V)
    → answers h ≡ answers_to (fresh C) (calls h) → Means l (after_all (fresh C) (calls h)) → Reached C h l

-- Two tables of C keys that got the same calls, whatever rows each stands on, gave the same answers, and answer
-- each further call alike. So a table may be moved to other rows by making its calls there.
abbrev pub TablesAgree : Type 0 → Type 0
TablesAgree V =
    (C : ℕ) (h h' : List (Event V)) (l l' : Layout V) → Reached C h l → Reached C h' l' → calls h ≡ calls h'
    → (answers h ≡ answers h') × ((c : Call V) → cells_answer l c ≡ cells_answer l' c)

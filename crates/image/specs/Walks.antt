-- A walk over the records of an image.
use Rattle.std.specs.Prelude.{◌≡◌, ◌≢◌, ℕ, ◌+◌, ◌-◌, ◌<◌, List, [], ◌∷◌, ◌++◌, Option, MatchOption}
use Rattle.image.specs.declared.record.Record.{Record}
use Rattle.image.specs.declared.walk.Stage.{Stage}
use Rattle.image.specs.declared.walk.Stage.TheVariants.{Start, Values, Done}
use Rattle.image.specs.declared.walk.Records.{Records}
use Rattle.image.specs.Format.{Legal, MayCome}
use Rattle.image.specs.Pieces.{Piece, heading, value, ending, piece, piece_bytes}

-- Which record may come at a stage, and the stage after it: first a legal header; then as many value records as are
-- due, with keys that rise below the capacity; then the end.
abbrev pub Comes : Stage → Piece → Stage → Type 0
Comes Start (heading h) next = Legal h × (next ≡ Values h 0 h.held)
Comes (Values h low due) (value e) next = (0 < due) × MayCome h low e × (next ≡ Values h (e.key + 1) (due - 1))
Comes (Values h low due) ending next = (due ≡ 0) × (next ≡ Done h)
Comes stage p next = ⊥

-- none that may come stands at the front of what is left
abbrev pub NoneComes : Stage → List ℕ → Type 0
NoneComes stage left = (p : Piece) (next : Stage) (rest : List ℕ) → Comes stage p next → left ≢ piece_bytes p ++ rest

-- the capacity that a stage keeps has two bytes
abbrev pub Small : Stage → Type 0
Small Start = Unit {0}
Small (Values h low due) = h.capacity < 65536
Small (Done h) = h.capacity < 65536

-- from a stage on, what is left begins with exactly these records
abbrev pub Holds : Stage → List ℕ → List Piece → Type 0
Holds stage left [] = NoneComes stage left
Holds stage left (p ∷ ps) = (next : Stage) × (rest : List ℕ) × Comes stage p next × (left ≡ piece_bytes p ++ rest) × Holds next rest ps

-- the records that a walk has left
abbrev pub Has : Records → List Piece → Type 0
Has walk ps = Holds walk.stage walk.left.now ps

-- what a call of `next` answers, and the walk after it
pub record Steps (before : Records) (r : Option Record) (after : Records) : Type 0 where
  -- the record that comes next, and what follows it is left; or none where none comes, and the walk stays
  pub comes : MatchOption r (NoneComes before.stage before.left.now × (after ≡ before)) (λ x. Comes before.stage (piece x) after.stage × (before.left.now ≡ piece_bytes (piece x) ++ after.left.now))
  -- the first of the records that the walk has left, and it has the others left; or none where it has none
  pub first : (ps : List Piece) → Has before ps → MatchOption r (ps ≡ []) (λ x. (qs : List Piece) × (ps ≡ piece x ∷ qs) × Has after qs)

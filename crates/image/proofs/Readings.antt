-- An image has one reading, record by record.
use Rattle.std.proofs.Common.{◌≡◌, ℕ, ◌+◌, ◌-◌, ◌<◌, List, [], ◌∷◌, ◌++◌, length, map, take, drop, sym, refl, ap, ◌∙◌, subst, arith, append_assoc}
use Rattle.std.specs.List.{flat_map}
use Rattle.std.proofs.lemmas.List.{take_at, drop_at}
use Rattle.image.specs.declared.header.Header.{Header}
use Rattle.image.specs.declared.walk.Stage.{Stage}
use Rattle.image.specs.declared.walk.Stage.TheVariants.{Start, Values, Done}
use Rattle.image.specs.Format.{Entry, header_bytes, entry_bytes, end_bytes, header_of, Legal, MayCome, Rising, Image}
use Rattle.image.specs.Pieces.{Piece, heading, value, ending, piece_bytes, pieces}
use Rattle.image.specs.Walks.{Comes, NoneComes, Holds, Small}

-- headers that stand at the front of the same bytes are one, and so is what follows
pub same_header : (h k : Header) (r s : List ℕ) → Legal h → Legal k → header_bytes h ++ r ≡ header_bytes k ++ s → (h ≡ k) × (r ≡ s)
same_header h k r s lh lk e = (grind arith, grind arith)

-- parts of one length
same_parts : (a b r s : List ℕ) → length a ≡ length b → a ++ r ≡ b ++ s → (a ≡ b) × (r ≡ s)
same_parts a b r s l e = (
  sym (take_at a r (length a) refl) ∙ ap (take (length a)) e ∙ take_at b s (length a) (sym l),
  sym (drop_at a r (length a) refl) ∙ ap (drop (length a)) e ∙ drop_at b s (length a) (sym l),
)

-- and so are entries
pub same_entry : (h : Header) (low : ℕ) (d e : Entry) (r s : List ℕ) → h.capacity < 65536 → MayCome h low d → MayCome h low e → entry_bytes d ++ r ≡ entry_bytes e ++ s → (d ≡ e) × (r ≡ s)
same_entry h low d e r s c md me eq =
    let key : d.key ≡ e.key = grind arith in
    let rest : d.bytes ++ r ≡ e.bytes ++ s = grind arith in
    let parts = same_parts d.bytes e.bytes r s (md.whole ∙ sym me.whole) rest in
    (grind (arith, parts.0), parts.1)

-- one record may come, with one stage and one rest after it
pub one_comes : (stage : Stage) (p q : Piece) (next other : Stage) (r s : List ℕ) → Small stage → Comes stage p next → Comes stage q other → piece_bytes p ++ r ≡ piece_bytes q ++ s → (p ≡ q) × (next ≡ other) × (r ≡ s)
one_comes Start (heading h) (heading k) next other r s small cp cq e =
    let same = same_header h k r s cp.0 cq.0 e in
    (ap heading same.0, cp.1 ∙ ap (λ x. Values x 0 x.held) same.0 ∙ sym cq.1, same.1)
one_comes Start (heading h) (value d) next other r s small cp cq e = absurd cq
one_comes Start (heading h) ending next other r s small cp cq e = absurd cq
one_comes Start (value d) q next other r s small cp cq e = absurd cp
one_comes Start ending q next other r s small cp cq e = absurd cp
one_comes (Values h low due) (heading k) q next other r s small cp cq e = absurd cp
one_comes (Values h low due) (value d) (heading k) next other r s small cp cq e = absurd cq
one_comes (Values h low due) (value d) (value g) next other r s small cp cq e =
    let same = same_entry h low d g r s small cp.1 cq.1 e in
    (ap value same.0, cp.2 ∙ ap (λ x. Values h (x.key + 1) (due - 1)) same.0 ∙ sym cq.2, same.1)
one_comes (Values h low due) (value d) ending next other r s small cp cq e = absurd (omega arith)
one_comes (Values h low due) ending (heading k) next other r s small cp cq e = absurd cq
one_comes (Values h low due) ending (value g) next other r s small cp cq e = absurd (omega arith)
one_comes (Values h low due) ending ending next other r s small cp cq e = (refl, cp.1 ∙ sym cq.1, grind arith)
one_comes (Done h) p q next other r s small cp cq e = absurd cp

-- from the front, an image holds the records of its entries
entries_held : (h : Header) (low : ℕ) (es : List Entry) → Rising h low es → Holds (Values h low (length es)) (flat_map entry_bytes es ++ end_bytes) (map value es ++ (ending ∷ []))
entries_held h low [] rising = (Done h, [], (refl, refl), refl, λ p next rest comes. absurd comes)
entries_held h low (e ∷ es) rising = (
  Values h (e.key + 1) (length es),
  flat_map entry_bytes es ++ end_bytes,
  (omega arith, rising.0, grind arith),
  append_assoc (entry_bytes e) (flat_map entry_bytes es) end_bytes,
  entries_held h (e.key + 1) es rising.1,
)

pub pieces_held : (bytes : List ℕ) (w C : ℕ) (es : List Entry) → Image bytes w C es → Holds Start bytes (pieces w C es)
pieces_held bytes w C es image = (
  Values (header_of w C es) 0 (length es),
  flat_map entry_bytes es ++ end_bytes,
  (image.0.0, refl),
  image.1,
  entries_held (header_of w C es) 0 es image.0.1,
)

-- what comes is the first of the records that are held, and where none comes none is held
pub none_held : (stage : Stage) (left : List ℕ) (ps : List Piece) → NoneComes stage left → Holds stage left ps → ps ≡ []
none_held stage left [] none held = refl
none_held stage left (p ∷ ps) none held = absurd (none p held.0 held.1 held.2 held.3)

pub first_held : (stage next : Stage) (left rest : List ℕ) (p : Piece) (ps : List Piece) → Small stage → Comes stage p next → left ≡ piece_bytes p ++ rest → Holds stage left ps → (qs : List Piece) × (ps ≡ p ∷ qs) × Holds next rest qs
first_held stage next left rest p [] small comes stands held = absurd (held p next rest comes stands)
first_held stage next left rest p (q ∷ qs) small comes stands held =
    let same = one_comes stage q p held.0 next held.1 rest small held.2 comes (sym held.3 ∙ stands) in
    (qs, ap (λ x. x ∷ qs) same.0, subst (λ r. Holds next r qs) same.2 (subst (λ s. Holds s held.1 qs) same.1 held.4))

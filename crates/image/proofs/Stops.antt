-- What a walk over any bytes has gone past, and what it shows where it stops.
use Rattle.std.specs.Prelude.{Option, Some, None, Result, MatchOption, IfOk, IfErr, is_some}
use Rattle.std.specs.Option.{ok_or}
use Rattle.refusal.specs.declared.Refusal.{Refusal}
use Rattle.refusal.specs.declared.Refusal.TheVariants.{ImageBroken}
use Rattle.image.specs.declared.record.Record.{Record}
use Rattle.image.specs.declared.walk.Records.{Records}
use Rattle.image.specs.Walks.{Steps}
use Rattle.std.proofs.Common.{true, false, ◌≡◌, ℕ, ◌+◌, ◌-◌, ◌<◌, ◌≤◌, List, [], ◌∷◌, ◌++◌, length, sym, refl, ap, ◌∙◌, subst, ⊎_elim, arith, append_assoc, length-append}
use Rattle.std.proofs.str.Laws.{order}
use Rattle.std.specs.List.{flat_map}
use Rattle.std.proofs.lemmas.Grind.{common_steps}
use Rattle.image.specs.declared.header.Header.{Header}
use Rattle.image.specs.declared.walk.Stage.{Stage}
use Rattle.image.specs.declared.walk.Stage.TheVariants.{Start, Values, Done}
use Rattle.image.specs.Format.{Entry, header_bytes, entry_bytes, end_bytes, header_of, Legal, MayCome, Rising, past, Image, Begins, ends_at, Breaks, no_header, no_value, no_end, no_stop}
use Rattle.image.specs.Pieces.{piece, Piece, heading, value, ending, piece_bytes}
use Rattle.image.specs.Walks.{Comes, NoneComes}

-- what a walk of the bytes has gone past
abbrev pub Walked : List ℕ → Stage → List ℕ → Type 0
Walked bytes Start left = left ≡ bytes
Walked bytes (Values h low due) left = (es : List Entry) × Begins bytes h es left × (low ≡ past 0 es) × (length es + due ≡ h.held)
Walked bytes (Done h) left = (es : List Entry) × Begins bytes h es (end_bytes ++ left) × (length es ≡ h.held)

-- one entry more
rising_more : (h : Header) (low : ℕ) (es : List Entry) (e : Entry) → Rising h low es → MayCome h (past low es) e → Rising h low (es ++ (e ∷ []))
rising_more h low [] e rising comes = (comes, tt)
rising_more h low (d ∷ es) e rising comes = (rising.0, rising_more h (d.key + 1) es e rising.1 comes)

past_more : (low : ℕ) (es : List Entry) (e : Entry) → past low (es ++ (e ∷ [])) ≡ e.key + 1
past_more low [] e = refl
past_more low (d ∷ es) e = past_more (d.key + 1) es e

bytes_more : (es : List Entry) (e : Entry) (rest : List ℕ) → flat_map entry_bytes es ++ (entry_bytes e ++ rest) ≡ flat_map entry_bytes (es ++ (e ∷ [])) ++ rest
bytes_more [] e rest = grind (arith, common_steps)
bytes_more (d ∷ es) e rest =
    append_assoc (entry_bytes d) (flat_map entry_bytes es) (entry_bytes e ++ rest)
    ∙ ap (λ x. entry_bytes d ++ x) (bytes_more es e rest)
    ∙ sym (append_assoc (entry_bytes d) (flat_map entry_bytes (es ++ (e ∷ []))) rest)

-- a step of the walk
pub walked_more : (bytes : List ℕ) (stage next : Stage) (p : Piece) (left rest : List ℕ) → Walked bytes stage left → Comes stage p next → left ≡ piece_bytes p ++ rest → Walked bytes next rest
walked_more bytes Start next (heading h) left rest walked comes stands =
    subst (λ s. Walked bytes s rest) (sym comes.1) ([], record { legal = comes.0; rising = tt; stand = sym walked ∙ stands }, refl, omega arith)
walked_more bytes Start next (value e) left rest walked comes stands = absurd comes
walked_more bytes Start next ending left rest walked comes stands = absurd comes
walked_more bytes (Values h low due) next (heading k) left rest walked comes stands = absurd comes
walked_more bytes (Values h low due) next (value e) left rest walked comes stands =
    subst (λ s. Walked bytes s rest) (sym comes.2) (
      walked.0 ++ (e ∷ []),
      record {
        legal = walked.1.legal;
        rising = rising_more h 0 walked.0 e walked.1.rising (subst (λ l. MayCome h l e) walked.2 comes.1);
        stand = walked.1.stand ∙ ap (λ x. header_bytes h ++ x) (ap (λ x. flat_map entry_bytes walked.0 ++ x) stands ∙ bytes_more walked.0 e rest);
      },
      sym (past_more 0 walked.0 e),
      simp length-append (omega (arith, walked.3, comes.0)),
    )
walked_more bytes (Values h low due) next ending left rest walked comes stands =
    subst (λ s. Walked bytes s rest) (sym comes.1) (
      walked.0,
      record { legal = walked.1.legal; rising = walked.1.rising; stand = walked.1.stand ∙ ap (λ x. header_bytes h ++ (flat_map entry_bytes walked.0 ++ x)) stands },
      omega (arith, walked.3, comes.0),
    )
walked_more bytes (Done h) next p left rest walked comes stands = absurd comes

-- a walk leaves a back part of the bytes
length_past : (bytes : List ℕ) (h : Header) (es : List Entry) (rest : List ℕ) → Begins bytes h es rest → length bytes ≡ ends_at h es + length rest
length_past bytes h es rest begins =
    ap length (begins.stand ∙ sym (append_assoc (header_bytes h) (flat_map entry_bytes es) rest))
    ∙ length-append (header_bytes h ++ flat_map entry_bytes es) rest

pub within : (bytes : List ℕ) (stage : Stage) (left : List ℕ) → Walked bytes stage left → length left ≤ length bytes
within bytes Start left walked = omega (arith, ap length walked)
within bytes (Values h low due) left walked = omega (arith, length_past bytes h walked.0 left walked.1)
within bytes (Done h) left walked = omega (arith, length_past bytes h walked.0 (end_bytes ++ left) walked.1, length-append end_bytes left)

-- where none comes, and the walk is not at the end of an image, a rule is broken
pub broken : (bytes : List ℕ) (stage : Stage) (left : List ℕ) → Walked bytes stage left → NoneComes stage left → ((h : Header) → stage ≡ Done h → 0 < length left) → Breaks bytes (length bytes - length left)
broken bytes Start left walked none more = no_header (omega (arith, ap length walked)) (λ h rest legal e. none (heading h) (Values h 0 h.held) rest (legal, refl) (walked ∙ e))
broken bytes (Values h low due) left walked none more =
    let at : length bytes - length left ≡ ends_at h walked.0 = omega (arith, length_past bytes h walked.0 left walked.1) in
    ⊎_elim
    (λ some. no_value h walked.0 left walked.1 (omega (arith, walked.3)) at (λ e rest comes stands. none (value e) (Values h (e.key + 1) (due - 1)) rest (some, subst (λ l. MayCome h l e) (sym walked.2) comes, refl) stands))
    (λ nothing. no_end h walked.0 left walked.1 (omega (arith, walked.3)) at (λ rest stands. none ending (Done h) rest (omega arith, refl) stands))
    (order 0 due)
broken bytes (Done h) [] walked none more = absurd (omega (arith, more h refl))
broken bytes (Done h) (b ∷ left) walked none more =
    no_stop h walked.0 b left walked.1 walked.2 (omega (arith, length_past bytes h walked.0 (end_bytes ++ (b ∷ left)) walked.1, length-append end_bytes (b ∷ left)))

-- and at the end of an image, the bytes are that image
pub whole : (bytes : List ℕ) (h : Header) → Walked bytes (Done h) [] → (es : List Entry) × Image bytes h.width h.capacity es × (h.held ≡ length es)
whole bytes h walked =
    let same : h ≡ header_of h.width h.capacity walked.0 = ap (λ n. let k : Header = record { width = h.width; capacity = h.capacity; held = n } in k) (sym walked.2) in (
      walked.0,
      ((subst Legal same walked.1.legal, subst (λ x. Rising x 0 walked.0) same walked.1.rising), subst (λ x. bytes ≡ header_bytes x ++ (flat_map entry_bytes walked.0 ++ end_bytes)) same walked.1.stand),
      sym walked.2,
    )

-- a call of `next` that answers a record, and one that answers none
pub went_on : (bytes : List ℕ) (before after : Records) (r : Option Record) → Walked bytes before.stage before.left.now → Steps before r after → is_some r ≡ true → Walked bytes after.stage after.left.now
went_on bytes before after None walked steps some = absurd (cc (some))
went_on bytes before after (Some x) walked steps some = walked_more bytes before.stage after.stage (piece x) before.left.now after.left.now walked steps.comes.0 steps.comes.1

pub stopped : (bytes : List ℕ) (before after : Records) (r : Option Record) → Walked bytes before.stage before.left.now → Steps before r after → is_some r ≡ false → Walked bytes after.stage after.left.now × NoneComes after.stage after.left.now
stopped bytes before after None walked steps none =
    let P : Records → Type 0 = λ x. Walked bytes x.stage x.left.now × NoneComes x.stage x.left.now in
    subst P (sym steps.comes.1) (walked, steps.comes.0)
stopped bytes before after (Some x) walked steps none = absurd (cc (none))

-- what is answered where the walk stopped
abbrev pub Answers : List ℕ → Result Header Refusal → Type 0
Answers bytes r =
    IfOk r (λ h. (es : List Entry) × Image bytes h.width h.capacity es × (h.held ≡ length es))
    × IfErr r (λ e. (n : ℕ) × (e ≡ ImageBroken n) × Breaks bytes n)

pub answered : (bytes left : List ℕ) (stage : Stage) (n : ℕ) (found : Option Header) (r : Result Header Refusal) → Walked bytes stage left → NoneComes stage left
    → MatchOption found ((h : Header) → stage ≡ Done h → 0 < length left) (λ h. (stage ≡ Done h) × (left ≡ []))
    → n ≡ length bytes - length left → r ≡ ok_or found (ImageBroken n) → Answers bytes r
answered bytes left stage n None r walked none finds at e =
    subst (Answers bytes) (sym e) (tt, (n, refl, subst (Breaks bytes) (sym at) (broken bytes stage left walked none finds)))
answered bytes left stage n (Some h) r walked none finds at e =
    subst (Answers bytes) (sym e) (whole bytes h (subst (λ s. Walked bytes s []) finds.0 (subst (Walked bytes stage) finds.1 walked)), tt)

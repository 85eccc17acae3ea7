-- No bytes have two readings: an image is of one width, capacity and list of entries, and breaks no rule.
use Rattle.std.proofs.Common.{◌≡◌, ℕ, ◌+◌, ◌<◌, ◌≤◌, List, [], ◌∷◌, ◌++◌, length, sym, refl, ap, ◌∙◌, subst, arith, append_assoc, length-append}
use Rattle.std.specs.List.{flat_map}
use Rattle.std.proofs.lemmas.List.{append-nil}
use Rattle.image.specs.declared.header.Header.{Header}
use Rattle.std.proofs.Common.{⊎_elim, inl, inr}
use Rattle.std.specs.Prelude.{◌⊎◌}
use Rattle.std.proofs.str.Laws.{order}
use Rattle.image.specs.Format.{Reading, Reads, whole, broken, ends_at, NoHeader, NoEnd, Entry, entry_bytes, end_bytes, header_of, Rising, past, NoEntry, Image, Begins, Breaks, no_header, no_value, no_end, no_stop}
use Rattle.image.proofs.Readings.{same_header, same_entry}
use Rattle.image.proofs.Stops.{Answers}
use Rattle.std.specs.Prelude.{Result, Ok, Err, IfErr}
use Rattle.refusal.specs.declared.Refusal.{Refusal}

-- of two lists of entries at the front of the same bytes, the longer goes on where the shorter ends
same_front : (h : Header) (low : ℕ) (es ds : List Entry) (r s : List ℕ) → h.capacity < 65536 → Rising h low es → Rising h low ds → length ds ≤ length es → flat_map entry_bytes es ++ r ≡ flat_map entry_bytes ds ++ s
    → (more : List Entry) × (es ≡ ds ++ more) × Rising h (past low ds) more × (s ≡ flat_map entry_bytes more ++ r)
same_front h low es [] r s c re rd le e = (es, refl, re, sym e)
same_front h low [] (d ∷ ds) r s c re rd le e = absurd (omega arith)
same_front h low (g ∷ es) (d ∷ ds) r s c re rd le e =
    let regrouped = sym (append_assoc (entry_bytes g) (flat_map entry_bytes es) r) ∙ e ∙ append_assoc (entry_bytes d) (flat_map entry_bytes ds) s in
    let same = same_entry h low g d (flat_map entry_bytes es ++ r) (flat_map entry_bytes ds ++ s) c re.0 rd.0 regrouped in
    let rest = same_front h (d.key + 1) es ds r s c (subst (λ x. Rising h (x.key + 1) es) same.0 re.1) rd.1 (omega arith) same.1 in
    (rest.0, ap (λ x. x ∷ es) same.0 ∙ ap (λ x. d ∷ x) rest.1, rest.2, rest.3)

-- an image goes on where entries at its front end
record GoesOn (h k : Header) (es ds : List Entry) (rest : List ℕ) : Type 0 where
  same : h ≡ k
  more : List Entry
  joined : es ≡ ds ++ more
  rising : Rising k (past 0 ds) more
  stands : rest ≡ flat_map entry_bytes more ++ end_bytes

goes_on : (bytes : List ℕ) (w C : ℕ) (es : List Entry) (k : Header) (ds : List Entry) (rest : List ℕ) → Image bytes w C es → Begins bytes k ds rest → length ds ≤ k.held → GoesOn (header_of w C es) k es ds rest
goes_on bytes w C es k ds rest image begins le =
    let same = same_header (header_of w C es) k (flat_map entry_bytes es ++ end_bytes) (flat_map entry_bytes ds ++ rest) image.0.0 begins.legal (sym image.1 ∙ begins.stand) in
    let held : length es ≡ k.held = ap (λ x. x.held) same.0 in
    let front = same_front k 0 es ds end_bytes rest (begins.legal.capacity) (subst (λ x. Rising x 0 es) same.0 image.0.1) begins.rising (omega arith) same.1 in
    record { same = same.0; more = front.0; joined = front.1; rising = front.2; stands = front.3 }

-- how many entries are behind those
left_over : (h k : Header) (es ds : List Entry) (rest : List ℕ) (on : GoesOn h k es ds rest) → length es ≡ length ds + length on.more
left_over h k es ds rest on = ap length on.joined ∙ length-append ds on.more

none_more : (ds more : List Entry) → length more ≡ 0 → ds ++ more ≡ ds
none_more ds [] none = append-nil ds
none_more ds (m ∷ more) none = absurd (omega arith)

-- where some are, a value record stands; where none is, the end alone
stands_next : (k : Header) (low : ℕ) (more : List Entry) (rest : List ℕ) → Rising k low more → rest ≡ flat_map entry_bytes more ++ end_bytes → 0 < length more → NoEntry k low rest → ⊥
stands_next k low [] rest rising stands some none = absurd (omega arith)
stands_next k low (m ∷ more) rest rising stands some none = none m (flat_map entry_bytes more ++ end_bytes) rising.0 (stands ∙ append_assoc (entry_bytes m) (flat_map entry_bytes more) end_bytes)

stands_last : (more : List Entry) (rest : List ℕ) → rest ≡ flat_map entry_bytes more ++ end_bytes → length more ≡ 0 → rest ≡ end_bytes
stands_last [] rest stands none = stands
stands_last (m ∷ more) rest stands none = absurd (omega arith)

-- an image breaks no rule
pub unbroken : (bytes : List ℕ) (n w C : ℕ) (es : List Entry) → Breaks bytes n → Image bytes w C es → ⊥
unbroken bytes n w C es (no_header at none) image = none (header_of w C es) (flat_map entry_bytes es ++ end_bytes) image.0.0 image.1
unbroken bytes n w C es (no_value k ds rest begins fewer at none) image =
    let on : GoesOn (header_of w C es) k es ds rest = goes_on bytes w C es k ds rest image begins (omega arith) in
    let held : length es ≡ k.held = ap (λ x. x.held) on.same in
    stands_next k (past 0 ds) on.more rest on.rising on.stands (omega (arith, left_over _ k es ds rest on)) none
unbroken bytes n w C es (no_end k ds rest begins all at none) image =
    let on : GoesOn (header_of w C es) k es ds rest = goes_on bytes w C es k ds rest image begins (omega arith) in
    let held : length es ≡ k.held = ap (λ x. x.held) on.same in
    none [] (stands_last on.more rest on.stands (omega (arith, left_over _ k es ds rest on)))
unbroken bytes n w C es (no_stop k ds b rest begins all at) image =
    let on : GoesOn (header_of w C es) k es ds (end_bytes ++ (b ∷ rest)) = goes_on bytes w C es k ds (end_bytes ++ (b ∷ rest)) image begins (omega arith) in
    let held : length es ≡ k.held = ap (λ x. x.held) on.same in
    absurd (omega (arith, ap length (stands_last on.more (end_bytes ++ (b ∷ rest)) on.stands (omega (arith, left_over _ k es ds _ on)))))

-- an image is one of one width, capacity and list of entries
pub one_reading : (bytes : List ℕ) (w C v D : ℕ) (es ds : List Entry) → Image bytes w C es → Image bytes v D ds → (header_of w C es ≡ header_of v D ds) × (es ≡ ds)
one_reading bytes w C v D es ds image other =
    let on : GoesOn (header_of w C es) (header_of v D ds) es ds end_bytes = goes_on bytes w C es (header_of v D ds) ds end_bytes image (record { legal = other.0.0; rising = other.0.1; stand = other.1 }) (omega arith) in
    let held : length es ≡ length ds = ap (λ x. x.held) on.same in
    (on.same, on.joined ∙ none_more ds on.more (omega (arith, left_over _ _ es ds end_bytes on)))

-- where entries at the front stop, and why a rule is broken there
record Stops (k : Header) (ds : List Entry) (rest : List ℕ) (n : ℕ) : Type 0 where
  most : length ds ≤ k.held
  fewer : length ds < k.held → (n ≡ ends_at k ds) × NoEntry k (past 0 ds) rest
  all : length ds ≡ k.held → ((n ≡ ends_at k ds) × NoEnd rest) ⊎ ((n ≡ ends_at k ds + 2) × (tail : List ℕ) × (rest ≡ end_bytes ++ tail))

-- the same entries stop at one place
stop_once : (k : Header) (ds : List Entry) (rest : List ℕ) (n m : ℕ) → Stops k ds rest n → Stops k ds rest m → n ≡ m
stop_once k ds rest n m a b =
    ⊎_elim
    (λ lt. (a.fewer lt).0 ∙ sym (b.fewer lt).0)
    (λ ge.
    let full : length ds ≡ k.held = omega (arith, a.most) in
    ⊎_elim
    (λ p. ⊎_elim (λ q. p.0 ∙ sym q.0) (λ q. absurd (p.1 q.1 q.2)) (b.all full))
    (λ p. ⊎_elim (λ q. absurd (q.1 p.1 p.2)) (λ q. p.0 ∙ sym q.0) (b.all full))
    (a.all full))
    (order (length ds) k.held)

-- and of two lists the shorter stops only where both are one
stop_together : (bytes : List ℕ) (k : Header) (es ds more : List Entry) (r s : List ℕ) (m n : ℕ) → Stops k es r m → Stops k ds s n → es ≡ ds ++ more → Rising k (past 0 ds) more → s ≡ flat_map entry_bytes more ++ r → m ≡ n
stop_together bytes k es ds [] r s m n a b joined rising stands =
    stop_once k ds s m n (subst (λ x. Stops k ds x m) (sym stands) (subst (λ x. Stops k x r m) (joined ∙ append-nil ds) a)) b
stop_together bytes k es ds (x ∷ more) r s m n a b joined rising stands =
    let lt : length ds < k.held = omega (arith, a.most, ap length joined ∙ length-append ds (x ∷ more)) in
    absurd ((b.fewer lt).1 x (flat_map entry_bytes more ++ r) rising.0 (stands ∙ append_assoc (entry_bytes x) (flat_map entry_bytes more) r))

-- what breaks a rule behind a header
record Behind (bytes : List ℕ) (n : ℕ) : Type 0 where
  header : Header
  entries : List Entry
  rest : List ℕ
  begins : Begins bytes header entries rest
  stops : Stops header entries rest n

behind : (bytes : List ℕ) (n : ℕ) → Breaks bytes n → ((n ≡ 0) × NoHeader bytes) ⊎ Behind bytes n
behind bytes n (no_header at none) = inl (at, none)
behind bytes n (no_value k ds rest begins fewer at none) =
    inr (record { header = k; entries = ds; rest = rest; begins = begins; stops = record { most = omega arith; fewer = λ lt. (at, none); all = λ e. absurd (omega arith) } })
behind bytes n (no_end k ds rest begins full at none) =
    inr (record { header = k; entries = ds; rest = rest; begins = begins; stops = record { most = omega arith; fewer = λ lt. absurd (omega arith); all = λ e. inl (at, none) } })
behind bytes n (no_stop k ds b rest begins full at) =
    inr (record { header = k; entries = ds; rest = end_bytes ++ (b ∷ rest); begins = begins; stops = record { most = omega arith; fewer = λ lt. absurd (omega arith); all = λ e. inr (at, b ∷ rest, refl) } })

-- two stops behind headers of one string of bytes
behind_once : (bytes : List ℕ) (m n : ℕ) → Behind bytes m → Behind bytes n → m ≡ n
behind_once bytes m n a b =
    let h = a.header in
    let es = a.entries in
    let ds = b.entries in
    let same = same_header h b.header (flat_map entry_bytes es ++ a.rest) (flat_map entry_bytes ds ++ b.rest) a.begins.legal b.begins.legal (sym a.begins.stand ∙ b.begins.stand) in
    let rising : Rising h 0 ds = subst (λ x. Rising x 0 ds) (sym same.0) b.begins.rising in
    let stops : Stops h ds b.rest n = subst (λ x. Stops x ds b.rest n) (sym same.0) b.stops in
    ⊎_elim
    (λ lt.
    let front = same_front h 0 ds es b.rest a.rest a.begins.legal.capacity rising a.begins.rising (omega arith) (sym same.1) in
    sym (stop_together bytes h ds es front.0 b.rest a.rest n m stops a.stops front.1 front.2 front.3))
    (λ ge.
    let front = same_front h 0 es ds a.rest b.rest a.begins.legal.capacity a.begins.rising rising ge same.1 in
    stop_together bytes h es ds front.0 a.rest b.rest m n a.stops stops front.1 front.2 front.3)
    (order (length es) (length ds))

-- bytes break a rule at one offset
pub one_offset : (bytes : List ℕ) (m n : ℕ) → Breaks bytes m → Breaks bytes n → m ≡ n
one_offset bytes m n a b =
    ⊎_elim
    (λ p. ⊎_elim (λ q. p.0 ∙ sym q.0) (λ q. absurd (p.1 q.header _ q.begins.legal q.begins.stand)) (behind bytes n b))
    (λ p. ⊎_elim (λ q. absurd (q.1 p.header _ p.begins.legal p.begins.stand)) (λ q. behind_once bytes m n p q) (behind bytes n b))
    (behind bytes m a)

-- bytes have one reading
pub one_reads : (bytes : List ℕ) (r s : Reading) → Reads bytes r → Reads bytes s → r ≡ s
one_reads bytes (whole w C es) (whole v D ds) a b =
    let same = one_reading bytes w C v D es ds a b in
    ap (λ (h : Header). whole h.width h.capacity es) same.0 ∙ ap (whole v D) same.1
one_reads bytes (whole w C es) (broken n) a b = absurd (unbroken bytes n w C es b a)
one_reads bytes (broken m) (whole v D ds) a b = absurd (unbroken bytes m v D ds a b)
one_reads bytes (broken m) (broken n) a b = ap broken (one_offset bytes m n a b)

-- so bytes that are refused are no image
pub refused : (bytes : List ℕ) (r : Result Header Refusal) → Answers bytes r → IfErr r (λ e. (w C : ℕ) (es : List Entry) → Image bytes w C es → ⊥)
refused bytes (Ok h) answers = tt
refused bytes (Err e) answers = λ w C es image. unbroken bytes answers.1.0 w C es answers.1.2 image

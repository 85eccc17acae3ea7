-- The largest image, and what bytes past it change: nothing.
use Rattle.std.proofs.Common.{◌≡◌, ℕ, ◌+◌, ◌*◌, ◌<◌, ◌≤◌, List, [], ◌∷◌, ◌++◌, length, take, drop, sym, refl, ap, ◌∙◌, arith, append_assoc, length-append, take-append-drop, mul-le-mul_right, add-mul, one-mul}
use Rattle.std.specs.List.{flat_map}
use Rattle.std.proofs.lemmas.List.{take_at, take-append-le}
use Rattle.image.specs.declared.header.Header.{Header}
use Rattle.image.specs.Format.{Entry, header_bytes, entry_bytes, end_bytes, header_of, Rising, Image, Begins, no_header, no_value, no_end, no_stop, Reading, Reads, whole, broken}

-- how many bytes value records have
entries_length : (h : Header) (low : ℕ) (es : List Entry) → Rising h low es → length (flat_map entry_bytes es) ≡ length es * (4 + h.width)
entries_length h low [] rising = omega arith
entries_length h low (e ∷ es) rising =
    let rest = entries_length h (e.key + 1) es rising.1 in
    let more : (length es + 1) * (4 + h.width) ≡ length es * (4 + h.width) + (4 + h.width) = add-mul (length es) 1 (4 + h.width) ∙ ap (λ k. length es * (4 + h.width) + k) (one-mul (4 + h.width)) in
    let one : length (entry_bytes e) ≡ 4 + h.width = omega (arith, rising.0.whole) in
    length-append (entry_bytes e) (flat_map entry_bytes es) ∙ omega (arith, rest, more, one)

-- so many value records and the end have no more bytes than in the largest image
bounded : (n w : ℕ) → n ≤ 65535 → w < 256 → n * (4 + w) ≤ 16973565
bounded n w count width =
    let a : n * (4 + w) ≤ 65535 * (4 + w) = mul-le-mul_right (4 + w) count in
    omega arith

-- a front of no more bytes than there are stands whatever follows
front_stays : (bytes more front rest : List ℕ) → length front ≤ length bytes → bytes ++ more ≡ front ++ rest → bytes ≡ front ++ drop (length front) bytes
front_stays bytes more front rest fits e =
    let part : take (length front) bytes ≡ front = sym (take-append-le (length front) bytes more fits) ∙ ap (take (length front)) e ∙ take_at front rest (length front) refl in
    sym (take-append-drop (length front) bytes) ∙ ap (λ x. x ++ drop (length front) bytes) part

begins_longer : (bytes more : List ℕ) (h : Header) (es : List Entry) (rest : List ℕ) → Begins bytes h es rest → Begins (bytes ++ more) h es (rest ++ more)
begins_longer bytes more h es rest begins = record {
  legal = begins.legal;
  rising = begins.rising;
  stand =
      ap (λ x. x ++ more) begins.stand
      ∙ append_assoc (header_bytes h) (flat_map entry_bytes es ++ rest) more
      ∙ ap (λ x. header_bytes h ++ x) (append_assoc (flat_map entry_bytes es) rest more);
}

-- how many bytes are behind value records
behind_length : (bytes : List ℕ) (h : Header) (es : List Entry) (rest : List ℕ) → Begins bytes h es rest → length bytes ≡ 8 + (length es * (4 + h.width) + length rest)
behind_length bytes h es rest begins =
    ap length begins.stand
    ∙ length-append (header_bytes h) (flat_map entry_bytes es ++ rest)
    ∙ ap (λ n. 8 + n) (length-append (flat_map entry_bytes es) rest ∙ ap (λ n. n + length rest) (entries_length h 0 es begins.rising))

-- the largest image
pub most_bytes : (bytes : List ℕ) (w C : ℕ) (es : List Entry) → Image bytes w C es → length bytes ≤ 16973575
most_bytes bytes w C es image =
    let long = behind_length bytes (header_of w C es) es end_bytes (record { legal = image.0.0; rising = image.0.1; stand = image.1 }) in
    omega (arith, long, bounded (length es) w (omega (arith, image.0.0.capacity, image.0.0.held)) image.0.0.width)

-- bytes that are more than an image has are read alike whatever follows
pub read_alike : (bytes more : List ℕ) (r : Reading) → 16973575 < length bytes → Reads bytes r → Reads (bytes ++ more) r
read_alike bytes more (whole w C es) long reads = absurd (omega (arith, most_bytes bytes w C es reads))
read_alike bytes more (broken n) long (no_header at none) =
    no_header at (λ h rest legal e. none h (drop 8 bytes) legal (front_stays bytes more (header_bytes h) rest (omega arith) e))
read_alike bytes more (broken n) long (no_value k ds rest begins fewer at none) =
    let w = k.width in
    let left = behind_length bytes k ds rest begins in
    let less : (length ds + 1) * (4 + w) ≡ length ds * (4 + w) + (4 + w) = add-mul (length ds) 1 (4 + w) ∙ ap (λ x. length ds * (4 + w) + x) (one-mul (4 + w)) in
    let fits = bounded (length ds + 1) w (omega (arith, begins.legal.capacity, begins.legal.held)) begins.legal.width in
    no_value k ds (rest ++ more) (begins_longer bytes more k ds rest begins) fewer at
    (λ e tail comes stands. none e (drop (length (entry_bytes e)) rest) comes (front_stays rest more (entry_bytes e) tail (omega (arith, comes.whole, left, less, fits)) stands))
read_alike bytes more (broken n) long (no_end k ds rest begins full at none) =
    let left = behind_length bytes k ds rest begins in
    let fits = bounded (length ds) k.width (omega (arith, begins.legal.capacity, begins.legal.held)) begins.legal.width in
    no_end k ds (rest ++ more) (begins_longer bytes more k ds rest begins) full at
    (λ tail stands. none (drop 2 rest) (front_stays rest more end_bytes tail (omega (arith, left, fits)) stands))
read_alike bytes more (broken n) long (no_stop k ds b rest begins full at) =
    no_stop k ds b (rest ++ more) (begins_longer bytes more k ds (end_bytes ++ (b ∷ rest)) begins) full at

-- Saved images, form 1: the bytes of a table's capacity and of its holding keys with their values.
use Rattle.std.specs.Prelude.{◌≡◌, ◌≢◌, ℕ, ◌+◌, ◌<◌, ◌≤◌, List, [], ◌∷◌, ◌++◌, length}
use Rattle.std.specs.List.{flat_map}
use Rattle.codes.specs.Little.{little_bytes}
use Rattle.image.specs.declared.header.Header.{Header}

-- a key, and the bytes of its value
pub record Entry : Type 0 where
  pub key : ℕ
  pub bytes : List ℕ

-- the bytes of a header: its two marks, the number of the form, the width of a value, and in two bytes each the
-- capacity and how many keys hold
abbrev pub header_bytes : Header → List ℕ
header_bytes h = 0x53 ∷ 0x4D ∷ 0x01 ∷ h.width ∷ (little_bytes 2 h.capacity ++ little_bytes 2 h.held)

-- the bytes of a value record: its two marks, the key in two bytes, and the bytes of the value
abbrev pub entry_bytes : Entry → List ℕ
entry_bytes e = 0x53 ∷ 0x56 ∷ (little_bytes 2 e.key ++ e.bytes)

-- the bytes of the end: its two marks
abbrev pub end_bytes : List ℕ
end_bytes = 0x53 ∷ 0x45 ∷ []

-- the header of an image of width w and capacity C with these entries
abbrev pub header_of : ℕ → ℕ → List Entry → Header
header_of w C es = record { width = w; capacity = C; held = length es }

-- the bytes of an image: its header, a value record for each entry, and the end
abbrev pub image_bytes : ℕ → ℕ → List Entry → List ℕ
image_bytes w C es = header_bytes (header_of w C es) ++ (flat_map entry_bytes es ++ end_bytes)

-- what a header may say: the width is a byte and not 0, the capacity has two bytes, and no more keys hold than there are
pub record Legal (h : Header) : Type 0 where
  pub some : 0 < h.width
  pub width : h.width < 256
  pub capacity : h.capacity < 65536
  pub held : h.held ≤ h.capacity

-- an entry that may come where keys from `low` on are left: its key is none before `low` and below the capacity, and
-- its value has as many bytes as the width says
pub record MayCome (h : Header) (low : ℕ) (e : Entry) : Type 0 where
  pub rising : low ≤ e.key
  pub below : e.key < h.capacity
  pub whole : length e.bytes ≡ h.width

-- entries that may come one after another, each with a key past the one before
abbrev pub Rising : Header → ℕ → List Entry → Type 0
Rising h low [] = Unit {0}
Rising h low (e ∷ es) = MayCome h low e × Rising h (e.key + 1) es

-- the first key that is left after entries
abbrev pub past : ℕ → List Entry → ℕ
past low [] = low
past low (e ∷ es) = past (e.key + 1) es

-- the form: a legal header, and entries whose keys rise from 0 on
abbrev pub Form : ℕ → ℕ → List Entry → Type 0
Form w C es = Legal (header_of w C es) × Rising (header_of w C es) 0 es

-- these bytes are the image, of width w and capacity C, of these entries
abbrev pub Image : List ℕ → ℕ → ℕ → List Entry → Type 0
Image bytes w C es = Form w C es × (bytes ≡ image_bytes w C es)

-- no header stands at the front
abbrev pub NoHeader : List ℕ → Type 0
NoHeader bytes = (h : Header) (rest : List ℕ) → Legal h → bytes ≢ header_bytes h ++ rest

-- no value record that may come where keys from `low` on are left stands at the front
abbrev pub NoEntry : Header → ℕ → List ℕ → Type 0
NoEntry h low bytes = (e : Entry) (rest : List ℕ) → MayCome h low e → bytes ≢ entry_bytes e ++ rest

-- no end stands at the front
abbrev pub NoEnd : List ℕ → Type 0
NoEnd bytes = (rest : List ℕ) → bytes ≢ end_bytes ++ rest

-- the bytes begin with a legal header and with entries' value records that keep the form; then comes `rest`
pub record Begins (bytes : List ℕ) (h : Header) (es : List Entry) (rest : List ℕ) : Type 0 where
  pub legal : Legal h
  pub rising : Rising h 0 es
  pub stand : bytes ≡ header_bytes h ++ (flat_map entry_bytes es ++ rest)

-- where a header and the value records behind it end
abbrev pub ends_at : Header → List Entry → ℕ
ends_at h es = length (header_bytes h ++ flat_map entry_bytes es)

-- a rule of the form is broken at n
pub data Breaks (bytes : List ℕ) (n : ℕ) : Type 0 where
  -- at the front, where no header stands
  no_header : n ≡ 0 → NoHeader bytes → Breaks bytes n
  -- where a value record is due, and none that may come stands
  no_value : (h : Header) (es : List Entry) (rest : List ℕ) → Begins bytes h es rest → length es < h.held → n ≡ ends_at h es → NoEntry h (past 0 es) rest → Breaks bytes n
  -- where the end is due, and does not stand
  no_end : (h : Header) (es : List Entry) (rest : List ℕ) → Begins bytes h es rest → length es ≡ h.held → n ≡ ends_at h es → NoEnd rest → Breaks bytes n
  -- just past the end, where a byte stands
  no_stop : (h : Header) (es : List Entry) (b : ℕ) (rest : List ℕ) → Begins bytes h es (end_bytes ++ (b ∷ rest)) → length es ≡ h.held → n ≡ ends_at h es + length end_bytes → Breaks bytes n

-- what bytes are: the image of these entries, or no image, since a rule is broken at this offset
pub data Reading : Type 0 where
  whole : ℕ → ℕ → List Entry → Reading
  broken : ℕ → Reading

abbrev pub Reads : List ℕ → Reading → Type 0
Reads bytes (whole w C es) = Image bytes w C es
Reads bytes (broken n) = Breaks bytes n

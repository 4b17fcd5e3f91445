-- Bytes as they are shown. Own.
use Rattle.std.specs.Prelude.{ℕ, ◌+◌, ◌/◌, ◌%◌, ◌<◌, ◌≤◌, List, [], ◌∷◌, ◌++◌, cond, nat_eq, nat_lt, nat_le, ◌&&◌, ◌≡◌, length, take}
use Rattle.std.specs.List.{flat_map}

abbrev pub digit : ℕ → ℕ
digit number = cond (nat_lt number 10) (48 + number) (87 + number)

-- printable ASCII by itself, and any other byte by its two hexadecimal digits
abbrev pub shown_byte : ℕ → List ℕ
shown_byte byte = cond (nat_le 32 byte && nat_le byte 126) (byte ∷ []) (92 ∷ 120 ∷ digit (byte / 16) ∷ digit (byte % 16) ∷ [])

abbrev pub shown : List ℕ → List ℕ
shown bytes = flat_map shown_byte bytes

-- behind a newline the next line begins with two spaces
abbrev pub shown_within : ℕ → List ℕ
shown_within byte = cond (nat_eq byte 10) (10 ∷ 32 ∷ 32 ∷ []) (shown_byte byte)

-- the lines of a text, each two spaces in, and a newline
abbrev pub indented : List ℕ → List ℕ
indented text = (32 ∷ 32 ∷ []) ++ flat_map shown_within text ++ 10 ∷ []

abbrev pub dots : List ℕ
dots = 46 ∷ 46 ∷ []

-- A text as it is quoted: its first bytes as they are shown, and dots where some are left out. None is where it takes less than 196 bytes.
pub record IsQuoteOf (text quote : List ℕ) : Type 0 where
  pub kept : ℕ
  pub within : kept ≤ length text
  pub quoted : quote ≡ shown (take kept text) ++ cond (nat_lt kept (length text)) dots []
  pub whole : length (shown text) < 196 → kept ≡ length text
  pub short : length quote ≤ 202

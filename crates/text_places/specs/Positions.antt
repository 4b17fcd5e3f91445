-- How it is read and written: nobody has to believe it.
-- Lines and columns of a text. Own.
use Rattle.std.specs.Prelude.{ℕ, ◌+◌, ◌-◌, Bool, List, [], ◌∷◌, ◌++◌, cond, nat_eq, nat_lt, nat_le, ◌||◌, length, min, take, drop, replicate, codes}
use Rattle.std.specs.List.{after_last, before_first, count_by}
use Rattle.std.specs.Cmp.Lexicographic.{pointwise}
use Rattle.std.specs.Fmt.{decimal}
use Rattle.text_places.specs.Shown.{shown, dots}

abbrev pub is_newline : ℕ → Bool
is_newline byte = nat_eq byte 10

-- whether a character of UTF-8 begins with a byte
abbrev pub begins_character : ℕ → Bool
begins_character byte = nat_lt byte 128 || nat_le 192 byte

-- from 1 on
abbrev pub line_of : List ℕ → ℕ → ℕ
line_of text offset = count_by is_newline (take (min offset (length text)) text) + 1

-- what stands before a place in its line, and from there on
abbrev pub line_before : List ℕ → ℕ → List ℕ
line_before text offset = after_last is_newline (take (min offset (length text)) text)

-- a line without the carriage return before its newline
abbrev pub without_return : List ℕ → List ℕ
without_return line = cond (pointwise nat_eq (drop (length line - 1) line) (13 ∷ [])) (take (length line - 1) line) line

abbrev pub first_line : List ℕ → List ℕ
first_line text = without_return (before_first is_newline text)

abbrev pub line_behind : List ℕ → ℕ → List ℕ
line_behind text offset = first_line (drop (min offset (length text)) text)

-- from 1 on, in characters
abbrev pub column_of : List ℕ → ℕ
column_of before = count_by begins_character before + 1

-- the last 60 bytes, and the first 60, as they are shown
abbrev pub front_shown : List ℕ → List ℕ
front_shown before = cond (nat_le (length before) 60) (shown before) (dots ++ shown (drop (length before - 60) before))

abbrev pub rest_shown : List ℕ → List ℕ
rest_shown behind = cond (nat_le (length behind) 60) (shown behind) (shown (take 60 behind) ++ dots)

abbrev pub bar : List ℕ
bar = codes " | "

-- the line behind its number, and below it a caret at the place
abbrev pub drawn : ℕ → List ℕ → List ℕ → List ℕ
drawn line before behind =
    decimal line ++ bar ++ front_shown before ++ rest_shown behind ++ codes "\n"
    ++ replicate (length (decimal line)) 32 ++ bar ++ replicate (length (front_shown before)) 32 ++ codes "^"

abbrev pub named : ℕ → ℕ → List ℕ
named line column = codes "line " ++ decimal line ++ codes ", column " ++ decimal column

-- The texts that values of limit files beyond `LimitFile` are, line by line.
use Rattle.std.specs.Prelude.{ℕ, ◌&&◌, ◌==◌, Bool, cond, nat_le, nat_lt, List, length, Option, Some, None}
use Rattle.std.specs.List.{list_all, list_any, slice_split, before_first}
use Rattle.cg_cgroup.specs.Paths.{same_name}

-- a printable byte other than a space
abbrev pub is_graphic : ℕ → Bool
is_graphic b = nat_lt 32 b && nat_lt b 127

abbrev pub is_value_word : List ℕ → Bool
is_value_word word = nat_lt 0 (length word) && list_all is_graphic word

-- Printable words, one or more, with one space between them. Own.
abbrev pub is_one_line : List ℕ → Bool
is_one_line value = list_all is_value_word (slice_split (λ b. b == 32) value)

-- whether a line is one of a value's
abbrev pub has_value_line : List ℕ → List ℕ → Bool
has_value_line value line = list_any (same_name line) (slice_split (λ b. b == 10) value)

abbrev pub first_word : List ℕ → List ℕ
first_word value = before_first (λ b. b == 32) value

-- The device or the resource whose line a value's first one is: a word of at most 255 bytes with others behind it. Own.
abbrev pub device_in : List ℕ → Option (List ℕ)
device_in value =
    cond (nat_lt (length (first_word value)) (length value) && (is_value_word (first_word value) && nat_le (length (first_word value)) 255))
    (Some (first_word value)) None

-- Modes of a tree's text that are written in decimal where an octal number is likely to be meant. Own.
use Rattle.std.specs.Prelude.{ℕ, zero, suc, Bool, true, false, cond, not, nat_eq, nat_lt, nat_le, ◌&&◌, ◌||◌, List, [], ◌∷◌, length, drop, codes, Option, Some, None, is_some, option_and_then}
use Rattle.std.specs.Option.{option_or, option_map_or}
use Rattle.std.specs.Str.{is_utf8}
use Rattle.toml_parser.specs.Lexical.{first, skip_blank}
use Rattle.toml_parser.specs.Strings.{starts_string, quoted}
use Rattle.cg_format.specs.TreeTexts.{behind}
use Rattle.text_places.specs.Shown.{indented}
use Rattle.cg_help.specs.declared.modes.Spelled.{Spelled}
use Rattle.cg_help.specs.declared.modes.Spelled.TheVariants.{Of400, Of440, Of444, Of500}

-- a text without the spaces and tabs at its front
abbrev pub unspaced : List ℕ → List ℕ
unspaced [] = []
unspaced (byte ∷ text) = cond (nat_eq byte 32 || nat_eq byte 9) (unspaced text) (byte ∷ text)

-- whether a number's digits go on
abbrev pub goes_on : List ℕ → Bool
goes_on [] = false
goes_on (byte ∷ text) = (nat_le 48 byte && nat_le byte 57) || nat_eq byte 95

-- whether a text begins with a number of these digits
abbrev pub is_number : List ℕ → List ℕ → Bool
is_number digits text = option_map_or (λ rest. not (goes_on rest)) (behind digits text) false

abbrev pub number_at : List ℕ → Option Spelled
number_at text =
    cond (is_number (codes "400") text) (Some Of400)
    (cond (is_number (codes "440") text) (Some Of440)
    (cond (is_number (codes "444") text) (Some Of444)
    (cond (is_number (codes "500") text) (Some Of500) None)))

-- what a key `mode` at a text's front has, where it is one of these
abbrev pub mode_at : List ℕ → Option Spelled
mode_at text =
    option_and_then (λ rest. option_and_then (λ value. number_at (unspaced value)) (behind (codes "=") (unspaced rest))) (behind (codes "mode") text)

-- whether such a mode stands anywhere in a text
abbrev pub is_written : List ℕ → Bool
is_written [] = false
is_written (byte ∷ text) = is_some (mode_at (byte ∷ text)) || is_written text

-- what stands behind the string or the byte at a text's front, and behind the blanks and comments that follow it; nothing behind a
-- string that doesn't end, and behind a byte that stands in strings and comments alone
abbrev pub past : List ℕ → List ℕ
past text =
    cond (starts_string text) (option_map_or (λ read. skip_blank read.1) (quoted text) [])
    (cond (nat_lt 0 (first text) && nat_lt (first text) 128) (skip_blank (drop 1 text)) [])

-- the first mode of a text that begins in no string and no comment, of so many pieces
abbrev pub key_mode : ℕ → List ℕ → Option Spelled
key_mode zero text = None
key_mode (suc more) text = option_or (mode_at text) (key_mode more (past text))

-- the first of these modes that stands in no string and no comment
abbrev pub spelled_mode : List ℕ → Option Spelled
spelled_mode text = cond (is_written text && is_utf8 text) (key_mode (length text) (skip_blank text)) None

-- what is said of one
abbrev pub mode_words : Spelled → List ℕ
mode_words Of400 = codes "mode 400 is 0o620, since it is decimal: an octal mode begins with 0o, as 0o400"
mode_words Of440 = codes "mode 440 is 0o670, since it is decimal: an octal mode begins with 0o, as 0o440"
mode_words Of444 = codes "mode 444 is 0o674, since it is decimal: an octal mode begins with 0o, as 0o444"
mode_words Of500 = codes "mode 500 is 0o764, since it is decimal: an octal mode begins with 0o, as 0o500"

-- the line of that, or none
abbrev pub mode_line : Option Spelled → List ℕ
mode_line mode = option_map_or (λ mode. indented (mode_words mode)) mode []

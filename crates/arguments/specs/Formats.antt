-- What `--format` says. Own.
use Rattle.std.specs.Prelude.{ℕ, List, codes, cond, nat_eq, Option, Some, None}
use Rattle.std.specs.Cmp.Lexicographic.{pointwise}
use Rattle.clap.specs.Matches.{first_value}
use Rattle.clap.specs.declared.parser.matches.Found.{Found}
use Rattle.arguments.specs.declared.format.Format.{Format}
use Rattle.arguments.specs.declared.format.Format.TheVariants.{Lines, Json}

abbrev pub format_named : List ℕ → Option Format
format_named word =
    cond (pointwise nat_eq word (codes "lines")) (Some Lines) (cond (pointwise nat_eq word (codes "json")) (Some Json) None)

-- lines where it is left out
abbrev pub format_said : Option (List ℕ) → Option Format
format_said None = Some Lines
format_said (Some word) = format_named word

abbrev pub format_at : Found → Option Format
format_at found = format_said (first_value found (codes "format"))

-- What stands beside an answer. Own.
use Rattle.std.specs.Prelude.{◌≡◌, ℕ, List, [], ◌++◌, codes, Option, Some, None}
use Rattle.std.specs.Fmt.{decimal}
use Rattle.std.specs.Option.{option_map_or}
use Rattle.text_places.specs.Shown.{indented}
use Rattle.text_places.specs.declared.near.Missing.{Missing}
use Rattle.cg_help.specs.Missing.{IsMissingSaid}
use Rattle.cg_help.specs.Modes.{mode_line}
use Rattle.cg_help.specs.declared.beside.Beside.{Beside}

-- of a uid of whom a tree says nothing
abbrev pub stranger_words : ℕ → List ℕ
stranger_words uid =
    codes "uid " ++ decimal uid
    ++ codes " and its gids own nothing in this tree, write nothing but what all others write, and have no process in it"

abbrev pub stranger_line : Option ℕ → List ℕ
stranger_line stranger = option_map_or (λ uid. indented (stranger_words uid)) stranger []

-- of a path that a tree doesn't have
abbrev pub IsMissingLine : Option Missing → List ℕ → Type 0
IsMissingLine None line = line ≡ []
IsMissingLine (Some missing) line = (said : List ℕ) × IsMissingSaid missing said × (line ≡ indented said)

abbrev pub AreBesideLines : Beside → List ℕ → Type 0
AreBesideLines beside lines =
    (missing : List ℕ) × IsMissingLine beside.missing missing × (lines ≡ mode_line beside.mode ++ stranger_line beside.stranger ++ missing)

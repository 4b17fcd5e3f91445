-- A path that a tree doesn't have. Own.
use Rattle.std.specs.Prelude.{◌≡◌, ℕ, true, false, map, List, Option, Some, None, Result, Ok, IfOk}
use Rattle.cg_cgroup.specs.Paths.{Names, path_text}
use Rattle.cg_model.specs.States.{State, paths_of}
use Rattle.cg_model.specs.WellFormed.{has_row}
use Rattle.cg_format.specs.TextOf.{IsTextOf}
use Rattle.text_places.specs.Nearest.{IsMissing}
use Rattle.text_places.specs.declared.near.Missing.{Missing}
use Rattle.cg_cli.specs.Arguments.{path_read}
use Rattle.cg_faults.specs.declared.fault.CliFault.{CliFault}

-- nothing of a path that a tree has, and of another the nearest that it has
abbrev pub IsAbsent : State → Names → Option Missing → Type 0
IsAbsent st path None = has_row st path ≡ true
IsAbsent st path (Some missing) = (has_row st path ≡ false) × IsMissing (path_text path) (map path_text (paths_of st)) missing

-- what an answer on the text of a tree says of that
abbrev pub IsAbsentFrom : List ℕ → List ℕ → Result ℕ CliFault → Option Missing → Type 0
IsAbsentFrom text to result missing =
    IfOk result (λ _. (st : State) (path : Names) → IsTextOf st text → path_read to ≡ Ok path → IsAbsent st path missing)

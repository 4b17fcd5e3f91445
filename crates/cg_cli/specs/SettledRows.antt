-- How it is read and written: nobody has to believe it.
-- The rows of users, as pairs that are written one after another.
use Rattle.std.specs.Prelude.{◌≡◌, ◌<◌, false, List, [], ◌∷◌, ◌++◌, length, get_or}
use Rattle.std.specs.List.{All, flat_map}
use Rattle.cg_cgroup.specs.Paths.{Names}
use Rattle.cg_cgroup.specs.Identity.{Identity}
use Rattle.cg_model.specs.Listed.{Listed, listed_unless_contained, is_contained}
use Rattle.cg_cli.specs.declared.answers.audited.Found.{Found}
use Rattle.cg_report.specs.AnswerLines.{IsShown}

-- what was found with a subtree, by its place
abbrev pub pair_found : Identity → List Names → Found → List Listed
pair_found user subtrees found = listed_unless_contained user (get_or subtrees found.place []) found.answer

abbrev pub row_pairs : Identity → List Names → List Found → List Listed
row_pairs user subtrees row = flat_map (pair_found user subtrees) row

abbrev pub rows_pairs : List Identity → List Names → List (List Found) → List Listed
rows_pairs [] subtrees rows = []
rows_pairs (user ∷ users) subtrees [] = []
rows_pairs (user ∷ users) subtrees (row ∷ rows) = row_pairs user subtrees row ++ rows_pairs users subtrees rows

-- It is a pair that isn't contained, and can be shown.
abbrev pub IsPairLine : List Names → Found → Type 0
IsPairLine subtrees found =
    (found.place < length subtrees) × (is_contained found.answer ≡ false) × IsShown (get_or subtrees found.place []) found.answer

abbrev pub IsRowOfLines : List Names → List Found → Type 0
IsRowOfLines subtrees row = All (IsPairLine subtrees) row

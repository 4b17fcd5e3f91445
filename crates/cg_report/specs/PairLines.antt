-- The lines of pairs that aren't contained. Own.
use Rattle.std.specs.Prelude.{ℕ, List, [], ◌∷◌, ◌++◌, codes}
use Rattle.std.specs.List.{flat_map}
use Rattle.std.specs.Fmt.{decimal}
use Rattle.cg_cgroup.specs.Paths.{Names, path_text}
use Rattle.cg_cgroup.specs.Identity.{Identity}
use Rattle.cg_model.specs.Listed.{Listed}
use Rattle.cg_report.specs.AnswerLines.{answer_text}

-- a gid behind another one
abbrev pub next_gid : ℕ → List ℕ
next_gid gid = codes "," ++ decimal gid

-- what stands behind the uid
abbrev pub gids_text : List ℕ → List ℕ
gids_text [] = []
gids_text (gid ∷ gids) = codes ":" ++ decimal gid ++ flat_map next_gid gids

-- A user as named on a command line: the uid, and where they are in groups a colon and the groups' gids.
abbrev pub user_text : Identity → List ℕ
user_text user = decimal user.uid ++ gids_text user.gids

abbrev pub user_line : Identity → Names → List ℕ
user_line user subtree = codes "pair " ++ user_text user ++ codes " " ++ path_text subtree ++ codes "\n"

-- The line that names a pair, and then its answer's.
abbrev pub pair_text : Listed → List ℕ
pair_text pair = user_line pair.user pair.subtree ++ answer_text pair.subtree pair.found

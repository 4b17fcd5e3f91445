-- What an answer on everybody stands on, a line each, behind it. Own.
use Rattle.std.specs.Prelude.{ℕ, List, [], ◌∷◌, ◌++◌, codes}
use Rattle.std.specs.Fmt.{decimal}
use Rattle.std.specs.List.{flat_map}
use Rattle.cg_report.specs.PairLines.{next_gid}
use Rattle.machine_everybody.specs.Everybody.{Everybody}

-- somebody who is left out
abbrev pub but_line : ℕ → List ℕ
but_line uid = codes "but " ++ decimal uid ++ codes "\n"

abbrev pub uids_text : List ℕ → List ℕ
uids_text [] = []
uids_text (uid ∷ uids) = decimal uid ++ flat_map next_gid uids

-- who may be in a group, with commas between
abbrev pub group_line : ℕ × List ℕ → List ℕ
group_line group = codes "group " ++ decimal group.0 ++ codes "=" ++ uids_text group.1 ++ codes "\n"

abbrev pub premise_lines : Everybody → List ℕ
premise_lines asked = flat_map but_line asked.but ++ flat_map group_line asked.groups

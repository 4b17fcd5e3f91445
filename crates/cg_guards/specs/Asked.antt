-- How an answer is found: nobody has to believe it.
-- The entries on which guards of a subtree are asked. Its limit files beyond `LimitFile` are passed over where nothing is told of them and
-- whoever reaches one reaches an entry that is asked before them.
use Rattle.std.specs.Prelude.{Bool, true, false, ◌&&◌, ◌||◌, cond, List, [], ◌∷◌, ◌++◌, map, length, Option, Some, None, is_none}
use Rattle.std.specs.List.{list_all}
use Rattle.std.specs.FinMap as finite
use Rattle.cg_cgroup.specs.Paths.{Names}
use Rattle.cg_cgroup.specs.Files.{all_files, all_others}
use Rattle.cg_cgroup.specs.declared.user.Entry.{Entry}
use Rattle.cg_cgroup.specs.declared.cgroup.Cgroup.{Cgroup}
use Rattle.cg_cgroup.specs.declared.files.EntryName.TheVariants.{File, Other}
use Rattle.cg_model.specs.States.{State, row_at}
use Rattle.cg_model.specs.Guards.{Guarded, ancestors, limit_file, parent_control, parent_dir}
use Rattle.cg_guards.specs.GuardedUsers.{is_alike}

-- those before the limit files beyond `LimitFile`, these files, and those behind them
abbrev pub asked_before : Names → List Guarded
asked_before subtree = ancestors (length subtree) ++ map (limit_file (length subtree)) (map File all_files)

abbrev pub asked_others : Names → List Guarded
asked_others subtree = map (limit_file (length subtree)) (map Other all_others)

abbrev pub asked_behind : Names → List Guarded
asked_behind subtree = parent_control subtree ∷ parent_dir subtree ∷ []

abbrev pub asked_entries : Bool → Names → List Guarded
asked_entries passes subtree = asked_before subtree ++ (cond passes [] (asked_others subtree) ++ asked_behind subtree)

-- the same users reach the entry, where it is there, as one of two others
abbrev pub is_covered : Entry → Entry → Option Entry → Bool
is_covered one other None = true
is_covered one other (Some entry) = is_alike one entry || is_alike other entry

-- each of those files of which nothing is told is like the cgroup.max.descendants of its cgroup, or like another entry
abbrev pub are_covered : Entry → Cgroup → Bool
are_covered above row =
    is_covered above row.max_descendants.entry row.freeze
    && list_all (is_covered above row.max_descendants.entry) row.others.entries

-- nothing is told of the subtree's files, and they are like its cgroup.max.descendants or the root's cgroup.procs
abbrev pub passes_others : State → Names → Bool
passes_others st subtree = is_none (finite.get st.told subtree) && elim (row_at st []) [
  | None ↦ false
  | Some root ↦ elim (row_at st subtree) [ None ↦ false | Some row ↦ are_covered root.procs row ]
]

-- Users of whom a tree says nothing, as of one who was named by mistake. Own.
use Rattle.std.specs.Prelude.{ℕ, Bool, ◌≡◌, ◌||◌, ◌&&◌, not, nat_eq, map, List, [], ◌∷◌, ◌++◌, Option, Result, Ok, IfOk}
use Rattle.std.specs.List.{list_any, flat_map, find}
use Rattle.std.specs.Option.{option_map, option_map_or}
use Rattle.std.specs.FinMap as finmap
use Rattle.cg_cgroup.specs.Identity.{Identity}
use Rattle.cg_cgroup.specs.Users.{has_bit}
use Rattle.cg_cgroup.specs.Files.{all_files}
use Rattle.cg_cgroup.specs.Cgroups.{file_of}
use Rattle.cg_cgroup.specs.declared.cgroup.Cgroup.{Cgroup}
use Rattle.cg_cgroup.specs.declared.files.LimitFile.{LimitFile}
use Rattle.cg_cgroup.specs.declared.told.ToldFile.{ToldFile}
use Rattle.cg_cgroup.specs.declared.told.ToldFiles.{ToldFiles}
use Rattle.cg_cgroup.specs.declared.user.Entry.{Entry}
use Rattle.cg_model.specs.Once.{once}
use Rattle.cg_model.specs.States.{State}
use Rattle.cg_format.specs.TextOf.{IsTextOf}
use Rattle.cg_cli.specs.Audits.{users_read}
use Rattle.cg_cli.specs.Once.{same_user}
use Rattle.cg_faults.specs.declared.fault.CliFault.{CliFault}

-- the entry of a limit file, where it is there
abbrev pub file_entries : Cgroup → LimitFile → List Entry
file_entries cgroup file = option_map_or (λ held. held.entry ∷ []) (file_of cgroup file) []

-- the entries of a cgroup
abbrev pub entries_of : Cgroup → List Entry
entries_of cgroup = cgroup.dir ∷ cgroup.procs ∷ cgroup.subtree_control ∷ flat_map (file_entries cgroup) all_files

-- that of a limit file beyond `LimitFile`, where something is told of it
abbrev pub told_entry : Option ToldFile → List Entry
told_entry told = option_map_or (λ held. held.entry ∷ []) told []

-- those of what is told of a cgroup's
abbrev pub told_entries : ToldFiles → List Entry
told_entries files = flat_map told_entry files.entries

-- those of a tree
abbrev pub tree_entries : State → List Entry
tree_entries st =
    flat_map (λ row. entries_of row.1) (finmap.entries st.rows) ++ flat_map (λ row. told_entries row.1) (finmap.entries st.told)

-- the owners of a tree's processes
abbrev pub all_owners : State → List ℕ
all_owners st = map (λ row. row.1.uid) (finmap.entries st.live)

-- whether a uid owns one of some entries, or is one of some owners of processes
abbrev pub has_uid : List Entry → List ℕ → ℕ → Bool
has_uid entries owners uid = list_any (λ entry. nat_eq entry.uid uid) entries || list_any (λ owner. nat_eq owner uid) owners

-- whether a gid writes one of some entries as its group; what all others write says nothing of it
abbrev pub has_gid : List Entry → ℕ → Bool
has_gid entries gid = list_any (λ entry. nat_eq entry.gid gid && has_bit entry.mode 16) entries

-- Of a user a tree says nothing where their uid owns no entry and no process, and their gids write none.
abbrev pub is_stranger : State → Identity → Bool
is_stranger st user = not (has_uid (tree_entries st) (all_owners st) user.uid || list_any (has_gid (tree_entries st)) user.gids)

-- the uid of the first of whom a tree says nothing
abbrev pub first_stranger : State → List Identity → Option ℕ
first_stranger st users = option_map (λ user. user.uid) (find (is_stranger st) users)

-- What an answer for some users on the text of a tree says of that.
abbrev pub IsFirstStranger : List ℕ → List (ℕ × List ℕ) → Result ℕ CliFault → Option ℕ → Type 0
IsFirstStranger text given result stranger = IfOk result (λ _. (st : State) (who : List Identity) → IsTextOf st text → users_read given ≡ Ok who
    → stranger ≡ first_stranger st (once same_user who))

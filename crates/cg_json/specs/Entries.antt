-- The JSON objects of guarded entries that let somebody in, and of changes. Own.
use Rattle.std.specs.Prelude.{ℕ, List, [], ◌∷◌, ◌++◌, take, codes}
use Rattle.std.specs.List.{filter}
use Rattle.cg_cgroup.specs.Paths.{Names, path_text}
use Rattle.cg_cgroup.specs.Files.{entry_text}
use Rattle.cg_model.specs.GuardNames.{guard_name}
use Rattle.cg_model.specs.declared.guard.GuardedEntry.{GuardedEntry}
use Rattle.cg_model.specs.declared.mend.Class.TheVariants.{Owner, Group, Others}
use Rattle.cg_model.specs.declared.mend.Mend.{Mend}
use Rattle.cg_model.specs.declared.mend.Mend.TheVariants.{Chown, Chmod, Set}
use Rattle.cg_advice.specs.AdviceLines.{class_name}
use Rattle.cg_advice.specs.WayLines.{has_way, chown_by, chmod_by}
use Rattle.cg_advice.specs.declared.ways.Ways.{Ways}
use Rattle.serde_json.specs.Data.{Data, string, object, Members, no_members}
use Rattle.cg_json.specs.Members.{put_text, put_number, each_value}
use Rattle.cg_json.specs.Operations.{put_mode, of_entry, set_members, chmod_members}

abbrev pub put_owner : ℕ → ℕ → Members → Members
put_owner uid gid members = put_number (codes "gid") gid (put_number (codes "uid") uid members)

abbrev pub at_guard : List ℕ → List ℕ → Members
at_guard guard place = put_text (codes "path") place (put_text (codes "guard") guard no_members)

-- a guard on an entry, and the entry with its owner, group and mode
abbrev pub entry_members : Names → GuardedEntry → Members
entry_members subtree at =
    put_mode at.entry.mode (put_owner at.entry.uid at.entry.gid (put_text (codes "entry") (entry_text at.name)
    (at_guard (guard_name at.guard) (path_text (take at.len subtree)))))

-- the classes by which users get in
abbrev pub classes_value : Ways → Data
classes_value ways = each_value (λ class. string (class_name class)) (filter (has_way ways) (Owner ∷ Group ∷ Others ∷ []))

-- A chmod and a set are operations.
abbrev pub mend_members : Names → Mend → Members
mend_members subtree (Chown len name uid gid) =
    put_owner uid gid (of_entry (codes "chown") (path_text (take len subtree)) (entry_text name))
mend_members subtree (Chmod len name mode) = chmod_members (path_text (take len subtree)) name mode
mend_members subtree (Set len file value) = set_members (path_text (take len subtree)) file value

abbrev pub mend_value : Names → Mend → Data
mend_value subtree mend = object (mend_members subtree mend)

-- what mends an entry for all who get in
abbrev pub changes_by : Ways → GuardedEntry → List Mend
changes_by ways at = chown_by ways at ++ chmod_by ways at

abbrev pub changes_value : Names → List Mend → Data
changes_value subtree mends = each_value (mend_value subtree) mends

-- The faults of a tree text, in order, of which the first counts. A clause is asked only where what it speaks of is there. Own.
use Rattle.std.specs.Prelude.{ℕ, ◌+◌, ◌&&◌, ◌||◌, not, nat_le, Bool, true, cond, List, [], ◌∷◌, ◌++◌, length, codes, Option, Some, None, is_some, unwrap_or, option_and_then, find}
use Rattle.std.specs.List.{list_all, list_any}
use Rattle.toml.specs.Data.{Members, no_members, table}
use Rattle.cg_cgroup.specs.Paths.{Names, is_root, parent}
use Rattle.cg_cgroup.specs.Files.{all_files, all_others, known_others, known_entries, no_controllers, enables_nothing, is_within, stands_by, stands_under, brought_by}
use Rattle.cg_cgroup.specs.Told.{told_in}
use Rattle.cg_cgroup.specs.declared.controllers.ControllerSet.{ControllerSet}
use Rattle.cg_cgroup.specs.declared.files.EntryName.TheVariants.{File, Other}
use Rattle.cg_cgroup.specs.declared.told.ToldFiles.{ToldFiles}
use Rattle.cg_model.specs.Clauses.{unless, absent, present}
use Rattle.cg_format.specs.Form.{vocabulary, most_rows, document_keys, row_keys, live_keys, is_table}
use Rattle.cg_format.specs.Said.{elements_at, tables_at, path_said, controllers_said, known_said, format_said, table_of, entry_said, value_said, text_said, is_named, told_row, has_path, pid_said, uid_said}
use Rattle.cg_format.specs.TextOf.{has_pid}
use Rattle.cg_format.specs.TreeTexts.{longest_text, document_of}
use Rattle.cg_format.specs.declared.format.Format.{Format}
use Rattle.cg_format.specs.declared.fault.Place.{Place}
use Rattle.cg_format.specs.declared.fault.Place.TheVariants.{Top, Cgroup, Process}
use Rattle.cg_format.specs.declared.fault.TreeFault.{TreeFault}
use Rattle.cg_format.specs.declared.fault.TreeFault.TheVariants.{TooLong, NotToml, Shape, Format as BadFormat, TooMany, BadController, BadPath, BadEntry, BadValue, Duplicate, NoRoot, NoParent, TopDown, NoSuchFile, BadPid, DuplicatePid, NoSuchPlace, InternalProcess}

-- the faults of rows in turn, the first of which has the number i; a row may be held against those before it
abbrev pub each : {A : Type 0} → (List A → Place → A → List TreeFault) → (ℕ → Place) → ℕ → List A → List A → List TreeFault
each clauses place i earlier [] = []
each clauses place i earlier (row ∷ rows) = clauses earlier (place i) row ++ each clauses place (i + 1) (earlier ++ row ∷ []) rows

abbrev pub each_cgroup : {A : Type 0} → (List A → Place → A → List TreeFault) → List A → List TreeFault
each_cgroup clauses rows = each clauses Cgroup 1 [] rows

abbrev pub each_process : {A : Type 0} → (List A → Place → A → List TreeFault) → List A → List TreeFault
each_process clauses rows = each clauses Process 1 [] rows

-- ---- the form

abbrev pub has_few : Format → Members → Bool
has_few format document =
    nat_le (length (elements_at (codes "cgroup") document)) (most_rows format)
    && nat_le (length (elements_at (codes "process") document)) (most_rows format)

abbrev pub form_faults : Members → List TreeFault
form_faults document =
    unless (is_table document_keys (table document)) (Shape Top)
    ++ absent (format_said document) BadFormat
    ++ present (format_said document) (λ format. unless (has_few format document) TooMany)
    ++ present (format_said document) (λ format. each_cgroup (λ _ place held. unless (is_table (row_keys format) held) (Shape place)) (elements_at (codes "cgroup") document))
    ++ each_process (λ _ place held. unless (is_table live_keys held) (Shape place)) (elements_at (codes "process") document)

-- ---- cgroups

-- each limit file of a row has a value that it accepts, or none
abbrev pub has_values : Format → Members → Bool
has_values format row =
    list_all (λ file. is_some (value_said row file)) all_files
    && list_all (λ file. is_some (text_said (unwrap_or (table_of (Other file) row) no_members))) (known_others (vocabulary format))

-- a cgroup by itself
abbrev pub row_faults : Format → Place → Members → List TreeFault
row_faults format place row =
    absent (path_said (codes "path") row) (BadPath place)
    ++ absent (known_said format (codes "enabled") row) (BadController place)
    ++ unless (list_all (λ name. is_some (entry_said format row name)) (known_entries (vocabulary format))) (BadEntry place)
    ++ unless (has_values format row) (BadValue place)

-- whether a cgroup is there
abbrev pub is_there : List Members → Names → Bool
is_there rows path = list_any (has_path path) rows

-- what a cgroup enables that is there
abbrev pub enabled_there : List Members → Names → Option ControllerSet
enabled_there rows path = option_and_then (controllers_said (codes "enabled")) (find (has_path path) rows)

-- what the parent enables, and at the root what there is
abbrev pub over : Option ControllerSet → List Members → Names → Option ControllerSet
over at_root rows path = cond (is_root path) at_root (enabled_there rows (parent path))

-- a clause on the path of a row
abbrev pub on_path : (Names → Place → Members → List TreeFault) → List Members → Place → Members → List TreeFault
on_path clause _ place row = present (path_said (codes "path") row) (λ path. clause path place row)

-- whether what a row at a path tells of stands under a cgroup that enables these. Core Interface Files: none stands at the root.
abbrev pub tell_standing : Names → ControllerSet → Option ToldFiles → Bool
tell_standing path above None = true
tell_standing path above (Some files) =
    not (is_root path) && list_all (λ file. not (is_some (told_in files file)) || stands_by above (brought_by file)) all_others

-- whether the limit files that a row at a path names stand under a cgroup that enables these
abbrev pub names_standing : Format → Names → ControllerSet → Members → Bool
names_standing format path above row =
    list_all (λ file. not (is_named (File file) row) || stands_under above file) all_files && tell_standing path above (told_row format row)

-- the cgroups together, with the controllers that there are
abbrev pub cgroup_faults : Format → Option ControllerSet → List Members → List TreeFault
cgroup_faults format controllers rows =
    each_cgroup (λ earlier place row. present (path_said (codes "path") row) (λ path. unless (not (is_there earlier path)) (Duplicate place))) rows
    ++ unless (is_there rows []) NoRoot
    ++ each_cgroup (on_path (λ path place row. unless (is_root path || is_there rows (parent path)) (NoParent place))) rows
    ++ each_cgroup (on_path (λ path place row.
    present (controllers_said (codes "enabled") row) (λ enabled. present (over controllers rows path) (λ available. unless (is_within enabled available) (TopDown place))))) rows
    ++ each_cgroup (on_path (λ path place row. present (over (Some no_controllers) rows path) (λ above.
    unless (names_standing format path above row) (NoSuchFile place)))) rows

-- ---- processes

-- a process among the cgroups, behind the processes before it
abbrev pub process_faults : List Members → List Members → Place → Members → List TreeFault
process_faults cgroups earlier place row =
    absent (pid_said row) (BadPid place)
    ++ absent (uid_said row) (BadEntry place)
    ++ present (pid_said row) (λ pid. unless (not (list_any (has_pid pid) earlier)) (DuplicatePid place))
    ++ absent (option_and_then (λ path. find (has_path path) cgroups) (path_said (codes "at") row)) (NoSuchPlace place)
    ++ present (path_said (codes "at") row) (λ path. present (enabled_there cgroups path) (λ enabled. unless (is_root path || enables_nothing enabled) (InternalProcess place)))

-- ---- the whole

abbrev pub said_faults : Format → Members → List TreeFault
said_faults format document =
    absent (known_said format (codes "controllers") document) (BadController Top)
    ++ each_cgroup (λ _. row_faults format) (tables_at (codes "cgroup") document)
    ++ cgroup_faults format (known_said format (codes "controllers") document) (tables_at (codes "cgroup") document)
    ++ each_process (process_faults (tables_at (codes "cgroup") document)) (tables_at (codes "process") document)

abbrev pub document_faults : Members → List TreeFault
document_faults document = form_faults document ++ present (format_said document) (λ format. said_faults format document)

abbrev pub text_faults : List ℕ → List TreeFault
text_faults bytes =
    unless (nat_le (length bytes) (longest_text bytes)) TooLong ++ absent (document_of bytes) NotToml ++ present (document_of bytes) document_faults

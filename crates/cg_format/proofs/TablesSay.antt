-- What the tables of a document say, where the clauses on them find nothing.
use Rattle.std.proofs.Common.{unwrap_or, true≢false, ◌≡◌, ℕ, Bool, true, false, not, ◌||◌, List, [], ◌∷◌, ◌++◌, codes, get_or, Option, Some, None, is_some, option_and_then, refl, sym, ap, ◌∙◌}
use Rattle.std.specs.Prelude.{find}
use Rattle.std.specs.List.{list_all, list_any}
use Rattle.std.proofs.lemmas.Bool.{and_from, not-true, and_parts}
use Rattle.std.proofs.lemmas.List.Folds.{list_all-map}
use Rattle.std.proofs.lemmas.List.Sums.{list_all-from_AllPass}
use Rattle.toml.specs.Data.{Members, no_members}
use Rattle.cg_cgroup.specs.Paths.{Names, is_root, parent}
use Rattle.cg_cgroup.specs.Files.{all_files, format_2_entries, known_others, no_controllers, enables_nothing, is_within, stands_under, is_beyond}
use Rattle.cg_cgroup.specs.Cgroups.{root_file}
use Rattle.cg_cgroup.proofs.AllFiles.{each_passes}
use Rattle.cg_cgroup.proofs.Options.{some_value}
use Rattle.cg_cgroup.specs.declared.user.Entry.{Entry}
use Rattle.cg_cgroup.specs.declared.files.Limit.{Limit}
use Rattle.cg_cgroup.specs.declared.controllers.ControllerSet.{ControllerSet}
use Rattle.cg_cgroup.specs.declared.files.EntryName.{EntryName}
use Rattle.cg_cgroup.specs.declared.files.EntryName.TheVariants.{Dir, Procs, SubtreeControl, File, Other}
use Rattle.cg_cgroup.specs.declared.files.LimitFile.{LimitFile}
use Rattle.cg_cgroup.specs.declared.other_file.OtherFile.{OtherFile}
use Rattle.cg_model.proofs.ClauseLaws.{no_unless}
use Rattle.cg_format.specs.Form.{vocabulary}
use Rattle.cg_format.specs.Said.{path_said, controllers_said, known_said, table_of, entry_said, value_said, text_said, told_row, is_named, has_path, pid_said, uid_said}
use Rattle.cg_format.specs.TextOf.{has_pid}
use Rattle.cg_format.specs.TextFaults.{row_faults, is_there, enabled_there, over, tell_standing, names_standing, cgroup_faults, process_faults}
use Rattle.cg_format.specs.declared.fault.Place.{Place}
use Rattle.cg_format.specs.declared.fault.Place.TheVariants.{Cgroup as AtCgroup}
use Rattle.cg_format.specs.declared.format.Format.{Format}
use Rattle.cg_format.proofs.CgroupClauses.{twice_clause, orphan_clause, within_clause, files_clause}
use Rattle.cg_format.proofs.Cuts.{is_some-find}
use Rattle.cg_format.proofs.KeysOnce.{five_none, absent_none, none_at}
use Rattle.cg_format.proofs.ToldSaid.{named_told, named_told-so, all_both, known_parts}

-- ---- a cgroup's table

-- all that the table of a cgroup says
pub record SaysCgroup (format : Format) (row : Members) : Type 0 where
  pub path : Names
  pub named : path_said (codes "path") row ≡ Some path
  pub enabled : ControllerSet
  pub enables : known_said format (codes "enabled") row ≡ Some enabled
  pub owner : EntryName → Entry
  pub owned : (name : EntryName) → is_beyond name ≡ false → entry_said format row name ≡ Some (owner name)
  pub value : LimitFile → Limit
  pub valued : (file : LimitFile) → value_said row file ≡ Some (value file)
  pub told : list_all (named_told format row) (known_others (vocabulary format)) ≡ true

-- what all pass
pub all_so : {A : Type 0} (p : A → Bool) → ((x : A) → p x ≡ true) → (xs : List A) → list_all p xs ≡ true
all_so p each xs = list_all-from_AllPass p xs (λ k d inside. each (get_or xs k d))

-- what all entries pass that texts name
pub each_within : (p : EntryName → Bool) → ((name : EntryName) → is_beyond name ≡ false → p name ≡ true)
    → list_all p format_2_entries ≡ true
each_within p each =
    and_from (p Dir) _ (each Dir refl) (and_from (p Procs) _ (each Procs refl) (and_from (p SubtreeControl) _ (each SubtreeControl refl)
    (list_all-map p File all_files ∙ all_so (λ file. p (File file)) (λ file. each (File file) refl) all_files)))

pub each_entry : (p : EntryName → Bool) → list_all p format_2_entries ≡ true → (name : EntryName) → is_beyond name ≡ false → p name ≡ true
each_entry p all name =
    let dir = and_parts (p Dir) _ all in
    let procs = and_parts (p Procs) _ dir.1 in
    let control = and_parts (p SubtreeControl) _ procs.1 in
    elim name as (λ name. is_beyond name ≡ false → p name ≡ true) [
      | Dir ↦ λ _. dir.0
      | Procs ↦ λ _. procs.0
      | SubtreeControl ↦ λ _. control.0
      | Other file ↦ λ no. absurd (true≢false no)
      | File file ↦ λ _. each_passes (λ file. p (File file)) (sym (list_all-map p File all_files) ∙ control.1) file
    ]

value_or : {A : Type 0} (found : Option A) (other : A) → is_some found ≡ true → found ≡ Some (unwrap_or found other)
value_or None other is = cc
value_or (Some x) other is = refl

pub row_says : (format : Format) (place : Place) (row : Members) → row_faults format place row ≡ [] → SaysCgroup format row
row_says format place row none =
    let parts = five_none [] _ _ _ _ none in
    let path = absent_none _ _ parts.1 in
    let enabled = absent_none _ _ parts.2 in
    let others : List OtherFile = known_others (vocabulary format) in
    let has_text : OtherFile → Bool = λ file. is_some (text_said (unwrap_or (table_of (Other file) row) no_members)) in
    let owners = known_parts (λ name. is_some (entry_said format row name)) (vocabulary format) (no_unless _ _ parts.3) in
    let values =
    and_parts (list_all (λ file. is_some (value_said row file)) all_files) (list_all has_text others) (no_unless _ _ parts.4) in
    let owned = each_entry (λ name. is_some (entry_said format row name)) owners.0 in
    let valued = λ (file : LimitFile). some_value (value_said row file)
    (each_passes (λ file. is_some (value_said row file)) values.0 file) in
    record {
      path = path.0;
      named = path.1;
      enabled = enabled.0;
      enables = enabled.1;
      owner = λ name. unwrap_or (entry_said format row name) root_file;
      owned = λ name within. value_or (entry_said format row name) root_file (owned name within);
      value = λ file. (valued file).0;
      valued = λ file. (valued file).1;
      told = all_both (λ file. is_some (entry_said format row (Other file))) has_text (named_told format row)
          (named_told-so format row) others owners.1 values.1;
    }

-- ---- a cgroup among the others

-- how the table of a cgroup stands to the others, behind those before it
pub record StandsAmong (format : Format) (controllers : ControllerSet) (tables before : List Members)
    (row : Members) (path : Names) : Type 0 where
  pub fresh : is_there before path ≡ false
  pub parent_there : (is_root path || is_there tables (parent path)) ≡ true
  pub within : (enabled available : ControllerSet) → controllers_said (codes "enabled") row ≡ Some enabled
      → over (Some controllers) tables path ≡ Some available → is_within enabled available ≡ true
  pub brought : (above : ControllerSet) → over (Some no_controllers) tables path ≡ Some above → (file : LimitFile)
      → (not (is_named (File file) row) || stands_under above file) ≡ true
  pub tells : (above : ControllerSet) → over (Some no_controllers) tables path ≡ Some above
      → tell_standing path above (told_row format row) ≡ true

pub stands_among : (format : Format) (controllers : ControllerSet) (tables : List Members)
    → cgroup_faults format (Some controllers) tables ≡ []
    → (before : List Members) (row : Members) (after : List Members) → before ++ row ∷ after ≡ tables
    → (path : Names) → path_said (codes "path") row ≡ Some path → StandsAmong format controllers tables before row path
stands_among format controllers tables none before row after is path named =
    let parts = five_none _ _ _ _ _ none in
    let twice = none_at twice_clause AtCgroup tables parts.0 before row after is in
    let orphan = none_at (orphan_clause tables) AtCgroup tables parts.2 before row after is in
    let past = none_at (within_clause controllers tables) AtCgroup tables parts.3 before row after is in
    let unbrought = none_at (files_clause format tables) AtCgroup tables parts.4 before row after is in
    let standing : (above : ControllerSet) → over (Some no_controllers) tables path ≡ Some above
    → names_standing format path above row ≡ true =
    λ above over_is. no_unless _ _ (rw (named, over_is) at unbrought.1) in
    record {
      fresh = not-true _ (no_unless _ _ (rw named at twice.1));
      parent_there = no_unless _ _ (rw named at orphan.1);
      within = λ enabled available enables above. no_unless _ _ (rw (named, enables, above) at past.1);
      brought = λ above over_is. each_passes _ (and_parts _ (tell_standing path above (told_row format row)) (standing above over_is)).0;
      tells = λ above over_is. (and_parts _ (tell_standing path above (told_row format row)) (standing above over_is)).1;
    }

pub root_there : (format : Format) (controllers : ControllerSet) (tables : List Members)
    → cgroup_faults format (Some controllers) tables ≡ [] → is_there tables [] ≡ true
root_there format controllers tables none = no_unless _ _ (five_none _ _ _ _ _ none).1

-- ---- a process's table

-- all that the table of a process says, behind those before it
pub record SaysProcess (tables earlier : List Members) (row : Members) : Type 0 where
  pub pid : ℕ
  pub numbered : pid_said row ≡ Some pid
  pub uid : ℕ
  pub owned : uid_said row ≡ Some uid
  pub fresh : list_any (has_pid pid) earlier ≡ false
  pub place : Names
  pub placed : path_said (codes "at") row ≡ Some place
  pub there : is_there tables place ≡ true
  pub free : (enabled : ControllerSet) → enabled_there tables place ≡ Some enabled → (is_root place || enables_nothing enabled) ≡ true

found_there : (tables : List Members) (said : Option Names) (table : Members)
    → option_and_then (λ path. find (has_path path) tables) said ≡ Some table
    → (path : Names) × (said ≡ Some path) × (is_there tables path ≡ true)
found_there tables None table is = cc
found_there tables (Some path) table is = (path, refl, sym (is_some-find (has_path path) tables) ∙ ap is_some is)

pub process_says : (tables earlier : List Members) (place : Place) (row : Members) → process_faults tables earlier place row ≡ []
    → SaysProcess tables earlier row
process_says tables earlier place row none =
    let parts = five_none _ _ _ _ _ none in
    let pid = absent_none _ _ parts.0 in
    let uid = absent_none _ _ parts.1 in
    let table = absent_none _ _ parts.3 in
    let at = found_there tables (path_said (codes "at") row) table.0 table.1 in
    record {
      pid = pid.0;
      numbered = pid.1;
      uid = uid.0;
      owned = uid.1;
      fresh = not-true _ (no_unless _ _ (rw pid.1 at parts.2));
      place = at.0;
      placed = at.1;
      there = at.2;
      free = λ enabled is. no_unless _ _ (rw (at.1, is) at parts.4);
    }

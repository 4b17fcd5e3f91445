-- What a cgroup's entries, values and controllers are after each change. A change of processes leaves them all, as its rows are the same.
use Rattle.std.proofs.Common.{◌≡◌, ℕ, Bool, true, false, cond, ◌&&◌, refl, sym, ap, ◌∙◌, true≢false, Option, Some, None, is_some, option_map, option_and_then}
use Rattle.cg_cgroup.specs.Paths.{Names, same_path, is_child}
use Rattle.cg_cgroup.specs.Identity.{Identity}
use Rattle.cg_cgroup.specs.Files.{stands_by, brought_by, is_beyond, same_other, enables, stands_under, same_file, same_entry, no_controllers}
use Rattle.cg_cgroup.specs.Cgroups.{file_of, other_in, untold_in, with_files_of, entry_in, value_in, with_value_in, with_mode_of, with_mode_in, refitted}
use Rattle.cg_model.specs.States.{State, row_at, file_at, other_at, told_at, untold_at, file_told, told_text, told_with_mode, entry_at, value_at, enabling_these, enabling, with_row, without_row, with_value, with_text, with_mode, with_enabled}
use Rattle.cg_model.specs.WellFormed.{enabled_at}
use Rattle.cg_cgroup.specs.declared.files.Limit.{Limit}
use Rattle.cg_cgroup.specs.declared.controllers.ControllerSet.{ControllerSet}
use Rattle.cg_cgroup.specs.declared.files.Controller.{Controller}
use Rattle.cg_cgroup.specs.declared.files.LimitFile.{LimitFile}
use Rattle.cg_cgroup.specs.declared.files.EntryName.{EntryName}
use Rattle.cg_cgroup.specs.declared.files.EntryName.TheVariants.{Dir, Procs, SubtreeControl, File, Other}
use Rattle.std.specs.FinMap as finite
use Rattle.cg_cgroup.specs.Told.{told_in, with_mode_told, with_value_told}
use Rattle.cg_cgroup.specs.declared.other_file.OtherFile.{OtherFile}
use Rattle.cg_cgroup.specs.declared.told.FileText.{FileText}
use Rattle.cg_cgroup.specs.declared.user.Entry.{Entry}
use Rattle.cg_cgroup.specs.declared.told.ToldFile.{ToldFile}
use Rattle.cg_model.proofs.StateTold.{or_untold, file_told-same, file_told-telling, told_at-telling, told_at-without_row, told_at-with_enabled}
use Rattle.cg_cgroup.specs.declared.cgroup.LimitEntry.{LimitEntry}
use Rattle.cg_cgroup.specs.declared.cgroup.Cgroup.{Cgroup}
use Rattle.cg_cgroup.proofs.PathOrder.{same_path-is}
use Rattle.cg_model.proofs.StateLaws.{row_at-with_row, row_at-without_row, row_at-with_value, row_at-with_mode, row_at-with_enabled}
use Rattle.cg_cgroup.proofs.CgroupLaws.{untold_same, untold_in-with_mode_in, other_in-with_value_in, other_in-with_mode_in, entry_in-with_value_in, value_in-with_value_in, enabled-with_value_in, entry_in-with_mode_in, value_in-with_mode_in, enabled-with_mode_in, file_of-with_files_of, same-with_files_of, same-other}
use Rattle.cg_model.proofs.FormedEnabled.{enabling-by, is_child-itself}

-- ---- readings of a row that is changed at one path

module _ {A : Type 0} (read : Cgroup → Option A) (g : Cgroup → Cgroup) where
  pub read_same : ((row : Cgroup) → read (g row) ≡ read row) → (b : Bool) (r : Option Cgroup)
      → option_and_then read (cond b (option_map g r) r) ≡ option_and_then read r
  read_same same true None = refl
  read_same same true (Some row) = same row
  read_same same false r = refl

  pub read_changed : (c : Bool) (h : A → A) → ((row : Cgroup) → read (g row) ≡ cond c (option_map h (read row)) (read row))
      → (b : Bool) (r : Option Cgroup)
      → option_and_then read (cond b (option_map g r) r) ≡ cond (b && c) (option_map h (option_and_then read r)) (option_and_then read r)
  read_changed true h changed true None = refl
  read_changed false h changed true None = refl
  read_changed c h changed true (Some row) = changed row
  read_changed c h changed false r = refl

read_cond : {A : Type 0} (read : Cgroup → Option A) (b : Bool) (r s : Option Cgroup)
    → option_and_then read (cond b r s) ≡ cond b (option_and_then read r) (option_and_then read s)
read_cond read true r s = refl
read_cond read false r s = refl

-- what a row enables, if it is there
abbrev pub enabled_of : Option Cgroup → ControllerSet
enabled_of r = elim r [ None ↦ no_controllers | Some row ↦ row.enabled ]

pub enabled_same : (g : Cgroup → Cgroup) → ((row : Cgroup) → (g row).enabled ≡ row.enabled) → (b : Bool) (r : Option Cgroup)
    → enabled_of (cond b (option_map g r) r) ≡ enabled_of r
enabled_same g same true None = refl
enabled_same g same true (Some row) = same row
enabled_same g same false r = refl

enabled_cond : (b : Bool) (r s : Option Cgroup) → enabled_of (cond b r s) ≡ cond b (enabled_of r) (enabled_of s)
enabled_cond true r s = refl
enabled_cond false r s = refl

-- an entry that is none of the limit files beyond `LimitFile` is its row's
pub entry_at-row : (st : State) (q : Names) (name : EntryName) → is_beyond name ≡ false
    → entry_at st q name ≡ option_and_then (λ row. entry_in row name) (row_at st q)
entry_at-row st q (Other file) h = cc
entry_at-row st q Dir h = refl
entry_at-row st q name h = refl

-- one of those by what is told of it
entry_at-told : (st new : State) (q : Names) (file : OtherFile) → file_told new q file ≡ file_told st q file
    → entry_at new q (Other file) ≡ entry_at st q (Other file)
entry_at-told st new q file same = ap (option_map (λ told. told.entry)) same

-- ---- a value set

module _ (st : State) (p : Names) (file : LimitFile) (value : Limit) (q : Names) where
  entry_in-with_value : (name : EntryName) → option_and_then (λ row. entry_in row name) (row_at (with_value st p file value) q)
      ≡ option_and_then (λ row. entry_in row name) (row_at st q)
  entry_in-with_value name =
      ap (option_and_then (λ row. entry_in row name)) (row_at-with_value st p file value q)
      ∙ read_same (λ row. entry_in row name) (with_value_in file value) (λ row. entry_in-with_value_in file value row name) (same_path p q)
      (row_at st q)

  pub entry_at-with_value : (name : EntryName) → entry_at (with_value st p file value) q name ≡ entry_at st q name
  entry_at-with_value (Other other) =
      entry_at-told st (with_value st p file value) q other
      (file_told-same st (with_value st p file value) q other refl (entry_in-with_value (Other other)))
  entry_at-with_value name =
      entry_at-row (with_value st p file value) q name refl ∙ entry_in-with_value name ∙ sym (entry_at-row st q name refl)

  pub value_at-with_value : (other : LimitFile)
      → value_at (with_value st p file value) q other
      ≡ cond (same_path p q && same_file file other) (option_map (λ _. value) (value_at st q other)) (value_at st q other)
  value_at-with_value other =
      ap (option_and_then (λ row. value_in row other)) (row_at-with_value st p file value q)
      ∙ read_changed (λ row. value_in row other) (with_value_in file value) (same_file file other) (λ _. value)
      (λ row. value_in-with_value_in file value row other
      ∙ ap (λ o. cond (same_file file other) o (value_in row other)) (set_twice (file_of row other))) (same_path p q) (row_at st q)
    where
      set_twice : (o : Option LimitEntry) → option_map (λ x. value) o ≡ option_map (λ (_ : Limit). value) (option_map (λ x. x.value) o)
      set_twice None = refl
      set_twice (Some x) = refl

  pub other_at-with_value : (controller : Controller) → other_at (with_value st p file value) q controller ≡ other_at st q controller
  other_at-with_value controller =
      ap (option_and_then (λ row. other_in row controller)) (row_at-with_value st p file value q)
      ∙ read_same (λ row. other_in row controller) (with_value_in file value) (λ row. other_in-with_value_in file value row controller)
      (same_path p q) (row_at st q)

  pub enabled_at-with_value : enabled_at (with_value st p file value) q ≡ enabled_at st q
  enabled_at-with_value = ap enabled_of (row_at-with_value st p file value q)
      ∙ enabled_same (with_value_in file value) (enabled-with_value_in file value) (same_path p q) (row_at st q)

-- ---- a mode set

never : {A : Type 0} (b : Bool) (x y : A) → y ≡ cond (b && false) x y
never true x y = refl
never false x y = refl

mode_told : (b : Bool) (mode : ℕ) (told : Option ToldFile)
    → option_map (λ told. told.entry) (cond b (option_map (with_mode_told mode) told) told)
    ≡ cond b (option_map (with_mode_of mode) (option_map (λ told. told.entry) told)) (option_map (λ told. told.entry) told)
mode_told false mode told = refl
mode_told true mode None = refl
mode_told true mode (Some told) = refl

untold_at-with_mode : (st : State) (p : Names) (name : EntryName) (mode : ℕ) (q : Names) (file : OtherFile)
    → untold_at (with_mode st p name mode) q file ≡ untold_at st q file
untold_at-with_mode st p name mode q file =
    ap (option_and_then (λ row. untold_in row file)) (row_at-with_mode st p name mode q)
    ∙ read_same (λ row. untold_in row file) (with_mode_in name mode) (λ row. untold_in-with_mode_in name mode row file) (same_path p q)
    (row_at st q)

-- of a limit file beyond `LimitFile`, by a change of another entry
entry_at-other_mode : (st : State) (p : Names) (name : EntryName) (mode : ℕ) (q : Names) (file : OtherFile) → is_beyond name ≡ false
    → told_with_mode st p name mode ≡ st.told → same_entry name (Other file) ≡ false
    → entry_at (with_mode st p name mode) q (Other file)
    ≡ cond (same_path p q && same_entry name (Other file)) (option_map (with_mode_of mode) (entry_at st q (Other file)))
    (entry_at st q (Other file))
entry_at-other_mode st p name mode q file listed told apart =
    entry_at-told st (with_mode st p name mode) q file
    (file_told-same st (with_mode st p name mode) q file
    (ap (λ told. option_and_then (λ files. told_in files file) (finite.get told q)) told) (untold_at-with_mode st p name mode q file))
    ∙ never (same_path p q) (option_map (with_mode_of mode) (entry_at st q (Other file))) (entry_at st q (Other file))
    ∙ ap (λ b. cond (same_path p q && b) (option_map (with_mode_of mode) (entry_at st q (Other file))) (entry_at st q (Other file)))
    (sym apart)

module _ (st : State) (p : Names) (mode : ℕ) (q : Names) where
  beyond-with_mode : (name : EntryName) (file : OtherFile)
      → entry_at (with_mode st p name mode) q (Other file)
      ≡ cond (same_path p q && same_entry name (Other file)) (option_map (with_mode_of mode) (entry_at st q (Other file)))
      (entry_at st q (Other file))
  beyond-with_mode (Other changed) file =
      ap (option_map (λ told. told.entry))
      (file_told-telling st p changed (with_mode_told mode) q file (with_mode st p (Other changed) mode) refl
      (untold_at-with_mode st p (Other changed) mode q file))
      ∙ mode_told (same_path p q && same_other changed file) mode (file_told st q file)
  beyond-with_mode Dir file = entry_at-other_mode st p Dir mode q file refl refl refl
  beyond-with_mode name file = entry_at-other_mode st p name mode q file refl refl refl

module _ (st : State) (p : Names) (name : EntryName) (mode : ℕ) (q : Names) where
  row-with_mode : (other : EntryName) → is_beyond other ≡ false
      → entry_at (with_mode st p name mode) q other
      ≡ cond (same_path p q && same_entry name other) (option_map (with_mode_of mode) (entry_at st q other)) (entry_at st q other)
  row-with_mode other listed =
      entry_at-row (with_mode st p name mode) q other listed
      ∙ ap (option_and_then (λ row. entry_in row other)) (row_at-with_mode st p name mode q)
      ∙ read_changed (λ row. entry_in row other) (with_mode_in name mode) (same_entry name other) (with_mode_of mode)
      (λ row. entry_in-with_mode_in name mode row other listed) (same_path p q) (row_at st q)
      ∙ ap (λ e. cond (same_path p q && same_entry name other) (option_map (with_mode_of mode) e) e) (sym (entry_at-row st q other listed))

  pub entry_at-with_mode : (other : EntryName)
      → entry_at (with_mode st p name mode) q other
      ≡ cond (same_path p q && same_entry name other) (option_map (with_mode_of mode) (entry_at st q other)) (entry_at st q other)
  entry_at-with_mode (Other file) = beyond-with_mode st p mode q name file
  entry_at-with_mode other = row-with_mode other refl

  pub value_at-with_mode : (file : LimitFile) → value_at (with_mode st p name mode) q file ≡ value_at st q file
  value_at-with_mode file =
      ap (option_and_then (λ row. value_in row file)) (row_at-with_mode st p name mode q)
      ∙ read_same (λ row. value_in row file) (with_mode_in name mode) (λ row. value_in-with_mode_in name mode row file) (same_path p q)
      (row_at st q)

  pub other_at-with_mode : (controller : Controller) → other_at (with_mode st p name mode) q controller ≡ other_at st q controller
  other_at-with_mode controller =
      ap (option_and_then (λ row. other_in row controller)) (row_at-with_mode st p name mode q)
      ∙ read_same (λ row. other_in row controller) (with_mode_in name mode) (λ row. other_in-with_mode_in name mode row controller)
      (same_path p q) (row_at st q)

  pub enabled_at-with_mode : enabled_at (with_mode st p name mode) q ≡ enabled_at st q
  enabled_at-with_mode = ap enabled_of (row_at-with_mode st p name mode q)
      ∙ enabled_same (with_mode_in name mode) (enabled-with_mode_in name mode) (same_path p q) (row_at st q)

-- ---- a cgroup made and removed

module _ (st : State) (p : Names) (row : Cgroup) (q : Names) where
  elsewhere-with_row : (name : EntryName) → same_path p q ≡ false
      → option_and_then (λ row. entry_in row name) (row_at (with_row st p row) q) ≡ option_and_then (λ row. entry_in row name) (row_at st q)
  elsewhere-with_row name apart =
      ap (option_and_then (λ row. entry_in row name)) (row_at-with_row st p row q ∙ ap (λ b. cond b (Some row) (row_at st q)) apart)

  pub entry_at-with_row : (name : EntryName) → same_path p q ≡ false → entry_at (with_row st p row) q name ≡ entry_at st q name
  entry_at-with_row (Other file) apart =
      entry_at-told st (with_row st p row) q file
      (file_told-same st (with_row st p row) q file refl (elsewhere-with_row (Other file) apart))
  entry_at-with_row name apart =
      entry_at-row (with_row st p row) q name refl ∙ elsewhere-with_row name apart ∙ sym (entry_at-row st q name refl)

  pub value_at-with_row : (file : LimitFile)
      → value_at (with_row st p row) q file ≡ cond (same_path p q) (value_in row file) (value_at st q file)
  value_at-with_row file = ap (option_and_then (λ row. value_in row file)) (row_at-with_row st p row q)
      ∙ read_cond (λ row. value_in row file) (same_path p q) (Some row) (row_at st q)

  pub other_at-with_row : (controller : Controller)
      → other_at (with_row st p row) q controller ≡ cond (same_path p q) (other_in row controller) (other_at st q controller)
  other_at-with_row controller = ap (option_and_then (λ row. other_in row controller)) (row_at-with_row st p row q)
      ∙ read_cond (λ row. other_in row controller) (same_path p q) (Some row) (row_at st q)

  pub enabled_at-with_row : enabled_at (with_row st p row) q ≡ cond (same_path p q) row.enabled (enabled_at st q)
  enabled_at-with_row = ap enabled_of (row_at-with_row st p row q) ∙ enabled_cond (same_path p q) (Some row) (row_at st q)

module _ (st : State) (p q : Names) where
  row_gone : (name : EntryName) → option_and_then (λ row. entry_in row name) (row_at (without_row st p) q)
      ≡ cond (same_path p q) None (option_and_then (λ row. entry_in row name) (row_at st q))
  row_gone name = ap (option_and_then (λ row. entry_in row name)) (row_at-without_row st p q)
      ∙ read_cond (λ row. entry_in row name) (same_path p q) None (row_at st q)

  pub entry_at-without_row : (name : EntryName) → entry_at (without_row st p) q name ≡ cond (same_path p q) None (entry_at st q name)
  entry_at-without_row (Other file) =
      ap (λ it. option_map (λ told. told.entry) (or_untold it (untold_at (without_row st p) q file))) (told_at-without_row st p q file)
      ∙ ap (λ it. option_map (λ told. told.entry) (or_untold (cond (same_path p q) None (told_at st q file)) it)) (row_gone (Other file))
      ∙ elim (same_path p q) as (λ b.
      option_map (λ told. told.entry) (or_untold (cond b None (told_at st q file)) (cond b None (untold_at st q file)))
      ≡ cond b None (entry_at st q (Other file))) [ true ↦ refl | false ↦ refl ]
  entry_at-without_row name =
      entry_at-row (without_row st p) q name refl ∙ row_gone name ∙ ap (cond (same_path p q) None) (sym (entry_at-row st q name refl))

  pub value_at-without_row : (file : LimitFile) → value_at (without_row st p) q file ≡ cond (same_path p q) None (value_at st q file)
  value_at-without_row file = ap (option_and_then (λ row. value_in row file)) (row_at-without_row st p q)
      ∙ read_cond (λ row. value_in row file) (same_path p q) None (row_at st q)

  pub other_at-without_row : (controller : Controller)
      → other_at (without_row st p) q controller ≡ cond (same_path p q) None (other_at st q controller)
  other_at-without_row controller = ap (option_and_then (λ row. other_in row controller)) (row_at-without_row st p q)
      ∙ read_cond (λ row. other_in row controller) (same_path p q) None (row_at st q)

  pub enabled_at-without_row : enabled_at (without_row st p) q ≡ cond (same_path p q) no_controllers (enabled_at st q)
  enabled_at-without_row = ap enabled_of (row_at-without_row st p q) ∙ enabled_cond (same_path p q) None (row_at st q)

-- ---- controllers enabled

-- an entry or a value of a limit file is that of the file
pub entry_at-file : (st : State) (q : Names) (file : LimitFile) → entry_at st q (File file) ≡ option_map (λ f. f.entry) (file_at st q file)
entry_at-file st q file =
    elim (row_at st q) as
    (λ r. option_and_then (λ row. entry_in row (File file)) r ≡ option_map (λ f. f.entry) (option_and_then (λ row. file_of row file) r))
    [ None ↦ refl | Some row ↦ refl ]

pub value_at-file : (st : State) (q : Names) (file : LimitFile) → value_at st q file ≡ option_map (λ f. f.value) (file_at st q file)
value_at-file st q file =
    elim (row_at st q) as
    (λ r. option_and_then (λ row. value_in row file) r ≡ option_map (λ f. f.value) (option_and_then (λ row. file_of row file) r))
    [ None ↦ refl | Some row ↦ refl ]

module _ (st : State) (p : Names) (enabled : ControllerSet) (user : Identity) (q : Names) where
  -- where a reading of each row is the same before and after
  read_kept : {A : Type 0} (read : Cgroup → Option A)
      → ((row : Cgroup) → row_at st q ≡ Some row → read (enabling p enabled user q row) ≡ read row)
      → option_and_then read (row_at (with_enabled st p enabled user) q) ≡ option_and_then read (row_at st q)
  read_kept read same =
      ap (option_and_then read) (row_at-with_enabled st p enabled user q)
      ∙ elim (row_at st q) as (λ r. ((row : Cgroup) → r ≡ Some row → read (enabling p enabled user q row) ≡ read row)
      → option_and_then read (option_map (enabling p enabled user q) r) ≡ option_and_then read r) [
        | None ↦ λ same. refl
        | Some row ↦ λ same. same row refl
      ] same

  pub entry_at-with_enabled-dir : entry_at (with_enabled st p enabled user) q Dir ≡ entry_at st q Dir
  entry_at-with_enabled-dir =
      read_kept (λ row. entry_in row Dir)
      (λ row _. enabling-by p enabled user (λ r. entry_in r Dir ≡ entry_in row Dir) q row (λ _. refl) (λ _. refl) (λ _ _. refl))

  pub entry_at-with_enabled-procs : entry_at (with_enabled st p enabled user) q Procs ≡ entry_at st q Procs
  entry_at-with_enabled-procs =
      read_kept (λ row. entry_in row Procs)
      (λ row _. enabling-by p enabled user (λ r. entry_in r Procs ≡ entry_in row Procs) q row (λ _. refl) (λ _. refl) (λ _ _. refl))

  pub entry_at-with_enabled-subtree_control : entry_at (with_enabled st p enabled user) q SubtreeControl ≡ entry_at st q SubtreeControl
  entry_at-with_enabled-subtree_control =
      read_kept (λ row. entry_in row SubtreeControl) (λ row _. enabling-by p enabled user
      (λ r. entry_in r SubtreeControl ≡ entry_in row SubtreeControl) q row (λ _. refl) (λ _. refl) (λ _ _. refl))

  -- the path is no child of itself
  not_both : {P : Type 0} → same_path p q ≡ true → is_child p q ≡ true → P
  not_both same child = absurd (true≢false (sym child ∙ ap (is_child p) (sym (same_path-is p q same)) ∙ is_child-itself p))

  -- the files of a cgroup that is no child of it
  pub file_at-with_enabled-other : is_child p q ≡ false → (file : LimitFile)
      → file_at (with_enabled st p enabled user) q file ≡ file_at st q file
  file_at-with_enabled-other other file =
      read_kept (λ row. file_of row file) (λ row _. enabling-by p enabled user (λ r. file_of r file ≡ file_of row file) q row (λ _. refl)
      (λ child. absurd (true≢false (sym child ∙ other))) (λ _ _. refl))

  pub other_at-with_enabled-other : is_child p q ≡ false → (controller : Controller)
      → other_at (with_enabled st p enabled user) q controller ≡ other_at st q controller
  other_at-with_enabled-other other controller =
      read_kept (λ row. other_in row controller) (λ row _. enabling-by p enabled user
      (λ r. other_in r controller ≡ other_in row controller) q row (λ _. refl) (λ child. absurd (true≢false (sym child ∙ other)))
      (λ _ _. refl))

  -- the files of a cgroup where they stand before and after, or neither
  pub file_at-with_enabled-same : (file : LimitFile)
      → (is_some (row_at st q) ≡ true → is_some (file_at st q file) ≡ stands_under enabled file)
      → file_at (with_enabled st p enabled user) q file ≡ file_at st q file
  file_at-with_enabled-same file stands =
      read_kept (λ row. file_of row file) (λ row is.
      enabling-by p enabled user (λ r. file_of r file ≡ file_of row file) q row (λ _. refl)
      (λ _. same-with_files_of enabled user row file
      (ap (λ r. is_some (option_and_then (λ row. file_of row file) r)) (sym is) ∙ stands (ap is_some is))) (λ _ _. refl))

  pub other_at-with_enabled-same : (controller : Controller)
      → (is_some (row_at st q) ≡ true → is_some (other_at st q controller) ≡ enables enabled controller)
      → other_at (with_enabled st p enabled user) q controller ≡ other_at st q controller
  other_at-with_enabled-same controller stands =
      read_kept (λ row. other_in row controller) (λ row is.
      enabling-by p enabled user (λ r. other_in r controller ≡ other_in row controller) q row (λ _. refl)
      (λ _. same-other enabled user row controller
      (ap (λ r. is_some (option_and_then (λ row. other_in row controller) r)) (sym is) ∙ stands (ap is_some is))) (λ _ _. refl))

  -- a limit file beyond `LimitFile`, where no controller that comes or goes brings it
  untold_at-with_enabled : (file : OtherFile) → (is_child p q && is_some (brought_by file)) ≡ false
      → untold_at (with_enabled st p enabled user) q file ≡ untold_at st q file
  untold_at-with_enabled file h =
      read_kept (λ row. untold_in row file) (λ row _. enabling-by p enabled user
      (λ r. untold_in r file ≡ untold_in row file) q row (λ _. untold_same row (enabling_these enabled row) refl (λ controller. refl) file)
      (λ child. core row (ap (λ b. b && is_some (brought_by file)) (sym child) ∙ h)) (λ _ _. refl))
    where
      core : (row : Cgroup) → is_some (brought_by file) ≡ false → untold_in (with_files_of enabled user row) file ≡ untold_in row file
      core row free =
          elim (brought_by file) as (λ by. is_some by ≡ false
          → elim by [ None ↦ row.freeze | Some controller ↦ other_in (with_files_of enabled user row) controller ]
          ≡ elim by [ None ↦ row.freeze | Some controller ↦ other_in row controller ])
          [ None ↦ λ _. refl | Some controller ↦ λ free. absurd (true≢false free) ] free

  told_at-with_enabled-kept : (file : OtherFile) → (is_child p q && is_some (brought_by file)) ≡ false
      → told_at (with_enabled st p enabled user) q file ≡ told_at st q file
  told_at-with_enabled-kept file h =
      told_at-with_enabled st p enabled user q file
      ∙ elim (is_child p q) as (λ b. (b && is_some (brought_by file)) ≡ false
      → cond b (cond (stands_by enabled (brought_by file)) (told_at st q file) None) (told_at st q file) ≡ told_at st q file) [
        | true ↦ λ free.
            elim (brought_by file) as
            (λ by. is_some by ≡ false → cond (stands_by enabled by) (told_at st q file) None ≡ told_at st q file)
            [ None ↦ λ _. refl | Some controller ↦ λ free. absurd (true≢false free) ] free
        | false ↦ λ _. refl
      ] h

  pub entry_at-with_enabled-beyond : (file : OtherFile) → (is_child p q && is_some (brought_by file)) ≡ false
      → entry_at (with_enabled st p enabled user) q (Other file) ≡ entry_at st q (Other file)
  entry_at-with_enabled-beyond file h =
      entry_at-told st (with_enabled st p enabled user) q file
      (file_told-same st (with_enabled st p enabled user) q file (told_at-with_enabled-kept file h) (untold_at-with_enabled file h))

  pub told_text-with_enabled : (file : OtherFile) → (is_child p q && is_some (brought_by file)) ≡ false
      → told_text (with_enabled st p enabled user) q file ≡ told_text st q file
  told_text-with_enabled file h = ap (option_and_then (λ told. told.value)) (told_at-with_enabled-kept file h)

  -- the files of a child: one that stays is kept as it is, and a new one is the user's
  pub file_at-with_enabled-child : is_child p q ≡ true → (file : LimitFile)
      → file_at (with_enabled st p enabled user) q file
      ≡ option_and_then (λ row. refitted enabled user file (file_of row file)) (row_at st q)
  file_at-with_enabled-child child file =
      ap (option_and_then (λ row. file_of row file)) (row_at-with_enabled st p enabled user q)
      ∙ elim (row_at st q) as (λ r. option_and_then (λ row. file_of row file) (option_map (enabling p enabled user q) r)
      ≡ option_and_then (λ row. refitted enabled user file (file_of row file)) r) [
        | None ↦ refl
        | Some row ↦ enabling-by p enabled user (λ r. file_of r file ≡ refitted enabled user file (file_of row file)) q row
            (λ same. not_both same child) (λ _. file_of-with_files_of enabled user row file)
            (λ _ other. absurd (true≢false (sym child ∙ other)))
      ]

-- ---- a value of a limit file beyond `LimitFile`

value_told : (b : Bool) (value : FileText) (told : Option ToldFile)
    → option_map (λ told. told.entry) (cond b (option_map (with_value_told value) told) told) ≡ option_map (λ told. told.entry) told
value_told false value told = refl
value_told true value None = refl
value_told true value (Some told) = refl

module _ (st : State) (p : Names) (changed : OtherFile) (value : FileText) (q : Names) where
  pub entry_at-with_text : (name : EntryName) → entry_at (with_text st p changed value) q name ≡ entry_at st q name
  entry_at-with_text (Other file) =
      ap (option_map (λ told. told.entry))
      (file_told-telling st p changed (with_value_told value) q file (with_text st p changed value) refl refl)
      ∙ value_told (same_path p q && same_other changed file) value (file_told st q file)
  entry_at-with_text Dir = refl
  entry_at-with_text name = refl

  pub told_text-with_text : (file : OtherFile) → (same_path p q && same_other changed file) ≡ false
      → told_text (with_text st p changed value) q file ≡ told_text st q file
  told_text-with_text file apart =
      ap (option_and_then (λ told. told.value))
      (told_at-telling st p changed (with_value_told value) q file (with_text st p changed value) refl
      ∙ ap (λ b. cond b (option_map (with_value_told value) (file_told st q file)) (told_at st q file)) apart)

-- the value of one whose mode is set: of one that is told of it stays, and else none is told
mode_text : (b : Bool) (mode : ℕ) (told : Option ToldFile) (untold : Option Entry)
    → option_and_then (λ told. told.value) (cond b (option_map (with_mode_told mode) (or_untold told untold)) told)
    ≡ option_and_then (λ told. told.value) told
mode_text false mode told untold = refl
mode_text true mode None None = refl
mode_text true mode None (Some entry) = refl
mode_text true mode (Some told) untold = refl

pub told_text-with_mode : (st : State) (p : Names) (name : EntryName) (mode : ℕ) (q : Names) (file : OtherFile)
    → told_text (with_mode st p name mode) q file ≡ told_text st q file
told_text-with_mode st p (Other changed) mode q file =
    ap (option_and_then (λ told. told.value))
    (told_at-telling st p changed (with_mode_told mode) q file (with_mode st p (Other changed) mode) refl)
    ∙ mode_text (same_path p q && same_other changed file) mode (told_at st q file) (untold_at st q file)
told_text-with_mode st p Dir mode q file = refl
told_text-with_mode st p name mode q file = refl

text_gone : (b : Bool) (told : Option ToldFile)
    → option_and_then (λ told. told.value) (cond b None told) ≡ cond b None (option_and_then (λ told. told.value) told)
text_gone true told = refl
text_gone false told = refl

pub told_text-without_row : (st : State) (p q : Names) (file : OtherFile)
    → told_text (without_row st p) q file ≡ cond (same_path p q) None (told_text st q file)
told_text-without_row st p q file =
    ap (option_and_then (λ told. told.value)) (told_at-without_row st p q file) ∙ text_gone (same_path p q) (told_at st q file)

-- What reading a tree gives after the owner of an entry is changed, and that the tree stays well-formed.
use Rattle.std.proofs.Common.{◌≡◌, ℕ, ◌≤◌, Bool, true, false, cond, ◌&&◌, refl, sym, ap, ◌∙◌, subst, Option, Some, None, is_some, option_map, option_and_then}
use Rattle.cg_cgroup.specs.Paths.{Names, same_path}
use Rattle.cg_cgroup.specs.Files.{same_entry, same_other, is_beyond, accepts}
use Rattle.cg_cgroup.specs.Cgroups.{file_of, other_in, untold_in, entry_in, value_in}
use Rattle.cg_cgroup.specs.declared.user.Entry.{Entry}
use Rattle.cg_cgroup.specs.declared.controllers.ControllerSet.{ControllerSet}
use Rattle.cg_cgroup.specs.declared.files.Controller.{Controller}
use Rattle.cg_cgroup.specs.declared.files.LimitFile.{LimitFile}
use Rattle.cg_cgroup.specs.declared.files.EntryName.{EntryName}
use Rattle.cg_cgroup.specs.declared.files.EntryName.TheVariants.{Dir, Procs, SubtreeControl, File, Other}
use Rattle.std.specs.Prelude.{unwrap_or}
use Rattle.std.specs.FinMap as finite
use Rattle.cg_cgroup.specs.Told.{told_in, telling, nothing_told}
use Rattle.cg_cgroup.specs.declared.other_file.OtherFile.{OtherFile}
use Rattle.cg_cgroup.specs.declared.told.ToldFile.{ToldFile}
use Rattle.cg_model.proofs.StateTold.{or_untold, file_told-same, file_told-telling, told_at-telling}
use Rattle.cg_model.proofs.FormedTold.{formed-telling}
use Rattle.cg_cgroup.specs.declared.files.LimitFile.TheVariants.{MaxDescendants}
use Rattle.cg_cgroup.specs.declared.cgroup.LimitEntry.{LimitEntry}
use Rattle.cg_cgroup.specs.declared.cgroup.Cgroup.{Cgroup}
use Rattle.cg_cgroup.proofs.Options.{mapped_from, is_some-mapped}
use Rattle.cg_cgroup.proofs.CgroupLaws.{untold_same, file_of-with_file, other_in-with_file, rest-with_file}
use Rattle.cg_cgroup.proofs.PathOrder.{path_cmp_total}
use Rattle.cg_model.specs.States.{State, row_at, change_at, told_at, untold_at, file_told, told_text, entry_at, value_at, paths_of}
use Rattle.cg_model.specs.WellFormed.{IsFormedRow, IsWellFormed, enabled_at}
use Rattle.cg_model.proofs.MapLaws.{keys-change_value}
use Rattle.cg_model.proofs.StateLaws.{row_at-change_at}
use Rattle.cg_model.proofs.StateEntries.{entry_at-row, read_same, read_changed, enabled_of, enabled_same}
use Rattle.cg_model.proofs.FormedLaws.{formed-change_at}
use Rattle.cg_model.specs.Mends.{owned_by, with_file_owned_by, with_owner_in, told_owned_by, told_with_owner, with_owner}

-- ---- of a row

owner_part : (b : Bool) (uid gid : ℕ) (o : Option LimitEntry)
    → option_map (λ x. x.entry) (cond b (option_map (with_file_owned_by uid gid) o) o)
    ≡ cond b (option_map (owned_by uid gid) (option_map (λ x. x.entry) o)) (option_map (λ x. x.entry) o)
owner_part false uid gid o = refl
owner_part true uid gid None = refl
owner_part true uid gid (Some x) = refl

value_kept : (b : Bool) (uid gid : ℕ) (o : Option LimitEntry)
    → option_map (λ x. x.value) (cond b (option_map (with_file_owned_by uid gid) o) o) ≡ option_map (λ x. x.value) o
value_kept false uid gid o = refl
value_kept true uid gid None = refl
value_kept true uid gid (Some x) = refl

module _ (uid gid : ℕ) (row : Cgroup) where
  file_of-with_owner_in : (name : EntryName) (file : LimitFile)
      → file_of (with_owner_in name uid gid row) file
      ≡ cond (same_entry name (File file)) (option_map (with_file_owned_by uid gid) (file_of row file)) (file_of row file)
  file_of-with_owner_in (File file) other = file_of-with_file file (with_file_owned_by uid gid) row other
  file_of-with_owner_in Dir MaxDescendants = refl
  file_of-with_owner_in Procs MaxDescendants = refl
  file_of-with_owner_in SubtreeControl MaxDescendants = refl
  file_of-with_owner_in (Other beyond) file = refl
  file_of-with_owner_in name file = refl

  other_in-with_owner_in : (name : EntryName) (controller : Controller)
      → other_in (with_owner_in name uid gid row) controller ≡ other_in row controller
  other_in-with_owner_in (File file) controller = other_in-with_file file (with_file_owned_by uid gid) row controller
  other_in-with_owner_in name controller = refl

  enabled-with_owner_in : (name : EntryName) → (with_owner_in name uid gid row).enabled ≡ row.enabled
  enabled-with_owner_in (File file) = (rest-with_file file (with_file_owned_by uid gid) row).enabled
  enabled-with_owner_in name = refl

  freeze-with_owner_in : (name : EntryName) → (with_owner_in name uid gid row).freeze ≡ row.freeze
  freeze-with_owner_in (File file) = (rest-with_file file (with_file_owned_by uid gid) row).freeze
  freeze-with_owner_in name = refl

  value_in-with_owner_in : (name : EntryName) (file : LimitFile) → value_in (with_owner_in name uid gid row) file ≡ value_in row file
  value_in-with_owner_in name file =
      ap (option_map (λ x. x.value)) (file_of-with_owner_in name file) ∙ value_kept (same_entry name (File file)) uid gid (file_of row file)

  untold_in-with_owner_in : (name : EntryName) (file : OtherFile) → untold_in (with_owner_in name uid gid row) file ≡ untold_in row file
  untold_in-with_owner_in (File changed) file =
      untold_same row (with_owner_in (File changed) uid gid row) (freeze-with_owner_in (File changed))
      (other_in-with_owner_in (File changed)) file
  untold_in-with_owner_in Dir file = untold_same row (with_owner_in Dir uid gid row) refl (λ controller. refl) file
  untold_in-with_owner_in Procs file = untold_same row (with_owner_in Procs uid gid row) refl (λ controller. refl) file
  untold_in-with_owner_in SubtreeControl file = untold_same row (with_owner_in SubtreeControl uid gid row) refl (λ controller. refl) file
  untold_in-with_owner_in (Other changed) file = refl

  entry_in-with_owner_in : (name other : EntryName) → is_beyond other ≡ false
      → entry_in (with_owner_in name uid gid row) other
      ≡ cond (same_entry name other) (option_map (owned_by uid gid) (entry_in row other)) (entry_in row other)
  entry_in-with_owner_in name (Other file) h = cc
  entry_in-with_owner_in name (File file) h =
      ap (option_map (λ x. x.entry)) (file_of-with_owner_in name file) ∙ owner_part (same_entry name (File file)) uid gid (file_of row file)
  entry_in-with_owner_in (File file) Dir h = ap Some (rest-with_file file (with_file_owned_by uid gid) row).dir
  entry_in-with_owner_in (File file) Procs h = ap Some (rest-with_file file (with_file_owned_by uid gid) row).procs
  entry_in-with_owner_in (File file) SubtreeControl h = ap Some (rest-with_file file (with_file_owned_by uid gid) row).subtree_control
  entry_in-with_owner_in Dir Dir h = refl
  entry_in-with_owner_in Procs Procs h = refl
  entry_in-with_owner_in SubtreeControl SubtreeControl h = refl
  entry_in-with_owner_in name other h = refl

is_some-changed : {A : Type 0} (b : Bool) (g : A → A) (o : Option A) → is_some (cond b (option_map g o) o) ≡ is_some o
is_some-changed true g o = is_some-mapped g o
is_some-changed false g o = refl

of_changed : {A : Type 0} (P : A → Type 0) (b : Bool) (g : A → A) (o : Option A) → ((x : A) → P x → P (g x)) → ((x : A) → o ≡ Some x → P x)
    → (y : A) → cond b (option_map g o) o ≡ Some y → P y
of_changed P true g o changed kept y is = let from = mapped_from g o y is in subst P from.2 (changed from.0 (kept from.0 from.1))
of_changed P false g o changed kept y is = kept y is

modes-with_owner_in : (above : ControllerSet) (name : EntryName) (uid gid : ℕ) (row : Cgroup) → IsFormedRow above row
    → (other : EntryName) (entry : Entry) → entry_in (with_owner_in name uid gid row) other ≡ Some entry → entry.mode ≤ 511
modes-with_owner_in above name uid gid row formed (Other file) entry is =
    formed.modes (Other file) entry (sym (untold_in-with_owner_in uid gid row name file) ∙ is)
modes-with_owner_in above name uid gid row formed other entry is =
    of_changed (λ (e : Entry). e.mode ≤ 511) (same_entry name other) (owned_by uid gid) (entry_in row other) (λ e small. small)
    (formed.modes other) entry (sym (entry_in-with_owner_in uid gid row name other refl) ∙ is)

formed_row-with_owner_in : (above : ControllerSet) (name : EntryName) (uid gid : ℕ) (row : Cgroup) → IsFormedRow above row
    → IsFormedRow above (with_owner_in name uid gid row)
formed_row-with_owner_in above name uid gid row formed = record {
  files = λ file. ap is_some (file_of-with_owner_in uid gid row name file)
      ∙ is_some-changed (same_entry name (File file)) (with_file_owned_by uid gid) (file_of row file) ∙ formed.files file;
  others = λ controller. ap is_some (other_in-with_owner_in uid gid row name controller) ∙ formed.others controller;
  values = λ file held is.
      of_changed (λ (x : LimitEntry). accepts file x.value ≡ true) (same_entry name (File file)) (with_file_owned_by uid gid)
      (file_of row file)
      (λ x accepted. accepted) (formed.values file) held (sym (file_of-with_owner_in uid gid row name file) ∙ is);
  modes = modes-with_owner_in above name uid gid row formed;
}

-- ---- of a tree

never : {A : Type 0} (b : Bool) (x y : A) → y ≡ cond (b && false) x y
never true x y = refl
never false x y = refl

owner_told : (b : Bool) (uid gid : ℕ) (told : Option ToldFile)
    → option_map (λ told. told.entry) (cond b (option_map (told_owned_by uid gid) told) told)
    ≡ cond b (option_map (owned_by uid gid) (option_map (λ told. told.entry) told)) (option_map (λ told. told.entry) told)
owner_told false uid gid told = refl
owner_told true uid gid None = refl
owner_told true uid gid (Some told) = refl

module _ (st : State) (p : Names) (uid gid : ℕ) (q : Names) where
  untold_at-with_owner : (name : EntryName) (file : OtherFile) → untold_at (with_owner st p name uid gid) q file ≡ untold_at st q file
  untold_at-with_owner name file =
      ap (option_and_then (λ row. untold_in row file)) (row_at-change_at p (with_owner_in name uid gid) st q)
      ∙ read_same (λ row. untold_in row file) (with_owner_in name uid gid) (λ row. untold_in-with_owner_in uid gid row name file)
      (same_path p q) (row_at st q)

  other_owner : (name : EntryName) (file : OtherFile) → told_with_owner st p name uid gid ≡ st.told → same_entry name (Other file) ≡ false
      → entry_at (with_owner st p name uid gid) q (Other file)
      ≡ cond (same_path p q && same_entry name (Other file)) (option_map (owned_by uid gid) (entry_at st q (Other file)))
      (entry_at st q (Other file))
  other_owner name file told apart =
      ap (option_map (λ told. told.entry))
      (file_told-same st (with_owner st p name uid gid) q file
      (ap (λ told. option_and_then (λ files. told_in files file) (finite.get told q)) told) (untold_at-with_owner name file))
      ∙ never (same_path p q) (option_map (owned_by uid gid) (entry_at st q (Other file))) (entry_at st q (Other file))
      ∙ ap (λ b. cond (same_path p q && b) (option_map (owned_by uid gid) (entry_at st q (Other file))) (entry_at st q (Other file)))
      (sym apart)

  beyond-with_owner : (name : EntryName) (file : OtherFile)
      → entry_at (with_owner st p name uid gid) q (Other file)
      ≡ cond (same_path p q && same_entry name (Other file)) (option_map (owned_by uid gid) (entry_at st q (Other file)))
      (entry_at st q (Other file))
  beyond-with_owner (Other changed) file =
      ap (option_map (λ told. told.entry))
      (file_told-telling st p changed (told_owned_by uid gid) q file (with_owner st p (Other changed) uid gid) refl
      (untold_at-with_owner (Other changed) file))
      ∙ owner_told (same_path p q && same_other changed file) uid gid (file_told st q file)
  beyond-with_owner Dir file = other_owner Dir file refl refl
  beyond-with_owner name file = other_owner name file refl refl

-- the value of one that is told of stays, and else none is told
owner_text : (b : Bool) (uid gid : ℕ) (told : Option ToldFile) (untold : Option Entry)
    → option_and_then (λ told. told.value) (cond b (option_map (told_owned_by uid gid) (or_untold told untold)) told)
    ≡ option_and_then (λ told. told.value) told
owner_text false uid gid told untold = refl
owner_text true uid gid None None = refl
owner_text true uid gid None (Some entry) = refl
owner_text true uid gid (Some told) untold = refl

pub told_text-with_owner : (st : State) (p : Names) (name : EntryName) (uid gid : ℕ) (q : Names) (file : OtherFile)
    → told_text (with_owner st p name uid gid) q file ≡ told_text st q file
told_text-with_owner st p (Other changed) uid gid q file =
    ap (option_and_then (λ told. told.value))
    (told_at-telling st p changed (told_owned_by uid gid) q file (with_owner st p (Other changed) uid gid) refl)
    ∙ owner_text (same_path p q && same_other changed file) uid gid (told_at st q file) (untold_at st q file)
told_text-with_owner st p Dir uid gid q file = refl
told_text-with_owner st p name uid gid q file = refl

module _ (st : State) (p : Names) (name : EntryName) (uid gid : ℕ) (q : Names) where
  listed-with_owner : (other : EntryName) → is_beyond other ≡ false
      → entry_at (with_owner st p name uid gid) q other
      ≡ cond (same_path p q && same_entry name other) (option_map (owned_by uid gid) (entry_at st q other)) (entry_at st q other)
  listed-with_owner other listed =
      entry_at-row (with_owner st p name uid gid) q other listed
      ∙ ap (option_and_then (λ row. entry_in row other)) (row_at-change_at p (with_owner_in name uid gid) st q)
      ∙ read_changed (λ row. entry_in row other) (with_owner_in name uid gid) (same_entry name other) (owned_by uid gid)
      (λ row. entry_in-with_owner_in uid gid row name other listed) (same_path p q) (row_at st q)
      ∙ ap (λ e. cond (same_path p q && same_entry name other) (option_map (owned_by uid gid) e) e) (sym (entry_at-row st q other listed))

  pub entry_at-with_owner : (other : EntryName)
      → entry_at (with_owner st p name uid gid) q other
      ≡ cond (same_path p q && same_entry name other) (option_map (owned_by uid gid) (entry_at st q other)) (entry_at st q other)
  entry_at-with_owner (Other file) = beyond-with_owner st p uid gid q name file
  entry_at-with_owner other = listed-with_owner other refl

  pub value_at-with_owner : (file : LimitFile) → value_at (with_owner st p name uid gid) q file ≡ value_at st q file
  value_at-with_owner file =
      ap (option_and_then (λ row. value_in row file)) (row_at-change_at p (with_owner_in name uid gid) st q)
      ∙ read_same (λ row. value_in row file) (with_owner_in name uid gid) (λ row. value_in-with_owner_in uid gid row name file)
      (same_path p q) (row_at st q)

  pub enabled_at-with_owner : enabled_at (with_owner st p name uid gid) q ≡ enabled_at st q
  enabled_at-with_owner =
      ap enabled_of (row_at-change_at p (with_owner_in name uid gid) st q)
      ∙ enabled_same (with_owner_in name uid gid) (λ row. enabled-with_owner_in uid gid row name) (same_path p q) (row_at st q)

pub paths_of-with_owner : (st : State) (p : Names) (name : EntryName) (uid gid : ℕ) → paths_of (with_owner st p name uid gid) ≡ paths_of st
paths_of-with_owner st p name uid gid = keys-change_value path_cmp_total st.rows p (with_owner_in name uid gid)

formed-row-with_owner : (st : State) (path : Names) (name : EntryName) (uid gid : ℕ) → IsWellFormed st
    → IsWellFormed (change_at path (with_owner_in name uid gid) st)
formed-row-with_owner st path name uid gid =
    formed-change_at st path (with_owner_in name uid gid) (λ row. enabled-with_owner_in uid gid row name)
    (λ row. freeze-with_owner_in uid gid row name)
    (λ above row formed. formed_row-with_owner_in above name uid gid row formed)

same_reading : (b : Bool) (r : Option Cgroup) (file : OtherFile) (uid gid : ℕ)
    → option_and_then (λ row. untold_in row file) (cond b (option_map (with_owner_in (Other file) uid gid) r) r)
    ≡ option_and_then (λ row. untold_in row file) r
same_reading true None file uid gid = refl
same_reading true (Some row) file uid gid = refl
same_reading false r file uid gid = refl

pub formed-with_owner : (st : State) (path : Names) (name : EntryName) (uid gid : ℕ) → IsWellFormed st
    → IsWellFormed (with_owner st path name uid gid)
formed-with_owner st path (Other file) uid gid whole =
    let changed = change_at path (with_owner_in (Other file) uid gid) st in
    let untold : untold_at changed path file ≡ untold_at st path file =
    ap (option_and_then (λ row. untold_in row file)) (row_at-change_at path (with_owner_in (Other file) uid gid) st path)
    ∙ same_reading (same_path path path) (row_at st path) file uid gid in
    subst (λ told. IsWellFormed (record changed { told = told }))
    (ap (λ known. elim known [
      | None ↦ st.told
      | Some told ↦
          finite.insert st.told path (telling file (Some (told_owned_by uid gid told)) (unwrap_or (finite.get st.told path) nothing_told))
    ]) (file_told-same st changed path file refl untold))
    (formed-telling changed (formed-row-with_owner st path (Other file) uid gid whole) path file (told_owned_by uid gid)
    (λ told small. small))
formed-with_owner st path Dir uid gid whole = formed-row-with_owner st path Dir uid gid whole
formed-with_owner st path name uid gid whole = formed-row-with_owner st path name uid gid whole

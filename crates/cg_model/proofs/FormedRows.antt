-- Each change of a row keeps it well-formed.
use Rattle.std.proofs.Common.{◌≡◌, ℕ, ◌≤◌, Bool, true, false, cond, refl, sym, ap, ◌∙◌, subst, true≢false, Option, Some, None, is_some, option_map, unwrap_or, arith}
use Rattle.cg_cgroup.specs.Identity.{Identity}
use Rattle.cg_cgroup.specs.Users.{entry_made_by}
use Rattle.cg_cgroup.specs.Files.{stands_under, brought_by, enables, accepts, same_file, same_entry}
use Rattle.cg_cgroup.specs.Cgroups.{file_of, other_in, untold_in, entry_in, with_value_of, with_value_in, with_mode_of, with_file_mode_of, with_mode_in, file_made_by, with_files_of, cgroup_made_by}
use Rattle.cg_model.specs.WellFormed.{IsFormedRow}
use Rattle.cg_cgroup.specs.declared.user.Entry.{Entry}
use Rattle.cg_cgroup.specs.declared.files.Limit.{Limit}
use Rattle.cg_cgroup.specs.declared.controllers.ControllerSet.{ControllerSet}
use Rattle.cg_cgroup.specs.declared.files.LimitFile.{LimitFile}
use Rattle.cg_cgroup.specs.declared.files.EntryName.{EntryName}
use Rattle.cg_cgroup.specs.declared.files.EntryName.TheVariants.{Dir, Procs, SubtreeControl, File, Other}
use Rattle.cg_cgroup.specs.declared.files.Controller.{Controller}
use Rattle.cg_cgroup.specs.declared.cgroup.LimitEntry.{LimitEntry}
use Rattle.cg_cgroup.specs.declared.cgroup.Cgroup.{Cgroup}
use Rattle.cg_cgroup.proofs.Options.{mapped_from, is_some-mapped, same_some}
use Rattle.cg_cgroup.proofs.CgroupLaws.{same_file-true, file_of-with_value_in, other_in-with_value_in, entry_in-with_value_in, file_of-with_mode_in, other_in-with_mode_in, entry_in-with_mode_in, untold_in-with_mode_in, other_in-with_files_of, other_in-cgroup_made_by, file_of-with_files_of, stands-with_files_of, stands-other, file_of-cgroup_made_by, stands-cgroup_made_by, stands-other-made, accepts-default_value}

is_some-changed : {A : Type 0} (b : Bool) (g : A → A) (o : Option A) → is_some (cond b (option_map g o) o) ≡ is_some o
is_some-changed true g o = is_some-mapped g o
is_some-changed false g o = refl

-- what holds of a value and of the changed one
of_changed : {A : Type 0} (P : A → Type 0) (b : Bool) (g : A → A) (o : Option A) → ((x : A) → b ≡ true → o ≡ Some x → P (g x))
    → ((x : A) → o ≡ Some x → P x)
    → (y : A) → cond b (option_map g o) o ≡ Some y → P y
of_changed P true g o changed kept y is = let from = mapped_from g o y is in subst P from.2 (changed from.0 refl from.1)
of_changed P false g o changed kept y is = kept y is

-- ---- a value

pub formed_row-with_value_in : (above : ControllerSet) (file : LimitFile) (value : Limit) (row : Cgroup) → accepts file value ≡ true
    → IsFormedRow above row → IsFormedRow above (with_value_in file value row)
formed_row-with_value_in above file value row accepted formed = record {
  files = λ other. ap is_some (file_of-with_value_in file value row other)
      ∙ is_some-changed (same_file file other) (with_value_of value) (file_of row other) ∙ formed.files other;
  others = λ controller. ap is_some (other_in-with_value_in file value row controller) ∙ formed.others controller;
  values = λ other held is.
      of_changed (λ (x : LimitEntry). accepts other x.value ≡ true) (same_file file other) (with_value_of value) (file_of row other)
      (λ x same _. ap (λ f. accepts f value) (sym (same_file-true file other same)) ∙ accepted) (formed.values other) held
      (sym (file_of-with_value_in file value row other) ∙ is);
  modes = λ name entry is. formed.modes name entry (sym (entry_in-with_value_in file value row name) ∙ is);
}

-- ---- a mode

modes-with_mode_in : (above : ControllerSet) (name : EntryName) (mode : ℕ) (row : Cgroup) → mode ≤ 511 → IsFormedRow above row
    → (other : EntryName) (entry : Entry) → entry_in (with_mode_in name mode row) other ≡ Some entry → entry.mode ≤ 511
modes-with_mode_in above name mode row small formed (Other file) entry is =
    formed.modes (Other file) entry (sym (untold_in-with_mode_in name mode row file) ∙ is)
modes-with_mode_in above name mode row small formed other entry is =
    of_changed (λ (e : Entry). e.mode ≤ 511) (same_entry name other) (with_mode_of mode) (entry_in row other) (λ e _ _. small)
    (formed.modes other) entry (sym (entry_in-with_mode_in name mode row other refl) ∙ is)

pub formed_row-with_mode_in : (above : ControllerSet) (name : EntryName) (mode : ℕ) (row : Cgroup) → mode ≤ 511 → IsFormedRow above row
    → IsFormedRow above (with_mode_in name mode row)
formed_row-with_mode_in above name mode row small formed = record {
  files = λ file. ap is_some (file_of-with_mode_in name mode row file)
      ∙ is_some-changed (same_entry name (File file)) (with_file_mode_of mode) (file_of row file) ∙ formed.files file;
  others = λ controller. ap is_some (other_in-with_mode_in name mode row controller) ∙ formed.others controller;
  values = λ file held is.
      of_changed (λ (x : LimitEntry). accepts file x.value ≡ true) (same_entry name (File file)) (with_file_mode_of mode) (file_of row file)
      (λ x _. formed.values file x) (formed.values file) held (sym (file_of-with_mode_in name mode row file) ∙ is);
  modes = modes-with_mode_in above name mode row small formed;
}

-- ---- the files that a parent's controllers bring

-- the mode of the entry of a limit file
abbrev HasMode : LimitEntry → Type 0
HasMode held = held.entry.mode ≤ 511

file_modes : {above : ControllerSet} {row : Cgroup} → IsFormedRow above row → (file : LimitFile) (held : LimitEntry)
    → file_of row file ≡ Some held → HasMode held
file_modes formed file held is = formed.modes (File file) held.entry (ap (option_map (λ f. f.entry)) is)

-- the entry of a limit file has its mode
modes_file : (o : Option LimitEntry) → ((held : LimitEntry) → o ≡ Some held → HasMode held) → (entry : Entry)
    → option_map (λ f. f.entry) o ≡ Some entry → entry.mode ≤ 511
modes_file o each entry is =
    let from = mapped_from (λ f. f.entry) o entry is in subst (λ (e : Entry). e.mode ≤ 511) from.2 (each from.0 from.1)

-- a file that stays is as before, and a new one is made
of_refitted : {A : Type 0} (P : A → Type 0) (b : Bool) (had : Option A) (made : A) → P made
    → ((held : A) → had ≡ Some held → P held)
    → (held : A) → cond b (Some (unwrap_or had made)) None ≡ Some held → P held
of_refitted P false had made new kept held is = absurd (true≢false (sym (ap is_some is)))
of_refitted P true None made new kept held is = subst P (same_some made held is) new
of_refitted P true (Some x) made new kept held is = kept held is

modes-with_files_of : (above enabled : ControllerSet) (user : Identity) (row : Cgroup) → IsFormedRow above row
    → (name : EntryName) (entry : Entry) → entry_in (with_files_of enabled user row) name ≡ Some entry → entry.mode ≤ 511
modes-with_files_of above enabled user row formed (File file) entry is =
    modes_file (file_of (with_files_of enabled user row) file)
    (λ held is. of_refitted HasMode (stands_under enabled file) (file_of row file) (file_made_by user file) (omega arith)
    (file_modes formed file) held (sym (file_of-with_files_of enabled user row file) ∙ is)) entry is
modes-with_files_of above enabled user row formed (Other file) entry is =
    elim (brought_by file) as (λ by. brought_by file ≡ by
    → elim by [ None ↦ row.freeze | Some controller ↦ other_in (with_files_of enabled user row) controller ] ≡ Some entry
    → entry.mode ≤ 511) [
      | None ↦ λ core is. formed.modes (Other file) entry (by_controller core ∙ is)
      | Some controller ↦ λ by is.
          of_refitted (λ (e : Entry). e.mode ≤ 511) (enables enabled controller) (other_in row controller) (entry_made_by user 420)
          (omega arith)
          (λ e had. formed.modes (Other file) e (by_controller by ∙ had)) entry
          (sym (other_in-with_files_of enabled user row controller) ∙ is)
    ] refl is
  where
    by_controller : {by : Option Controller} → brought_by file ≡ by
        → untold_in row file ≡ elim by [ None ↦ row.freeze | Some controller ↦ other_in row controller ]
    by_controller same = ap (λ by. elim by [ None ↦ row.freeze | Some controller ↦ other_in row controller ]) same
modes-with_files_of above enabled user row formed Dir entry is = formed.modes Dir entry is
modes-with_files_of above enabled user row formed Procs entry is = formed.modes Procs entry is
modes-with_files_of above enabled user row formed SubtreeControl entry is = formed.modes SubtreeControl entry is

pub formed_row-with_files_of : (above enabled : ControllerSet) (user : Identity) (row : Cgroup) → IsFormedRow above row
    → IsFormedRow enabled (with_files_of enabled user row)
formed_row-with_files_of above enabled user row formed = record {
  files = stands-with_files_of enabled user row;
  others = stands-other enabled user row;
  values = λ file held is.
      of_refitted (λ held. accepts file held.value ≡ true) (stands_under enabled file) (file_of row file) (file_made_by user file)
      (accepts-default_value file) (formed.values file) held (sym (file_of-with_files_of enabled user row file) ∙ is);
  modes = modes-with_files_of above enabled user row formed;
}

-- ---- a new cgroup

of_made : (P : LimitEntry → Type 0) (user : Identity) (enabled : ControllerSet) (file : LimitFile) → P (file_made_by user file)
    → (held : LimitEntry) → file_of (cgroup_made_by user enabled) file ≡ Some held → P held
of_made P user enabled file made held is =
    of_refitted P (stands_under enabled file) None (file_made_by user file) made (λ held none. absurd (true≢false (sym (ap is_some none))))
    held (sym (file_of-cgroup_made_by user enabled file) ∙ is)

made_mode : (user : Identity) (mode : ℕ) → mode ≤ 511 → (entry : Entry) → Some (entry_made_by user mode) ≡ Some entry → entry.mode ≤ 511
made_mode user mode small entry is = subst (λ (e : Entry). e.mode ≤ 511) (same_some _ entry is) small

modes-cgroup_made_by : (user : Identity) (enabled : ControllerSet) (name : EntryName) (entry : Entry)
    → entry_in (cgroup_made_by user enabled) name ≡ Some entry → entry.mode ≤ 511
modes-cgroup_made_by user enabled Dir entry is = made_mode user 493 (omega arith) entry is
modes-cgroup_made_by user enabled Procs entry is = made_mode user 420 (omega arith) entry is
modes-cgroup_made_by user enabled SubtreeControl entry is = made_mode user 420 (omega arith) entry is
modes-cgroup_made_by user enabled (File file) entry is =
    modes_file (file_of (cgroup_made_by user enabled) file) (of_made HasMode user enabled file (omega arith)) entry is
modes-cgroup_made_by user enabled (Other file) entry is =
    elim (brought_by file) as
    (λ by. elim by [ None ↦ Some (entry_made_by user 420) | Some controller ↦ other_in (cgroup_made_by user enabled) controller ]
    ≡ Some entry → entry.mode ≤ 511) [
      | None ↦ made_mode user 420 (omega arith) entry
      | Some controller ↦ λ is.
          of_refitted (λ (e : Entry). e.mode ≤ 511) (enables enabled controller) None (entry_made_by user 420) (omega arith)
          (λ e none. absurd (true≢false (sym (ap is_some none)))) entry (sym (other_in-cgroup_made_by user enabled controller) ∙ is)
    ] is

pub formed_row-cgroup_made_by : (user : Identity) (enabled : ControllerSet) → IsFormedRow enabled (cgroup_made_by user enabled)
formed_row-cgroup_made_by user enabled = record {
  files = stands-cgroup_made_by user enabled;
  others = stands-other-made user enabled;
  values = λ file. of_made (λ held. accepts file held.value ≡ true) user enabled file (accepts-default_value file);
  modes = modes-cgroup_made_by user enabled;
}

-- The state that the tables of `Rows` show: after a changed row, and the tree of a root alone.
use Rattle.std.proofs.Common.{◌≡◌, ℕ, true, false, not, List, [], ◌∷◌, Option, Some, None, is_some, refl, sym, ap, subst, ◌∙◌}
use Rattle.std.proofs.lemmas.Bool.{true≢false}
use Rattle.std.proofs.lemmas.Option.{none-some, same_Some}
use Rattle.std.specs.Ordering.{nat_cmp}
use Rattle.std.specs.FinMap as map
use Rattle.cg_cgroup.specs.Paths.{Names, path_cmp, is_root, parent}
use Rattle.cg_cgroup.specs.Files.{no_controllers, is_within, is_beyond}
use Rattle.cg_cgroup.specs.Cgroups.{with_mode_in}
use Rattle.cg_model.specs.States.{State, row_at, process_at, change_at, with_mode}
use Rattle.cg_model.specs.WellFormed.{IsWellFormed, IsFormedRow, has_row, available_at, enabled_above}
use Rattle.cg_rows.specs.Processes.{LiveAndUsed, no_processes}
use Rattle.cg_rows.specs.RowsForm.{state_of_tables, state_of_root, IsRoot}
use Rattle.cg_cgroup.specs.declared.controllers.ControllerSet.{ControllerSet}
use Rattle.cg_cgroup.specs.declared.cgroup.Cgroup.{Cgroup}
use Rattle.cg_cgroup.specs.declared.files.EntryName.{EntryName}
use Rattle.cg_cgroup.specs.declared.files.EntryName.TheVariants.{Other, Dir}
use Rattle.cg_cgroup.specs.declared.process.Process.{Process}
use Rattle.cg_cgroup.specs.declared.told.ToldFiles.{ToldFiles}
use Rattle.cg_cgroup.proofs.PathOrder.{path_cmp_total}

-- ---- the state after a changed row

changed_by : Names → (Cgroup → Cgroup) → map.FinMap path_cmp Cgroup → Option Cgroup → map.FinMap path_cmp Cgroup
changed_by path f rows None = rows
changed_by path f rows (Some row) = map.insert rows path (f row)

pub tables_changed : (st : State) (rows rows' : map.FinMap path_cmp Cgroup) (processes : LiveAndUsed)
    (told : map.FinMap path_cmp ToldFiles) (controllers : ControllerSet) (path sought : Names) (f : Cgroup → Cgroup) (row row' : Cgroup)
    → state_of_tables rows processes told controllers ≡ st → Some row ≡ map.get rows sought → sought ≡ path → row' ≡ f row
    → rows' ≡ map.insert rows path row'
    → state_of_tables rows' processes told controllers ≡ change_at path f st
unfolding changed_by
tables_changed st rows rows' processes told controllers path sought f row row' shows there same new inserted =
    ap (λ k. state_of_tables k processes told controllers)
    (inserted ∙ ap (map.insert rows path) new ∙ ap (changed_by path f rows) (there ∙ ap (map.get rows) same))
    ∙ ap (change_at path f) shows

-- a mode of an entry of the row changes nothing that is told
pub row_with_mode : (st : State) (path : Names) (name : EntryName) (mode : ℕ) → is_beyond name ≡ false
    → change_at path (with_mode_in name mode) st ≡ with_mode st path name mode
row_with_mode st path (Other file) mode listed = absurd (true≢false listed)
row_with_mode st path Dir mode listed = refl
row_with_mode st path name mode listed = refl

-- ---- the tree of a root alone

module _ (controllers : ControllerSet) (row : Cgroup) where
  abbrev alone : State
  alone = state_of_root controllers row

  at_root : row_at alone [] ≡ Some row
  at_root = map.get-insert path_cmp_total map.empty [] row []

  at_other : (name : List ℕ) (names : Names) → row_at alone (name ∷ names) ≡ None
  at_other name names = map.get-insert path_cmp_total map.empty [] row (name ∷ names) ∙ map.get-empty path_cmp (name ∷ names)

  no_other : {P : Type 0} (name : List ℕ) (names : Names) (other : Cgroup) → row_at alone (name ∷ names) ≡ Some other → P
  no_other name names other e = absurd (none-some other (sym (at_other name names) ∙ e))

  root_is : (other : Cgroup) → row_at alone [] ≡ Some other → row ≡ other
  root_is other e = same_Some row other (sym at_root ∙ e)

  no_process : {P : Type 0} (pid : ℕ) (process : Process) → process_at alone pid ≡ Some process → P
  no_process pid process e = absurd (none-some process (sym (map.get-empty nat_cmp pid) ∙ e))

  module _ (is_root_row : IsRoot controllers row) where
    parents_of : (path : Names) → has_row alone path ≡ true → has_row alone (parent path) ≡ true
    parents_of [] e = e
    parents_of (name ∷ names) e = absurd (true≢false (sym e ∙ ap is_some (at_other name names)))

    top_down_of : (path : Names) (other : Cgroup) → row_at alone path ≡ Some other
        → is_within other.enabled (available_at alone path) ≡ true
    top_down_of [] other e = ap (λ (r : Cgroup). is_within r.enabled controllers) (sym (root_is other e)) ∙ is_root_row.enables
    top_down_of (name ∷ names) other e = no_other name names other e

    row_of : (path : Names) (other : Cgroup) → row_at alone path ≡ Some other → IsFormedRow (enabled_above alone path) other
    row_of [] other e = subst (IsFormedRow no_controllers) (root_is other e) is_root_row.formed
    row_of (name ∷ names) other e = no_other name names other e

    freeze_of : (path : Names) (other : Cgroup) → row_at alone path ≡ Some other → is_some other.freeze ≡ not (is_root path)
    freeze_of [] other e = ap (λ (r : Cgroup). is_some r.freeze) (sym (root_is other e)) ∙ ap is_some is_root_row.freeze
    freeze_of (name ∷ names) other e = no_other name names other e

    pub formed_root : IsWellFormed alone
    formed_root = record {
      root = ap is_some at_root;
      parents = parents_of;
      top_down = top_down_of;
      rows = row_of;
      freeze = freeze_of;
      told = λ path files e. absurd (none-some files (sym (map.get-empty path_cmp path) ∙ e));
      told_below_root = λ path files e. absurd (none-some files (sym (map.get-empty path_cmp path) ∙ e));
      places = λ pid process e. no_process pid process e;
      used = λ pid process e. no_process pid process e;
    }

  pub tables_of_root : (rows : map.FinMap path_cmp Cgroup) (processes : LiveAndUsed) (told : map.FinMap path_cmp ToldFiles)
      (start : map.FinMap path_cmp Cgroup) (path : Names)
      → start ≡ map.empty → path ≡ [] → rows ≡ map.insert start path row → processes ≡ no_processes → told ≡ map.empty
      → state_of_tables rows processes told controllers ≡ alone
  tables_of_root rows processes told start path s p r none nothing =
      λ i. state_of_tables ((r ∙ (λ j. map.insert (s j) (p j) row)) i) (none i) (nothing i) controllers

pub no_keys : (m : map.FinMap path_cmp Cgroup) (path : Names) → m ≡ map.empty → map.contains_key m path ≡ false
no_keys m path e = ap (λ k. map.contains_key k path) e ∙ ap is_some (map.get-empty path_cmp path)

-- What the tests of a state find: a row, a child, a process.
use Rattle.std.proofs.Common.{◌≡◌, ℕ, true, ◌&&◌, sym, ◌∙◌, Some}
use Rattle.std.specs.Cmp.{first_so, second_so, nat_cmp_total}
use Rattle.std.specs.Cmp.Derive.{both_true}
use Rattle.std.specs.FinMap as finite
use Rattle.cg_cgroup.specs.Paths.{Names, same_path, is_child}
use Rattle.cg_cgroup.specs.Files.{enables}
use Rattle.cg_model.specs.States.{State, row_at, process_at, has_child, has_live, child_enables}
use Rattle.cg_cgroup.specs.declared.files.Controller.{Controller}
use Rattle.cg_cgroup.specs.declared.cgroup.Cgroup.{Cgroup}
use Rattle.cg_cgroup.specs.declared.process.Process.{Process}
use Rattle.cg_cgroup.proofs.PathOrder.{path_cmp_total, path_cmp-IsAntisymmetric}
use Rattle.cg_model.proofs.MapLaws.{list_any-map, any_entry, entry_any}

-- ---- children

pub has_child-row : (st : State) (path : Names) → has_child st path ≡ true
    → (q : Names) × (row : Cgroup) × (row_at st q ≡ Some row) × (is_child path q ≡ true)
has_child-row st path h =
    any_entry path_cmp_total (λ e. is_child path e.0) st.rows (sym (list_any-map (is_child path) (λ e. e.0) (finite.entries st.rows)) ∙ h)

pub row-has_child : (st : State) (path q : Names) (row : Cgroup) → row_at st q ≡ Some row → is_child path q ≡ true
    → has_child st path ≡ true
row-has_child st path q row is child =
    list_any-map (is_child path) (λ e. e.0) (finite.entries st.rows)
    ∙ entry_any path_cmp-IsAntisymmetric (λ e. is_child path e.0) st.rows q row is child

pub child_enables-row : (st : State) (path : Names) (controller : Controller) → child_enables st path controller ≡ true
    → (q : Names) × (row : Cgroup) × (row_at st q ≡ Some row) × (is_child path q ≡ true) × (enables row.enabled controller ≡ true)
child_enables-row st path controller h =
    let found = any_entry path_cmp_total (λ e. is_child path e.0 && enables e.1.enabled controller) st.rows h in
    (found.0, found.1, found.2, first_so _ _ found.3, second_so (is_child path found.0) _ found.3)

pub row-child_enables : (st : State) (path q : Names) (row : Cgroup) (controller : Controller) → row_at st q ≡ Some row
    → is_child path q ≡ true → enables row.enabled controller ≡ true
    → child_enables st path controller ≡ true
row-child_enables st path q row controller is child on =
    entry_any path_cmp-IsAntisymmetric (λ e. is_child path e.0 && enables e.1.enabled controller) st.rows q row is (both_true child on)

-- ---- live processes

pub has_live-process : (st : State) (path : Names) → has_live st path ≡ true
    → (pid : ℕ) × (process : Process) × (process_at st pid ≡ Some process) × (same_path process.place path ≡ true)
has_live-process st path h =
    any_entry nat_cmp_total (λ e. same_path e.1.place path) st.live
    (sym (list_any-map (λ process. same_path process.place path) (λ e. e.1) (finite.entries st.live)) ∙ h)

pub process-has_live : (st : State) (path : Names) (pid : ℕ) (process : Process) → process_at st pid ≡ Some process
    → same_path process.place path ≡ true → has_live st path ≡ true
process-has_live st path pid process is there =
    list_any-map (λ process. same_path process.place path) (λ e. e.1) (finite.entries st.live)
    ∙ entry_any finite.nat_cmp-IsAntisymmetric (λ e. same_path e.1.place path) st.live pid process is there

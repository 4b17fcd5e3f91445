-- What reading a state gives after each change.
use Rattle.std.proofs.Common.{◌≡◌, ℕ, false, cond, ◌||◌, refl, sym, ap, ◌∙◌, Some, None, option_map, nat_eq, eq-eqb}
use Rattle.std.specs.Ordering.{eq_by_cmp, nat_cmp}
use Rattle.std.specs.Cmp.{eq_by_cmp_equiv, nat_cmp_total, unsigned_ties}
use Rattle.std.specs.FinMap as finite
use Rattle.std.specs.FinSet as set
use Rattle.cg_cgroup.specs.Paths.{Names, path_cmp, same_path}
use Rattle.cg_cgroup.specs.Identity.{Identity}
use Rattle.cg_cgroup.specs.Cgroups.{with_value_in, with_mode_in}
use Rattle.cg_model.specs.States.{State, row_at, process_at, is_used, change_at, enabling, with_row, without_row, with_value, with_mode, with_enabled, placed_at, with_place, with_process, without_process}
use Rattle.cg_cgroup.specs.declared.value.Value.{Value}
use Rattle.cg_cgroup.specs.declared.controllers.ControllerSet.{ControllerSet}
use Rattle.cg_cgroup.specs.declared.files.LimitFile.{LimitFile}
use Rattle.cg_cgroup.specs.declared.files.EntryName.{EntryName}
use Rattle.cg_cgroup.specs.declared.cgroup.Cgroup.{Cgroup}
use Rattle.cg_cgroup.proofs.PathOrder.{path_cmp_total, path_cmp-IsAntisymmetric, same_path-ties, same_path_refl}
use Rattle.cg_model.proofs.MapLaws.{get-changed, get-change_value}

-- the key that is asked for and the one that was changed, tested the other way round
pub path_tie : (p q : Names) → eq_by_cmp path_cmp q p ≡ same_path p q
path_tie p q = (eq_by_cmp_equiv path_cmp_total).symm q p ∙ sym (same_path-ties p q)

pid_tie : (p q : ℕ) → eq_by_cmp nat_cmp q p ≡ nat_eq p q
pid_tie p q = (eq_by_cmp_equiv nat_cmp_total).symm q p ∙ sym (unsigned_ties p q)

-- ---- rows

pub row_at-with_row : (st : State) (p : Names) (row : Cgroup) (q : Names)
    → row_at (with_row st p row) q ≡ cond (same_path p q) (Some row) (row_at st q)
row_at-with_row st p row q = finite.get-insert path_cmp_total st.rows p row q ∙ ap (λ b. cond b (Some row) (row_at st q)) (path_tie p q)

pub row_at-without_row : (st : State) (p q : Names) → row_at (without_row st p) q ≡ cond (same_path p q) None (row_at st q)
row_at-without_row st p q = finite.get-remove path_cmp_total st.rows p q ∙ ap (λ b. cond b None (row_at st q)) (path_tie p q)

pub row_at-change_at : (p : Names) (f : Cgroup → Cgroup) (st : State) (q : Names)
    → row_at (change_at p f st) q ≡ cond (same_path p q) (option_map f (row_at st q)) (row_at st q)
row_at-change_at p f st q =
    get-change_value path_cmp_total st.rows p f q ∙ ap (λ b. cond b (option_map f (row_at st q)) (row_at st q)) (sym (same_path-ties p q))

pub row_at-with_value : (st : State) (p : Names) (file : LimitFile) (value : Value) (q : Names)
    → row_at (with_value st p file value) q ≡ cond (same_path p q) (option_map (with_value_in file value) (row_at st q)) (row_at st q)
row_at-with_value st p file value q = row_at-change_at p (with_value_in file value) st q

pub row_at-with_mode : (st : State) (p : Names) (name : EntryName) (mode : ℕ) (q : Names)
    → row_at (with_mode st p name mode) q ≡ cond (same_path p q) (option_map (with_mode_in name mode) (row_at st q)) (row_at st q)
row_at-with_mode st p name mode q = row_at-change_at p (with_mode_in name mode) st q

pub row_at-with_enabled : (st : State) (p : Names) (enabled : ControllerSet) (user : Identity) (q : Names)
    → row_at (with_enabled st p enabled user) q ≡ option_map (enabling p enabled user q) (row_at st q)
row_at-with_enabled st p enabled user q = get-changed path_cmp-IsAntisymmetric (enabling p enabled user) st.rows q

-- ---- live processes

pub process_at-with_place : (st : State) (pid : ℕ) (p : Names) (q : ℕ)
    → process_at (with_place st pid p) q ≡ cond (nat_eq pid q) (option_map (placed_at p) (process_at st q)) (process_at st q)
process_at-with_place st pid p q =
    get-change_value nat_cmp_total st.live pid (placed_at p) q
    ∙ ap (λ b. cond b (option_map (placed_at p) (process_at st q)) (process_at st q)) (sym (unsigned_ties pid q))

pub process_at-with_process : (st : State) (pid uid : ℕ) (p : Names) (q : ℕ)
    → process_at (with_process st pid uid p) q ≡ cond (nat_eq pid q) (Some (record { uid = uid; place = p })) (process_at st q)
process_at-with_process st pid uid p q =
    finite.get-insert nat_cmp_total st.live pid _ q
    ∙ ap (λ b. cond b (Some (record { uid = uid; place = p })) (process_at st q)) (pid_tie pid q)

pub process_at-without_process : (st : State) (pid q : ℕ)
    → process_at (without_process st pid) q ≡ cond (nat_eq pid q) None (process_at st q)
process_at-without_process st pid q = finite.get-remove nat_cmp_total st.live pid q
    ∙ ap (λ b. cond b None (process_at st q)) (pid_tie pid q)

-- ---- used PIDs

pub is_used-with_process : (st : State) (pid uid : ℕ) (p : Names) (q : ℕ)
    → is_used (with_process st pid uid p) q ≡ (nat_eq pid q || is_used st q)
is_used-with_process st pid uid p q = set.contains-insert nat_cmp_total st.used pid q ∙ ap (λ b. b || is_used st q) (pid_tie pid q)

-- ---- the same key, and another

module _ (p : Names) where
  at_same : {A : Type 0} (x y : A) → cond (same_path p p) x y ≡ x
  at_same x y = ap (λ b. cond b x y) (same_path_refl p)

  at_other : {A : Type 0} (q : Names) (x y : A) → same_path p q ≡ false → cond (same_path p q) x y ≡ y
  at_other q x y apart = ap (λ b. cond b x y) apart

  pub row_at-with_row-same : (st : State) (row : Cgroup) → row_at (with_row st p row) p ≡ Some row
  row_at-with_row-same st row = row_at-with_row st p row p ∙ at_same _ _

  pub row_at-with_row-other : (st : State) (row : Cgroup) (q : Names) → same_path p q ≡ false → row_at (with_row st p row) q ≡ row_at st q
  row_at-with_row-other st row q apart = row_at-with_row st p row q ∙ at_other q _ _ apart

  pub row_at-without_row-same : (st : State) → row_at (without_row st p) p ≡ None
  row_at-without_row-same st = row_at-without_row st p p ∙ at_same _ _

  pub row_at-without_row-other : (st : State) (q : Names) → same_path p q ≡ false → row_at (without_row st p) q ≡ row_at st q
  row_at-without_row-other st q apart = row_at-without_row st p q ∙ at_other q _ _ apart

pid_same : {A : Type 0} (pid : ℕ) (x y : A) → cond (nat_eq pid pid) x y ≡ x
pid_same pid x y = ap (λ b. cond b x y) (eq-eqb pid pid refl)

pub process_at-with_place-same : (st : State) (pid : ℕ) (p : Names)
    → process_at (with_place st pid p) pid ≡ option_map (placed_at p) (process_at st pid)
process_at-with_place-same st pid p = process_at-with_place st pid p pid ∙ pid_same pid _ _

pub process_at-with_place-other : (st : State) (pid : ℕ) (p : Names) (q : ℕ) → nat_eq pid q ≡ false
    → process_at (with_place st pid p) q ≡ process_at st q
process_at-with_place-other st pid p q apart = process_at-with_place st pid p q
    ∙ ap (λ b. cond b (option_map (placed_at p) (process_at st q)) (process_at st q)) apart

pub process_at-with_process-other : (st : State) (pid uid : ℕ) (p : Names) (q : ℕ) → nat_eq pid q ≡ false
    → process_at (with_process st pid uid p) q ≡ process_at st q
process_at-with_process-other st pid uid p q apart = process_at-with_process st pid uid p q
    ∙ ap (λ b. cond b (Some (record { uid = uid; place = p })) (process_at st q)) apart

pub process_at-without_process-other : (st : State) (pid q : ℕ) → nat_eq pid q ≡ false
    → process_at (without_process st pid) q ≡ process_at st q
process_at-without_process-other st pid q apart = process_at-without_process st pid q ∙ ap (λ b. cond b None (process_at st q)) apart

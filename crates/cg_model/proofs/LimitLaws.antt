-- Limits that may stand or not: the test of two maps of them tells whether they are the same, and a cgroup's own two.
use Rattle.std.proofs.Common.{◌≡◌, ℕ, Bool, true, ◌&&◌, Option, Some, None, option_and_then, refl, ap}
use Rattle.std.proofs.lemmas.Bool.{false≢true, eqb-true, eq-eqb, and_parts, and_from}
use Rattle.std.specs.List.{list_all}
use Rattle.std.specs.Option.{option_eq}
use mathlib.Core.Bool.{beq}
use Rattle.cg_cgroup.specs.Paths.{Names, same_name}
use Rattle.cg_cgroup.specs.Files.{all_files, all_others, all_controllers}
use Rattle.cg_cgroup.specs.Cgroups.{value_in}
use Rattle.std.specs.Cmp.Lexicographic.{bytes_decides}
use Rattle.cg_cgroup.specs.declared.other_file.OtherFile.{OtherFile}
use Rattle.cg_cgroup.specs.declared.told.FileText.{FileText}
use Rattle.cg_cgroup.proofs.AllOthers.{each_other, others_pass}
use Rattle.cg_cgroup.proofs.AllFiles.{each_passes, all_pass}
use Rattle.cg_cgroup.proofs.ControllerLaws.{flag_same, flag_itself, each_controller, all_controllers_pass}
use Rattle.cg_cgroup.specs.declared.files.Limit.{Limit}
use Rattle.cg_cgroup.specs.declared.files.Limit.TheVariants.{Max, At}
use Rattle.cg_cgroup.specs.declared.files.Controller.{Controller}
use Rattle.cg_cgroup.specs.declared.files.LimitFile.{LimitFile}
use Rattle.cg_cgroup.specs.declared.files.LimitFile.TheVariants.{MaxDescendants, MaxDepth}
use Rattle.cg_model.specs.States.{State, row_at, value_at, count_below, depth_below}
use Rattle.cg_model.specs.Limits.{Limits, same_limit, same_limits, is_within_limit, fits_descendants, fits_depth}

same_value-is : (value other : Option Limit) → option_eq same_limit value other ≡ true → value ≡ other
same_value-is None None h = refl
same_value-is None (Some other) h = absurd (false≢true h)
same_value-is (Some value) None h = absurd (false≢true h)
same_value-is (Some Max) (Some Max) h = refl
same_value-is (Some Max) (Some (At n)) h = absurd (false≢true h)
same_value-is (Some (At m)) (Some Max) h = absurd (false≢true h)
same_value-is (Some (At m)) (Some (At n)) h = ap (λ k. Some (At k)) (eqb-true m n h)

same_value-itself : (value : Option Limit) → option_eq same_limit value value ≡ true
same_value-itself None = refl
same_value-itself (Some Max) = refl
same_value-itself (Some (At m)) = eq-eqb m m refl

same_text-is : (text other : Option FileText) → option_eq same_name text other ≡ true → text ≡ other
same_text-is None None h = refl
same_text-is None (Some other) h = absurd (false≢true h)
same_text-is (Some text) None h = absurd (false≢true h)
same_text-is (Some text) (Some other) h = ap Some ((bytes_decides text other).0 h)

same_text-itself : (text : Option FileText) → option_eq same_name text text ≡ true
same_text-itself None = refl
same_text-itself (Some text) = (bytes_decides text text).1 refl

pub same_limits-is : (these those : Limits) → same_limits these those ≡ true → these ≡ those
same_limits-is these those h =
    let same_values : LimitFile → Bool = λ file. option_eq same_limit (these.values file) (those.values file) in
    let same_others : Controller → Bool = λ controller. beq (these.others controller) (those.others controller) in
    let same_texts : OtherFile → Bool = λ file. option_eq same_name (these.told file) (those.told file) in
    let later = and_parts (list_all same_values all_files && list_all same_others all_controllers) (list_all same_texts all_others) h in
    let parts = and_parts (list_all same_values all_files) (list_all same_others all_controllers) later.0 in
    λ i. record {
      values = λ file. same_value-is (these.values file) (those.values file) (each_passes same_values parts.0 file) i;
      others = λ controller.
          flag_same (these.others controller) (those.others controller) (each_controller same_others parts.1 controller) i;
      told = λ file. same_text-is (these.told file) (those.told file) (each_other same_texts later.1 file) i;
    }

pub same_limits-itself : (these : Limits) → same_limits these these ≡ true
same_limits-itself these =
    and_from _ _
    (and_from _ _
    (all_pass (λ file. option_eq same_limit (these.values file) (these.values file))
    (λ file. same_value-itself (these.values file)) all_files)
    (all_controllers_pass (λ controller. beq (these.others controller) (these.others controller))
    (λ controller. flag_itself (these.others controller))))
    (others_pass (λ file. option_eq same_name (these.told file) (these.told file))
    (λ file. same_text-itself (these.told file)) all_others)

-- ---- the two limits of what lies below

-- whether so many are within a limit that may not stand
abbrev pub fits_in : ℕ → Option Limit → Bool
fits_in count None = true
fits_in count (Some limit) = is_within_limit count limit

pub descendants-limit : (st : State) (path : Names)
    → fits_descendants st path ≡ fits_in (count_below st path) (value_at st path MaxDescendants)
descendants-limit st path =
    elim (row_at st path) as (λ found.
    elim found [ None ↦ true | Some row ↦ is_within_limit (count_below st path) row.max_descendants.value ]
    ≡ fits_in (count_below st path) (option_and_then (λ row. value_in row MaxDescendants) found)) [ None ↦ refl | Some row ↦ refl ]

pub depth-limit : (st : State) (path : Names) → fits_depth st path ≡ fits_in (depth_below st path) (value_at st path MaxDepth)
depth-limit st path =
    elim (row_at st path) as (λ found. elim found [ None ↦ true | Some row ↦ is_within_limit (depth_below st path) row.max_depth.value ]
    ≡ fits_in (depth_below st path) (option_and_then (λ row. value_in row MaxDepth) found)) [ None ↦ refl | Some row ↦ refl ]

-- The limits of a cgroup, and whether it is within its own limits of descendants and depth.
use Rattle.std.specs.Prelude.{ℕ, Bool, true, false, ◌&&◌, nat_eq, nat_le, Option, Some, None, is_some, option_and_then, nat_lt}
use mathlib.Core.Bool.{beq}
use Rattle.std.specs.List.{list_all}
use Rattle.std.specs.Option.{option_eq}
use Rattle.cg_cgroup.specs.Paths.{Names, same_name}
use Rattle.cg_cgroup.specs.Files.{all_files, all_others, all_controllers}
use Rattle.cg_cgroup.specs.Told.{told_in}
use Rattle.cg_cgroup.specs.declared.other_file.OtherFile.{OtherFile}
use Rattle.cg_cgroup.specs.declared.told.FileText.{FileText}
use Rattle.cg_cgroup.specs.declared.told.ToldFiles.{ToldFiles}
use Rattle.cg_cgroup.specs.Cgroups.{value_in, other_in}
use Rattle.cg_cgroup.specs.declared.files.Limit.{Limit}
use Rattle.cg_cgroup.specs.declared.files.Limit.TheVariants.{Max, At}
use Rattle.cg_cgroup.specs.declared.files.LimitFile.{LimitFile}
use Rattle.cg_cgroup.specs.declared.files.Controller.{Controller}
use Rattle.cg_cgroup.specs.declared.cgroup.Cgroup.{Cgroup}
use Rattle.cg_model.specs.States.{State, row_at, value_at, other_at, told_text, count_below, depth_below}

-- Own: whether so many are fewer than a limit allows.
abbrev pub is_under : ℕ → Limit → Bool
is_under count Max = true
is_under count (At most) = nat_lt count most

-- The limits of a cgroup: the value of each file of `LimitFile` that stands there, and whether the other files of each
-- controller do, and the values that are told of these.
pub record Limits : Type 0 where
  pub values : LimitFile → Option Limit
  pub others : Controller → Bool
  pub told : OtherFile → Option FileText

-- Core Interface Files; CPU, Memory and PID; Enabling and Disabling: the limits set on a cgroup.
abbrev pub limits : State → Names → Limits
limits st path = record { values = value_at st path; others = λ controller. is_some (other_at st path controller); told = told_text st path }

-- those of a cgroup that is there, of whose files so much is told
abbrev pub texts_in : Option ToldFiles → OtherFile → Option FileText
texts_in told file = option_and_then (λ told. told.value) (option_and_then (λ files. told_in files file) told)

abbrev pub limits_in : Cgroup → Option ToldFiles → Limits
limits_in row told = record { values = value_in row; others = λ controller. is_some (other_in row controller); told = texts_in told }

abbrev pub same_limit : Limit → Limit → Bool
same_limit Max Max = true
same_limit (At value) (At other) = nat_eq value other
same_limit limit other = false

-- The same files stand, with the same values. Own: those of a file beyond `LimitFile` are compared as texts.
abbrev pub same_limits : Limits → Limits → Bool
same_limits these those =
    list_all (λ file. option_eq same_limit (these.values file) (those.values file)) all_files
    && list_all (λ controller. beq (these.others controller) (those.others controller)) all_controllers
    && list_all (λ file. option_eq same_name (these.told file) (those.told file)) all_others

-- Own: whether so many are within a limit.
abbrev pub is_within_limit : ℕ → Limit → Bool
is_within_limit count Max = true
is_within_limit count (At most) = nat_le count most

-- Core Interface Files, cgroup.max.descendants: a cgroup that is there has no more descendants than it says.
abbrev pub fits_descendants : State → Names → Bool
fits_descendants st path = elim (row_at st path) [ None ↦ true | Some row ↦ is_within_limit (count_below st path) row.max_descendants.value ]

-- Core Interface Files, cgroup.max.depth: a cgroup that is there has no descendant further down than it says.
abbrev pub fits_depth : State → Names → Bool
fits_depth st path = elim (row_at st path) [ None ↦ true | Some row ↦ is_within_limit (depth_below st path) row.max_depth.value ]

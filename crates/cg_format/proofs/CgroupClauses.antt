-- The clauses on the cgroups together, one by one, as `cgroup_faults` asks them.
use Rattle.std.proofs.Common.{◌||◌, not, List, codes, Some}
use Rattle.toml.specs.Data.{Members}
use Rattle.cg_cgroup.specs.Paths.{is_root, parent}
use Rattle.cg_cgroup.specs.Files.{no_controllers, is_within}
use Rattle.cg_cgroup.specs.declared.controllers.ControllerSet.{ControllerSet}
use Rattle.cg_model.specs.Clauses.{unless, present}
use Rattle.cg_format.specs.Said.{path_said, controllers_said}
use Rattle.cg_format.specs.TextFaults.{is_there, over, on_path, names_standing}
use Rattle.cg_format.specs.declared.format.Format.{Format}
use Rattle.cg_format.specs.declared.fault.Place.{Place}
use Rattle.cg_format.specs.declared.fault.TreeFault.{TreeFault}
use Rattle.cg_format.specs.declared.fault.TreeFault.TheVariants.{Duplicate, NoParent, TopDown, NoSuchFile}

abbrev pub CgroupClause : Type 0
CgroupClause = List Members → Place → Members → List TreeFault

abbrev pub twice_clause : CgroupClause
twice_clause earlier place row = present (path_said (codes "path") row) (λ path. unless (not (is_there earlier path)) (Duplicate place))

abbrev pub orphan_clause : List Members → CgroupClause
orphan_clause tables = on_path (λ path place row. unless (is_root path || is_there tables (parent path)) (NoParent place))

abbrev pub within_clause : ControllerSet → List Members → CgroupClause
within_clause controllers tables = on_path (λ path place row.
    present (controllers_said (codes "enabled") row) (λ enabled. present (over (Some controllers) tables path)
    (λ available. unless (is_within enabled available) (TopDown place))))

abbrev pub files_clause : Format → List Members → CgroupClause
files_clause format tables = on_path (λ path place row. present (over (Some no_controllers) tables path) (λ above.
    unless (names_standing format path above row) (NoSuchFile place)))

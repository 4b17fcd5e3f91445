use Rattle.std.proofs.Common.{rules}
use Rattle.cg_cgroup.specs.Files.{all_controllers}
use Rattle.cg_cgroup.specs.declared.files.Controller.TheVariants.{Cpu}
use Rattle.cg_cgroup.proofs.ControllerLaws.{same_flags}
use Rattle.cg_text.specs.Rows.{needs, needed_by, names}
use Rattle.cg_cgroup.proofs.Mapped.{mapped}
use Rattle.cg_text.proofs.tree.row.Entries.needed.Goals as goal

pub returns : goal.returns
returns c =
    same_flags _ (needed_by c.args.self)
    (mapped all_controllers c.map.result c.map.ensures.items (needs (names c.args.self))
    (λ controller is_needed left called. (search rules, search rules)) Cpu)

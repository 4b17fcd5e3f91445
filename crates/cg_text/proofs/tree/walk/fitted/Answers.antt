use Rattle.std.proofs.Common.{ap}
use Rattle.cg_cgroup.specs.declared.others.OtherFiles.{OtherFiles}
use Rattle.cg_cgroup.proofs.CgroupLaws.{same_refitted}
use Rattle.cg_text.proofs.tree.walk.fitted.Goals as goal

pub returns : goal.returns
returns c =
    same_refitted c.args.cgroup _ _ _ _ c.standing_files.ensures (ap (λ (others : OtherFiles). others.entries) c.under.ensures)

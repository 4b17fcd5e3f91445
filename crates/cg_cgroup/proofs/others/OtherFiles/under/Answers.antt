use Rattle.cg_cgroup.specs.Cgroups.{others_under}
use Rattle.cg_cgroup.proofs.CgroupLaws.{same_others}
use Rattle.cg_cgroup.proofs.others.OtherFiles.under.Goals as goal

pub returns : goal.returns
returns c = same_others (others_under c.args.enabled c.args.entry) _ c.standing_entries.ensures

use Rattle.cg_cgroup.proofs.CgroupLaws.{same_refitted}
use Rattle.cg_cgroup.proofs.cgroup.Cgroup.refit.Goals as goal

pub returns : goal.returns
returns c = same_refitted c.args.self.now _ _ _ _ c.refitted_files.ensures c.refitted_others.ensures

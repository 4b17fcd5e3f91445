use Rattle.std.proofs.Common.{◌∙◌}
use Rattle.cg_cgroup.specs.Told.{nothing_told}
use Rattle.cg_cgroup.proofs.ToldLaws.{same_told}
use Rattle.cg_cgroup.proofs.told.ToldFiles.none.Goals as goal

pub returns : goal.returns
returns c = same_told nothing_told _ (c.in_ok-new.ensures.ok ∙ c.none_told.ensures)

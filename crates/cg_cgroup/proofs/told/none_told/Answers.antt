use Rattle.std.proofs.Common.{rules, None}
use Rattle.cg_cgroup.specs.OtherKinds.{all_others}
use Rattle.cg_cgroup.specs.declared.other_file.OtherFile.TheVariants.{CpuMax}
use Rattle.cg_cgroup.proofs.Mapped.{mapped}
use Rattle.cg_cgroup.proofs.told.none_told.Goals as goal

pub returns : goal.returns
returns c = mapped all_others c.map.result c.map.ensures.items (λ file. None) (λ x y left called. (search rules, search rules)) CpuMax

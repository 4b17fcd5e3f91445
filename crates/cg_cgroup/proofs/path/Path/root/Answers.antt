use Rattle.std.proofs.Common.{[], refl}
use Rattle.cg_cgroup.proofs.PathNames.{IsKept-at, names_of-at}
use Rattle.cg_cgroup.proofs.path.Path.root.Goals as goal

pub invariant_of-result : goal.invariant_of-result
invariant_of-result c = IsKept-at _ _ [] refl c.new.ensures.bytes c.new-2.ensures.items

pub returns : goal.returns
returns c = names_of-at _ [] refl c.new.ensures.bytes

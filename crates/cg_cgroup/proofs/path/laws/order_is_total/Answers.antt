use Rattle.cg_cgroup.proofs.PathOrder.{path_cmp_total, path_cmp-IsAntisymmetric, same_path_decides}
use Rattle.cg_cgroup.proofs.PathLaws.{inside-first, inside_between}
use Rattle.cg_cgroup.proofs.path.laws.order_is_total.Goals as goal

pub returns : goal.returns
returns c = record {
  total = path_cmp_total;
  antisymmetric = path_cmp-IsAntisymmetric;
  same = same_path_decides;
  inside_after = inside-first;
  inside_together = inside_between;
}

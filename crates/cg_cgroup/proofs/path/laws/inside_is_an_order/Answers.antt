use Rattle.cg_cgroup.proofs.PathLaws.{inside_refl, inside_trans, inside_antisym, inside_decides}
use Rattle.cg_cgroup.proofs.path.laws.inside_is_an_order.Goals as goal

pub returns : goal.returns
returns c =
    record { reflexive = inside_refl; transitive = inside_trans; antisymmetric = inside_antisym; first_names = inside_decides }

use Rattle.cg_cgroup.proofs.PathLaws.{common-inside_first, common-inside_second, common-longest, common-take, common-only}
use Rattle.cg_cgroup.proofs.path.laws.common_is_longest.Goals as goal

pub returns : goal.returns
returns c =
    record {
      first = common-inside_first;
      second = common-inside_second;
      longest = common-longest;
      taken = common-take;
      only = common-only;
    }

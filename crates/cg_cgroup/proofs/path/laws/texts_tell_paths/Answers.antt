use Rattle.cg_cgroup.proofs.PathNames.{IsPath-take}
use Rattle.cg_cgroup.proofs.PathAt.{path_at-is, path_at-text}
use Rattle.cg_cgroup.proofs.PathLaws.{path_text-injective, names_of-a_path}
use Rattle.cg_cgroup.proofs.path.laws.texts_tell_paths.Goals as goal

pub returns : goal.returns
returns c =
    record {
      injective = path_text-injective;
      found = path_at-text;
      spelled = path_at-is;
      names = names_of-a_path;
      prefixes = IsPath-take;
    }

use Rattle.cg_cgroup.proofs.NameLaws.{controller_names, file_names, entry_names}
use Rattle.cg_cgroup.proofs.files.names_are_exact.Goals as goal

pub returns : goal.returns
returns c = record { controllers = controller_names; files = file_names; entries = entry_names }

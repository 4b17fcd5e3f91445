use Rattle.cg_cgroup.proofs.NameLaws.{file_found, file_missed}
use Rattle.cg_cgroup.proofs.files.LimitFile.from_name.Goals as goal

pub returns-clause-named : goal.returns-clause-named
returns-clause-named c = file_found c.args.text.now _ c.file_of_name.ensures

pub returns-clause-unnamed : goal.returns-clause-unnamed
returns-clause-unnamed c = file_missed c.args.text.now _ c.file_of_name.ensures

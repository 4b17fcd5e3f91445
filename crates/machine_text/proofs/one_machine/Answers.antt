use Rattle.machine_text.proofs.One.{same_paths, same_files, same_places}
use Rattle.machine_text.proofs.one_machine.Goals as goal

pub returns : goal.returns
returns c = record {
  paths = λ text one other path is also. same_paths text one other is also path;
  files = λ text one other path file is also. same_files text one other is also path file;
  places = λ text one other pid is also. same_places text one other is also pid;
}

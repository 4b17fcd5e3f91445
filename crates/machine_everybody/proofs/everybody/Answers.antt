use Rattle.machine_everybody.proofs.Guarding.{held, again, exactly}
use Rattle.machine_everybody.proofs.everybody.Goals as goal

pub returns : goal.returns
returns c = record {
  held = λ machine asked users subtree present guarded real. held machine asked users subtree present guarded real;
  again = λ machine asked users subtree turns present guarded real all. again machine asked users subtree present guarded real turns all;
  exactly = exactly;
}

use Rattle.machine_everybody.proofs.LetIn.{reached}
use Rattle.machine_everybody.proofs.Guarding.{unlisted, listed}
use Rattle.machine_everybody.proofs.classes.Goals as goal

pub returns : goal.returns
returns c = record {
  reached = reached;
  unlisted = λ machine asked users subtree present fits none. unlisted machine asked users subtree present fits none;
  listed = λ machine asked user subtree real fits. listed machine asked subtree user real fits;
}

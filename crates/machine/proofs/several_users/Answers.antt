use Rattle.machine.proofs.Runs.{contained-all, strangers-all, again-all}
use Rattle.machine.proofs.several_users.Goals as goal

pub returns : goal.returns
returns c = record {
  held = contained-all;
  again = λ machine users subtree turns present guarded all. again-all machine users subtree present guarded turns all;
  strangers = λ machine users subtree turns user act present guarded standing leaving named.
      strangers-all machine users subtree present guarded turns user act standing leaving named;
}

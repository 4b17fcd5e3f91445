use Rattle.cg_runs.proofs.ReplayLaws.{run-stepped}
use Rattle.cg_runs.proofs.laws.replay_follows_its_run.Goals as goal

pub returns : goal.returns
returns c = run-stepped

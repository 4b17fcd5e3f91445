use Rattle.cg_laws.proofs.RunLaws.{contained-guarded}
use Rattle.cg_laws.proofs.runs.guarded_is_contained.Goals as goal

pub returns : goal.returns
returns c = contained-guarded

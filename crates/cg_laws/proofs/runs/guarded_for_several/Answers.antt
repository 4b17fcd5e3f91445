use Rattle.cg_laws.proofs.RunLaws.{held-guarded, guarded-again}
use Rattle.cg_laws.proofs.runs.guarded_for_several.Goals as goal

pub returns : goal.returns
returns c = record { held = held-guarded; again = guarded-again }

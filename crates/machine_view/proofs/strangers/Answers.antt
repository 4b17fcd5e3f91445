use Rattle.cg_model.specs.Steps.{after}
use Rattle.cg_laws.proofs.Steps.{sound-formed, hold-unopened}
use Rattle.machine_view.proofs.Seen.{guarded}
use Rattle.machine_view.proofs.strangers.Goals as goal

pub returns : goal.returns
returns c = λ st user other subtree op formed is hold there same shut.
    (guarded (after st other op) user subtree
    (hold-unopened st user other subtree op (sound-formed st formed) is hold there same shut)).closed
